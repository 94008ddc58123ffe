use Rattle.std.proofs.Common.{◌≡◌, ◌≤◌, [], length, reverse}
use Rattle.std.specs.Prelude.{min}
use Rattle.hol_terms.specs.Nameless.{nameless}
use Rattle.hol_terms.specs.Size.{term_size}
use Rattle.hol_conv.proofs.PlaceSizes.{sized}
use Rattle.hol_conv.proofs.place.Place.size_with.Given as goal

abbrev pub invariant-frames : goal.invariant-frames
invariant-frames l = record {
  is : sized (reverse l.outer) l.size ≡ sized (reverse l.self.frames.items) (min (term_size [] (nameless [] l.part)) 20001);
  counted : l.size ≤ 20001;
}

abbrev pub decreases-frames : goal.decreases-frames
decreases-frames l = length l.outer
