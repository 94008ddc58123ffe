use Rattle.std.proofs.Common.{◌≡◌, [], None, length, reverse}
use Rattle.hol_terms.specs.Nameless.{Nameless, nameless}
use Rattle.hol_conv.specs.Redexes.{contraction}
use Rattle.hol_conv.specs.Turns.{turn}
use Rattle.hol_conv.specs.Kept.{HasLed}
use Rattle.hol_conv.specs.Places.{waiting, Lands}
use Rattle.hol_conv.proofs.place.Place.leave.Given as goal

abbrev pub invariant-frames : goal.invariant-frames
invariant-frames l = record {
  lands : Lands l.redexes (reverse l.fn.self.frames.items) (nameless [] l.fn.self.part) (reverse l.self.frames.items) (nameless [] l.self.part);
  led : (t : Nameless) → HasLed l.redexes t l.fn.self → HasLed l.redexes t l.self;
  none : turn (contraction l.redexes) [] (nameless [] l.self.part) ≡ None;
  waiting : waiting (reverse l.self.frames.items) ≡ waiting (reverse l.fn.self.frames.items);
}

abbrev pub decreases-frames : goal.decreases-frames
decreases-frames l = length l.self.frames.items
