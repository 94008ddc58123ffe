use Rattle.std.proofs.Common.{◌+◌, [], reverse}
use Rattle.hol_terms.specs.Named.{term_nodes}
use Rattle.hol_terms.specs.Nameless.{Nameless, nameless}
use Rattle.hol_conv.specs.Kept.{HasLed}
use Rattle.hol_conv.specs.Places.{waiting, Lands}
use Rattle.hol_conv.proofs.place.Place.next.Given as goal

abbrev pub invariant-parts : goal.invariant-parts
invariant-parts l = record {
  lands : Lands l.redexes (reverse l.fn.self.frames.items) (nameless [] l.fn.self.part) (reverse l.self.frames.items) (nameless [] l.self.part);
  led : (t : Nameless) → HasLed l.redexes t l.fn.self → HasLed l.redexes t l.self;
}

abbrev pub decreases-parts : goal.decreases-parts
decreases-parts l = waiting (reverse l.self.frames.items) + term_nodes l.self.part
