use Rattle.std.proofs.Common.{◌≡◌, [], reverse}
use Rattle.hol_terms.specs.Nameless.{nameless}
use Rattle.hol_conv.specs.Redexes.{contraction}
use Rattle.hol_conv.specs.Turns.{turn, all_turns}
use Rattle.hol_conv.specs.Kept.{HasLed}
use Rattle.hol_conv.specs.Places.{whole, Stands}
use Rattle.hol_conv.proofs.all_turns.all_turns.Given as goal

-- what is left does the rest, the next redex is in the part or to the right of it, and the trace leads up to here
abbrev pub invariant-turns : goal.invariant-turns
invariant-turns l = record {
  same : all_turns (turn (contraction l.redexes) []) l.turns (nameless [] l.term) ≡ all_turns (turn (contraction l.redexes) []) l.left (whole (reverse l.place.frames.items) (nameless [] l.place.part));
  stands : Stands l.redexes (reverse l.place.frames.items) (nameless [] l.place.part);
  led : HasLed l.redexes (nameless [] l.term) l.place;
}

abbrev pub decreases-turns : goal.decreases-turns
decreases-turns l = l.left
