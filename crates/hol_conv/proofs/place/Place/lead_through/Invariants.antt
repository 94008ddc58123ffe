use Rattle.std.proofs.Common.{◌≡◌, ◌++◌, length, reverse}
use Rattle.hol_terms.specs.Nameless.{Nameless}
use Rattle.hol_conv.specs.declared.redexes.Redexes.{Redexes}
use Rattle.hol_conv.specs.Kept.{node_of, steps_of, outward, NoneLeftOf, Led}
use Rattle.hol_conv.proofs.PlaceTraces.{IsGoing}
use Rattle.hol_conv.proofs.place.Place.lead_through.Given as goal

-- what is left of the steps leads on
abbrev pub invariant-steps : goal.invariant-steps
invariant-steps l = record {
  frames : l.self.frames.items ≡ l.fn.self.frames.items;
  part : l.self.part ≡ l.fn.self.part;
  led : (r : Redexes) (t n : Nameless) → NoneLeftOf r (reverse l.fn.steps.items) → Led r (reverse l.fn.steps.items ++ steps_of (reverse l.fn.self.frames.items)) (reverse l.fn.self.before.items) (reverse l.fn.self.functions.items) (node_of l.fn.self.node) t n
      → IsGoing r (reverse l.steps.items) (steps_of (reverse l.fn.self.frames.items)) (reverse l.self.before.items) (reverse l.self.functions.items) (node_of l.self.node) t (outward (reverse l.fn.steps.items) n);
}

abbrev pub decreases-steps : goal.decreases-steps
decreases-steps l = length l.steps.items
