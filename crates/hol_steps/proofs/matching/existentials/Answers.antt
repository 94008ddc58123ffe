use Rattle.std.proofs.Common.{◌≡◌, ◌++◌, ◌∷◌, [], rules}
use Rattle.hol_terms.specs.Nameless.{nameless}
use Rattle.hol_steps.proofs.Undetermined.{exists_next}
use Rattle.hol_steps.proofs.matching.existentials.Goals as goal

pub variables-preserved : goal.variables-preserved
variables-preserved c =
    let is : c.variables.left.now ≡ c.in-Some.outer.now ++ c.in-Some.v.now ∷ [] = search rules in
    record {
      is = exists_next c.variables.left.now c.in-Some.outer.now c.args.variables.now c.in-Some.v.now c.variables.whole c.in_ok-whole-2.whole (nameless [] c.args.p.now) is c.in_ok-whole-2.ensures.is c.variables.invariant.is;
      typed = c.in_ok-whole-2.ensures.typed;
    }
