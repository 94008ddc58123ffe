use Rattle.std.proofs.Common.{◌≡◌, ◌++◌, ◌∷◌, [], ap, ◌∙◌, rules}
use Rattle.hol_terms.specs.Nameless.{nameless}
use Rattle.hol_steps.proofs.OwnVariables.{universal_next, forall_formula}
use Rattle.hol_steps.proofs.Undetermined.{forall_next}
use Rattle.hol_steps.proofs.generalizing.universals.Goals as goal

pub variables-preserved : goal.variables-preserved
variables-preserved c =
    let left = c.variables.left.now in
    let outer = c.in-Some.outer.now in
    let v = c.in-Some.v.now in
    let whole = c.variables.whole in
    let new = c.in_ok-whole-2.whole in
    let is : left ≡ outer ++ v ∷ [] = search rules in
    record {
      bound = forall_next left outer c.args.variables.now v whole new c.args.p.now is c.in_ok-whole-2.ensures.is c.variables.invariant.bound;
      is =
          universal_next left outer c.args.variables.now v (nameless [] whole) (nameless [] new) (nameless [] c.args.p.now) is (ap (nameless []) c.in_ok-whole-2.ensures.is ∙ forall_formula v whole)
          c.variables.invariant.is;
      typed = c.in_ok-whole-2.ensures.typed;
    }
