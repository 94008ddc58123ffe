use Rattle.std.proofs.Common.{◌≡◌, ◌++◌, List, [], map, Some}
use Rattle.hol_terms.specs.Named.{var, named_type}
use Rattle.hol_terms.specs.Nameless.{Nameless, nameless}
use Rattle.hol_subst.specs.Pairs.{nameless_pairs, HasBadPair}
use Rattle.hol_formulas.specs.Equation.{bool_type}
use Rattle.hol_match.specs.Rules.{nodes}
use Rattle.hol_steps.specs.Fresh.{AreAlike, DifferInNames}
use Rattle.hol_steps.proofs.Stages.{IsStage, AreApart, IsWithin}
use Rattle.hol_steps.proofs.Together.{AreVariables, left}
use Rattle.hol_steps.proofs.opening.Opened.of.Given as goal

abbrev pub invariant-binders : goal.invariant-binders
invariant-binders l = record {
  stage : (names : List Nameless) → AreAlike (map (nameless []) l.fn.avoid.items) names → IsStage names (map (nameless []) l.avoid.items) l.variables.items (nameless [] l.p) (left l.pairs.items l.rest);
  longer : l.avoid.items ≡ l.fn.avoid.items ++ map var l.variables.items;
  apart : AreApart (map (nameless []) l.fn.avoid.items) l.variables.items;
  different : DifferInNames l.variables.items;
  within : IsWithin l.variables.items (nameless [] l.p) (left l.pairs.items l.rest);
  typed : named_type l.rest ≡ Some bool_type;
  named : AreVariables (nameless_pairs l.pairs.items);
  good : HasBadPair l.pairs.items → ⊥;
}

abbrev pub decreases-binders : goal.decreases-binders
decreases-binders l = nodes (nameless [] l.rest)
