use Rattle.std.proofs.Common.{◌≡◌, ◌++◌, [], Some, length}
use Rattle.hol_terms.specs.Named.{named_type}
use Rattle.hol_terms.specs.Nameless.{nameless}
use Rattle.hol_formulas.specs.Equation.{bool_type}
use Rattle.hol_just.specs.Matching.{bound_variables}
use Rattle.hol_just.specs.MatchMp.{universals}
use Rattle.hol_steps.proofs.generalizing.universals.Given as goal

abbrev pub invariant-variables : goal.invariant-variables
invariant-variables l = record {
  bound : l.left ++ bound_variables l.whole ≡ l.variables ++ bound_variables l.p;
  is : universals l.left (nameless [] l.whole) ≡ universals l.variables (nameless [] l.p);
  typed : named_type l.whole ≡ Some bool_type;
}

abbrev pub decreases-variables : goal.decreases-variables
decreases-variables l = length l.left
