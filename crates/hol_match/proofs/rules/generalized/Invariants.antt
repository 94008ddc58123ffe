use Rattle.std.proofs.Common.{◌≡◌, [], Some, drop}
use Rattle.hol_terms.specs.Named.{named_type}
use Rattle.hol_terms.specs.Nameless.{nameless}
use Rattle.hol_formulas.specs.Equation.{bool_type}
use Rattle.hol_match.specs.Rules.{generalized}
use Rattle.hol_match.proofs.rules.generalized.Given as goal

abbrev pub invariant-loop-v : goal.invariant-loop-v
invariant-loop-v l =
    (generalized l.variables (nameless [] l.p) ≡ generalized (drop l.v-index l.variables) (nameless [] l.whole))
    × (named_type l.whole ≡ Some bool_type)
