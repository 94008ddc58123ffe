-- What the code keeps of what rules were made of, cited by private clauses and by those on the way to a rule's theorem.
use Rattle.std.specs.Prelude.{◌≡◌, ℕ, List, true}
use Rattle.std.specs.FinSet as set
use Rattle.hol_types.specs.Tree.{TypeTree}
use Rattle.hol_types.specs.Names.{is_among}
use Rattle.hol_terms.specs.Nameless.{Nameless}
use Rattle.hol_terms.specs.Scoped.{binds}
use Rattle.hol_subst.specs.Variant.{is_free_in}
use Rattle.hol_formulas.specs.Equation.{bool_type}
use Rattle.hol_kernel.specs.Given.{given_sequent}
use Rattle.hol_kernel.specs.Items.{Items}
use Rattle.hol_kernel.specs.Typing.{has_type}
use Rattle.hol_match.specs.Givens.{holds_given}
use Rattle.hol_match.specs.Rules.{generalized, pattern_variables}
use Rattle.hol_match.specs.Ways.{RuleWay, IsOnWay}
use Rattle.hol_match.specs.Opening.{has_type_var_in}
use Rattle.hol_match.specs.declared.source.Source.{Source}

-- the conclusion, generalized over the variables that may be instantiated
abbrev pub source_whole : Source → Nameless
source_whole s = generalized s.variables.items (given_sequent s.given).concl

-- the rule is one of the source
abbrev pub IsFrom : Source → RuleWay → Type 0
IsFrom s w = IsOnWay s.fixed.names.items s.fixed.variables.items (source_whole s) w

-- the variables that may be instantiated are those of the conclusion alone, what the hypotheses have stays, and the conclusion is a formula
-- wherever what was given can be read
pub record IsSound (s : Source) : Type 0 where
  pub own : s.variables.items ≡ pattern_variables s.fixed.variables.items (given_sequent s.given).concl
  pub variables : (v : List ℕ × TypeTree) → is_free_in (set.items (given_sequent s.given).hyps) v ≡ true → binds s.fixed.variables.items v ≡ true
  pub names : (a : List ℕ) → has_type_var_in (set.items (given_sequent s.given).hyps) a ≡ true → is_among s.fixed.names.items a ≡ true
  pub formula : (basis : Items) → holds_given s.given basis ≡ true → has_type basis (given_sequent s.given).concl bool_type ≡ true
