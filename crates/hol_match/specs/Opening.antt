-- How the code goes through a theorem's conclusion, cited by private clauses and by those on the way to a rule's theorem.
use Rattle.std.specs.Prelude.{◌≡◌, ℕ, List, ◌∷◌, Bool, false, ◌||◌, Some}
use Rattle.std.specs.List.{AllByRecursion, list_any}
use Rattle.hol_types.specs.Tree.{TypeTree}
use Rattle.hol_types.specs.Names.{is_among, type_names}
use Rattle.hol_terms.specs.Nameless.{Nameless, free, bound, fixed, app, lam}
use Rattle.hol_subst.specs.Closing.{open_with}
use Rattle.hol_subst.specs.FreeName.{IsFreeName}
use Rattle.hol_formulas.specs.Formula.{Abstraction}
use Rattle.hol_match.specs.declared.rule_step.RuleStep.{RuleStep}
use Rattle.hol_match.specs.Ways.{RuleWay, way, IsOnWay}

-- n is the body of x, which p quantifies over, at the variable v, called by its base name with the fewest primes that make it the name of no
-- free variable or constant of p and the hypotheses
pub record IsOpenedAt (hyps : List Nameless) (p : Nameless) (x : Abstraction) (v : List ℕ × TypeTree) (n : Nameless) : Type 0 where
  pub typed : v.1 ≡ x.domain
  pub named : IsFreeName (p ∷ hyps) x.base v.0
  pub is : n ≡ open_with (free v) 0 x.body

-- where the first steps lead to p, the new rules are on their ways, if the old ones are
abbrev pub AreAddedOnWay : List (List ℕ) → List (List ℕ × TypeTree) → List RuleStep → Nameless → List RuleWay → List RuleWay → Type 0
AreAddedOnWay names variables steps p old new = (whole : Nameless) → way steps whole ≡ Some p → AllByRecursion (IsOnWay names variables whole) old → AllByRecursion (IsOnWay names variables whole) new

-- the type variable stands in the term, or in one of the terms
abbrev pub has_type_var : List ℕ → Nameless → Bool
has_type_var a (free v) = is_among (type_names v.1) a
has_type_var a (bound i) = false
has_type_var a (fixed c s) = is_among (type_names s) a
has_type_var a (app f x) = has_type_var a f || has_type_var a x
has_type_var a (lam b s n) = is_among (type_names s) a || has_type_var a n

abbrev pub has_type_var_in : List Nameless → List ℕ → Bool
has_type_var_in terms a = list_any (has_type_var a) terms
