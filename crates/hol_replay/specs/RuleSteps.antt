-- What private functions promise each other on the way to a rule's theorem.
use Rattle.std.specs.Prelude.{◌≡◌, ℕ, Bool, List, true, false, Some, is_some}
use Rattle.std.specs.List.{AllByRecursion}
use Rattle.std.specs.Option.{option_and_then}
use Rattle.std.specs.FinSet as set
use Rattle.hol_types.specs.Tree.{TypeTree}
use Rattle.hol_terms.specs.Nameless.{Nameless}
use Rattle.hol_subst.specs.Variant.{is_free_in}
use Rattle.hol_formulas.specs.Equation.{dest_eq}
use Rattle.hol_kernel.specs.Items.{Items}
use Rattle.hol_kernel.specs.Sequent.{Hyps}
use Rattle.hol_kernel.specs.Theorem.{Theorem}
use Rattle.hol_kernel.specs.Typing.{is_type}
use Rattle.hol_match.specs.Rules.{RuleValue, equation_rule}
use Rattle.hol_match.specs.Ways.{stepped, way}
use Rattle.hol_replay.specs.RuleTheorems.{side_equation}
use Rattle.hol_match.specs.declared.rule_step.RuleStep.{RuleStep}

-- n, under the same hypotheses over the same basis
pub record IsSame (n : Nameless) (th r : Theorem) : Type 0 where
  pub basis : r.basis ≡ th.basis
  pub hyps : r.sequent.hyps ≡ th.sequent.hyps
  pub concl : r.sequent.concl ≡ n

-- a step, or steps, from the theorem's conclusion
pub record IsStepped (step : RuleStep) (th r : Theorem) : Type 0 where
  pub basis : r.basis ≡ th.basis
  pub hyps : r.sequent.hyps ≡ th.sequent.hyps
  pub concl : stepped step th.sequent.concl ≡ Some r.sequent.concl

pub record IsFollowed (steps : List RuleStep) (th r : Theorem) : Type 0 where
  pub basis : r.basis ≡ th.basis
  pub hyps : r.sequent.hyps ≡ th.sequent.hyps
  pub concl : way steps th.sequent.concl ≡ Some r.sequent.concl

-- each of the variables has a type over the basis, and is free in no hypothesis
abbrev pub IsGeneral : Items → Hyps → List ℕ × TypeTree → Type 0
IsGeneral basis hs v = (is_type basis v.1 ≡ true) × (is_free_in (set.items hs) v ≡ false)

abbrev pub AreGeneral : Items → Hyps → List (List ℕ × TypeTree) → Type 0
AreGeneral basis hs vs = AllByRecursion (IsGeneral basis hs) vs

-- the rule's equation, under the same hypotheses over the same basis
abbrev pub IsEquation : RuleValue → Theorem → Theorem → Type 0
IsEquation rule th r = (a : TypeTree) × (r ≡ side_equation th.basis th.sequent.hyps a rule)

-- the rule of the formula is its equation
abbrev pub is_taken : List (List ℕ) → List (List ℕ × TypeTree) → Nameless → Bool
is_taken names variables p = is_some (option_and_then (equation_rule names variables) (dest_eq p))
