-- The way from a theorem's conclusion to the formula of one of its rules, and to the rule: quantifiers are taken off at variables, and
-- conjunctions taken apart.
-- Source: HOL Light's simp.ml, mk_rewrites, whose steps are SPEC, CONJUNCT1 and CONJUNCT2 of bool.ml.
use Rattle.std.specs.Prelude.{◌≡◌, ℕ, List, [], ◌∷◌, map, cond, Option, Some, None, refl}
use Rattle.std.specs.Option.{option_map, option_and_then}
use Rattle.std.specs.Coded.{Coded, code_by, coded×}
use Rattle.hol_types.specs.Tree.{TypeTree}
use Rattle.hol_types.specs.Equal.{type_eq}
use Rattle.hol_terms.specs.Nameless.{Nameless, free}
use Rattle.hol_terms.specs.Code.{coded_nameless}
use Rattle.hol_subst.specs.Closing.{open_with}
use Rattle.hol_formulas.specs.Formula.{Abstraction, dest_forall, dest_conj}
use Rattle.hol_match.specs.Rules.{RuleValue, rule, single_rule}
use Rattle.hol_match.specs.RuleView.{rule_value}
use Rattle.hol_match.specs.declared.rule.Rule.{Rule}
use Rattle.hol_match.specs.declared.rule_step.RuleStep.{RuleStep}
use Rattle.hol_match.specs.declared.rule_step.RuleStep.TheVariants.{At, First, Second}

-- the body at a variable of the type
abbrev pub body_at : List ℕ × TypeTree → Abstraction → Option Nameless
body_at v x = cond (type_eq v.1 x.domain) (Some (open_with (free v) 0 x.body)) None

abbrev pub stepped : RuleStep → Nameless → Option Nameless
stepped (At v) p = option_and_then (body_at v) (dest_forall p)
stepped First p = option_map (λ q. q.0) (dest_conj p)
stepped Second p = option_map (λ q. q.1) (dest_conj p)

-- the formula after all steps, of which the last comes first
abbrev pub way : List RuleStep → Nameless → Option Nameless
way [] p = Some p
way (s ∷ steps) p = option_and_then (stepped s) (way steps p)

-- a rule with its way
pub record RuleWay : Type 0 where
  pub steps : List RuleStep
  pub rule : RuleValue

abbrev pub rule_way : Rule → RuleWay
rule_way r = record { steps = r.way; rule = rule_value r }

abbrev pub rule_ways : List Rule → List RuleWay
rule_ways rules = map rule_way rules

-- the steps lead from the formula to that of the rule
abbrev pub IsOnWay : List (List ℕ) → List (List ℕ × TypeTree) → Nameless → RuleWay → Type 0
IsOnWay names variables whole w = option_map (single_rule names variables) (way w.steps whole) ≡ Some w.rule

abbrev pub rule_code : Coded RuleValue
rule_code = code_by (Nameless × Nameless) (coded× coded_nameless coded_nameless) (λ r. (r.left, r.right)) (λ p. rule p.0 p.1) (λ _. refl)
