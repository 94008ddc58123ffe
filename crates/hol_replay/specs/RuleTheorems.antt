-- The theorem of a rule: its equation, from what was given.
-- Source: this project; HOL Light's REWR_CONV makes the same equation (simp.ml).
use Rattle.std.specs.Prelude.{◌≡◌, [], Option}
use Rattle.std.specs.Option.{option_map}
use Rattle.hol_types.specs.Tree.{TypeTree}
use Rattle.hol_terms.specs.Nameless.{Nameless}
use Rattle.hol_formulas.specs.Equation.{equation}
use Rattle.hol_kernel.specs.Given.{given_sequent}
use Rattle.hol_kernel.specs.Items.{Items}
use Rattle.hol_kernel.specs.Sequent.{Hyps, sequent_of}
use Rattle.hol_kernel.specs.Theorem.{Theorem, theorem_on}
use Rattle.hol_match.specs.Contracta.{contracted}
use Rattle.hol_match.specs.Rules.{RuleValue}
use Rattle.hol_match.specs.SetView.{set_rule, set_given}
use Rattle.hol_match.specs.declared.set_rule.SetRule.{SetRule}

-- l = r of the type, under hypotheses
abbrev pub side_equation : Items → Hyps → TypeTree → RuleValue → Theorem
side_equation basis hs a r = theorem_on basis (sequent_of hs (equation a r.left r.right))

-- the rule's equation, under the hypotheses of what was given
abbrev pub IsRuleTheorem : Items → SetRule → Theorem → Type 0
IsRuleTheorem basis r th = (a : TypeTree) × (th ≡ side_equation basis (given_sequent (set_given r)).hyps a (set_rule r).rule)

-- t = u for a term t of the type and the u that the rule makes of it
abbrev pub redex_equation : Items → TypeTree → SetRule → Nameless → Option Theorem
redex_equation basis a r t = option_map (λ u. theorem_on basis (sequent_of (given_sequent (set_given r)).hyps (equation a t u))) (contracted [] (set_rule r) t)
