-- What contracts see of the program's sets of rules.
use Rattle.std.specs.Prelude.{◌≡◌, ℕ, Bool, List, ◌++◌, map, slice_get, Some}
use Rattle.std.specs.List.{AllByRecursion}
use Rattle.hol_types.specs.Tree.{TypeTree}
use Rattle.hol_terms.specs.Nameless.{Nameless}
use Rattle.hol_kernel.specs.Given.{Given}
use Rattle.hol_kernel.specs.Sequent.{Sequent}
use Rattle.hol_match.specs.Fixed.{stays, stays_of}
use Rattle.hol_match.specs.Rules.{RuleValue, rules_of, single_rule, is_determined}
use Rattle.hol_match.specs.Listed.{listed}
use Rattle.hol_match.specs.RuleView.{rule_value}
use Rattle.hol_match.specs.RuleSets.{RuleEntry, entries}
use Rattle.hol_match.specs.declared.set_rule.SetRule.{SetRule}

abbrev pub set_rule : SetRule → RuleEntry
set_rule r = record { rule = rule_value r.rule; theorem = r.theorem; place = r.place; stays = stays r.source.value.fixed }

abbrev pub set_rules : List SetRule → List RuleEntry
set_rules rules = map set_rule rules

-- the rules of the sequent of number i are put at the end
abbrev pub Adds : ℕ → Sequent → List RuleEntry → List RuleEntry → Type 0
Adds i s before after = after ≡ before ++ entries i 0 (stays_of (listed s.hyps)) (rules_of (listed s.hyps) s.concl)

-- the sequent is one of these
abbrev pub IsStated : List Sequent → Sequent → Type 0
IsStated sequents s = (i : ℕ) × (slice_get sequents i ≡ Some s)

-- ---- what the rules were made of

abbrev pub set_given : SetRule → Given
set_given r = r.source.value.given

abbrev pub set_givens : List SetRule → List Given
set_givens rules = map set_given rules

-- the variables of what was given that may be instantiated, and its conclusion, generalized over them
abbrev pub set_variables : SetRule → List (List ℕ × TypeTree)
set_variables r = r.source.value.variables.items

-- the one rule of a formula, beside what stays in the rule
abbrev pub set_single : SetRule → Nameless → RuleValue
set_single r p = single_rule r.source.value.fixed.names.items r.source.value.fixed.variables.items p

-- whether the rule of a formula l = r is l to r
abbrev pub set_takes : SetRule → Nameless → Nameless → Bool
set_takes s l r = is_determined s.source.value.fixed.names.items s.source.value.fixed.variables.items l r

-- each of the rules is one of what was given at its number
abbrev pub AreOf : List Given → List SetRule → Type 0
AreOf all rules = AllByRecursion (λ r. slice_get all r.theorem ≡ Some (set_given r)) rules

-- g is one of those that were given
abbrev pub IsGivenIn : List Given → Given → Type 0
IsGivenIn all g = (i : ℕ) × (slice_get all i ≡ Some g)

abbrev pub AreGivenIn : List Given → List Given → Type 0
AreGivenIn all gs = AllByRecursion (IsGivenIn all) gs

-- where g, of number i, was given, all are still rules of what was given
abbrev pub AddsFrom : ℕ → Given → List SetRule → List SetRule → Type 0
AddsFrom i g before after = (all : List Given) → slice_get all i ≡ Some g → AreOf all before → AreOf all after
