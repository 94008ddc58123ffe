use Rattle.std.proofs.Common.{◌≡◌, ◌++◌, drop}
use Rattle.hol_match.specs.Fixed.{stays}
use Rattle.hol_match.specs.RuleView.{rule_values}
use Rattle.hol_match.specs.RuleSets.{entries}
use Rattle.hol_match.specs.SetView.{set_rules, AddsFrom}
use Rattle.hol_match.proofs.rule_set.add_rules.Given as goal

-- what is still to come, and what the rules so far were made of
abbrev pub invariant-loop-place : goal.invariant-loop-place
invariant-loop-place l =
    (set_rules l.initial.all.items ++ entries l.theorem 0 (stays l.source.value.fixed) (rule_values l.rules)
    ≡ set_rules l.all.items ++ entries l.theorem l.place (stays l.source.value.fixed) (rule_values (drop l.place l.rules)))
    × AddsFrom l.theorem l.source.value.given l.initial.all.items l.all.items
