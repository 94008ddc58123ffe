use Rattle.std.proofs.Common.{◌≡◌, drop}
use Rattle.hol_match.specs.Apart.{right_variables}
use Rattle.hol_match.specs.RuleView.{rule_values}
use Rattle.hol_match.proofs.binder.add_right_sides.Given as goal

abbrev pub invariant-loop-rule : goal.invariant-loop-rule
invariant-loop-rule l = right_variables l.initial.variables.items (rule_values l.rules) ≡ right_variables l.variables.items (rule_values (drop l.rule-index l.rules))
