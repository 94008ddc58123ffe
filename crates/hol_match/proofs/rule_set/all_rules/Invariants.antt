use Rattle.std.proofs.Common.{◌≡◌, []}
use Rattle.hol_match.specs.Apart.{rule_variables}
use Rattle.hol_match.specs.SetView.{set_rules, AreOf}
use Rattle.hol_match.proofs.Repeated.{HasFirst}
use Rattle.hol_match.proofs.rule_set.all_rules.Given as goal

abbrev pub invariant-loop-i : goal.invariant-loop-i
invariant-loop-i l = HasFirst l.thms l.i (set_rules l.all.items) × AreOf l.thms l.all.items × (l.variables.items ≡ rule_variables [] (set_rules l.all.items))
