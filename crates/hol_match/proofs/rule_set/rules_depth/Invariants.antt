use Rattle.std.proofs.Common.{◌≡◌, ◌≤◌, drop}
use Rattle.std.specs.Prelude.{max}
use Rattle.hol_match.specs.Outlines.{rules_depth, has_large_side}
use Rattle.hol_match.specs.SetView.{set_rules}
use Rattle.hol_match.proofs.rule_set.rules_depth.Given as goal

abbrev pub invariant-loop-rule : goal.invariant-loop-rule
invariant-loop-rule l = record {
  least : 1 ≤ l.most;
  depth : rules_depth (set_rules l.rules) ≡ max l.most (rules_depth (set_rules (drop l.rule-index l.rules)));
  large : has_large_side (set_rules l.rules) ≡ has_large_side (set_rules (drop l.rule-index l.rules));
}
