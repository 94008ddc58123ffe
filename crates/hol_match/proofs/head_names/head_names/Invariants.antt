use Rattle.std.proofs.Common.{◌≡◌, drop}
use Rattle.hol_match.specs.HeadNames.{head_bits}
use Rattle.hol_match.specs.SetView.{set_rules}
use Rattle.hol_match.proofs.HeadNames.{with_heads}
use Rattle.hol_match.proofs.head_names.head_names.Given as goal

abbrev pub invariant-loop-rule : goal.invariant-loop-rule
invariant-loop-rule l = head_bits (set_rules l.rules) ≡ with_heads l.names.bits (set_rules (drop l.rule-index l.rules))
