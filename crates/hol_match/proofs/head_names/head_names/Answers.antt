use Rattle.std.proofs.Common.{◌≡◌, ◌+◌, ◌∙◌, drop, sym, ap, Some}
use Rattle.hol_match.specs.HeadNames.{head_bit}
use Rattle.hol_match.specs.SetView.{set_rule, set_rules}
use Rattle.hol_match.proofs.HeadNames.{with_heads, heads_next, heads_end}
use Rattle.hol_match.proofs.head_names.head_names.Goals as goal

pub loop-rule-preserved : goal.loop-rule-preserved
loop-rule-preserved c =
    let R = c.args.rules.now in
    let i = c.loop-rule.rule-index in
    let n = c.loop-rule.names.bits in
    let m = c.in_ok-head_name.field-0.bits in
    let head : head_bit (set_rule c.rule-item.result).rule.left ≡ Some m = ap head_bit (sym c.left.ensures.side) ∙ c.in_ok-head_name.ensures in
    c.loop-rule.invariant ∙ heads_next n R i c.rule-item.result c.loop-rule-test.true c.rule-item.is m head
    ∙ ap (λ z. with_heads z (set_rules (drop (i + 1) R))) (sym c.union-names.ensures)

pub returns : goal.returns
returns c = sym (c.loop-rule.invariant ∙ heads_end c.loop-rule.names.bits c.args.rules.now c.loop-rule.rule-index c.loop-rule-test.false)
