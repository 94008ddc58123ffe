use Rattle.std.proofs.Common.{rules, ◌≡◌, ◌++◌, ◌∷◌, []}
use Rattle.hol_match.proofs.Spared.{spared_next}
use Rattle.hol_match.proofs.once.first_ones.Goals as goal

-- one more is kept
pub loop-rule-preserved : goal.loop-rule-preserved
loop-rule-preserved c =
    let pushed : c.push.new.self.items ≡ c.loop-rule.kept.items ++ c.in_ok-copy.field-0 ∷ [] = search rules in
    spared_next c.args.rules.now c.loop-rule.kept.items c.loop-rule.rule-index c.rule-item.result c.loop-rule-test.true c.rule-item.is c.loop-rule.invariant c.push.new.self.items c.in_ok-copy.field-0 pushed
    c.in_ok-copy.ensures.rule c.in_ok-copy.ensures.given
