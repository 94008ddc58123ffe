use Rattle.std.proofs.Common.{◌≡◌, [], ◌≤◌, ◌<◌, ◌∙◌, sym, true, rules}
use Rattle.std.specs.Prelude.{max, is_none}
use Rattle.hol_terms.specs.Nameless.{nameless}
use Rattle.hol_terms.specs.Size.{named_size}
use Rattle.hol_match.specs.Outlines.{depth}
use Rattle.hol_match.proofs.Outlines.{depth_next, large_later, large_here, none_large}
use Rattle.hol_match.proofs.rule_set.rules_depth.Goals as goal

pub loop-rule-preserved : goal.loop-rule-preserved
loop-rule-preserved c =
    let small : named_size c.left.result.now ≤ 20000 = search rules in
    let is : c.in_ok-depth.field-0 ≡ depth (nameless [] c.left.result.now) = search rules in
    let last : c.max-most.result ≡ max c.in_ok-depth.field-0 c.loop-rule.most = search rules in
    record {
      least = search rules;
      depth =
          depth_next c.args.rules.now c.loop-rule.rule-index c.rule-item.result c.left.result.now c.loop-rule.most c.in_ok-depth.field-0 c.max-most.result c.loop-rule-test.true c.rule-item.is c.left.ensures.side
          c.loop-rule.invariant.depth is last;
      large = large_later c.args.rules.now c.loop-rule.rule-index c.rule-item.result c.left.result.now c.loop-rule-test.true c.rule-item.is c.left.ensures.side c.loop-rule.invariant.large small;
    }

pub returns-in_err-depth-clause-none : goal.returns-in_err-depth-clause-none
returns-in_err-depth-clause-none c =
    let none : is_none c.from_residual.result ≡ true = search rules in
    let large : 20000 < named_size c.left.result.now = search rules in
    none
    ∙ sym
    (large_here c.args.rules.now c.loop-rule.rule-index c.rule-item.result c.left.result.now c.loop-rule-test.true c.rule-item.is c.left.ensures.side c.loop-rule.invariant.large large)

pub returns-clause-none : goal.returns-clause-none
returns-clause-none c = sym (none_large c.args.rules.now c.loop-rule.rule-index c.loop-rule-test.false c.loop-rule.invariant.large)
