use Rattle.std.proofs.Common.{rules, ◌<◌, ◌∙◌, false, [], length, sym, arith}
use Rattle.hol_terms.specs.Nameless.{nameless}
use Rattle.hol_match.proofs.Buckets.{over_start, over_here, over_next, is_later}
use Rattle.hol_match.proofs.rule_set.RuleSet.bucket_passes_over.Goals as goal

-- the number that is kept for the bucket
pub rules-init : goal.rules-init
rules-init c =
    let S = c.args.self.now in
    let s = over_start S.rules.items S.heads.first.items c.args.bucket (nameless [] c.args.t.now) c.requires S.first c.index-i.result.now c.index-i.ensures in
    record { over = s.0; on = s.1 }

pub returns-then-not-is_passed_over : goal.returns-then-not-is_passed_over
returns-then-not-is_passed_over c =
    let S = c.args.self.now in
    let within : c.rules.i < length S.rules.items = search rules in
    sym
    (c.rules.invariant.over
    ∙ over_here (length S.heads.first.items) c.args.bucket S.rules.items (nameless [] c.args.t.now) c.rules.i c.index.result.now within c.index.ensures c.rules.invariant.on
    (sym c.is_passed_over.ensures ∙ c.if-not-is_passed_over.true))

pub rules-smaller : goal.rules-smaller
rules-smaller c =
    let S = c.args.self.now in
    let within : c.rules.i < length S.rules.items = search rules in
    let later : c.rules.i < c.index-i-in-rules.result.now =
    is_later false (length S.heads.first.items) c.args.bucket S.rules.items c.rules.i c.index.result.now within c.index.ensures c.rules.invariant.on S.heads.next.items S.long S.next
    c.index-i-in-rules.result.now c.index-i-in-rules.ensures in
    omega (arith, within, later)

pub rules-preserved : goal.rules-preserved
rules-preserved c =
    let S = c.args.self.now in
    let within : c.rules.i < length S.rules.items = search rules in
    let s = over_next (length S.heads.first.items) c.args.bucket S.rules.items (nameless [] c.args.t.now) c.rules.i c.index.result.now within c.index.ensures c.rules.invariant.on S.heads.next.items S.long S.next
    c.index-i-in-rules.result.now c.index-i-in-rules.ensures (sym c.is_passed_over.ensures ∙ c.if-not-is_passed_over.false) in
    record { over = c.rules.invariant.over ∙ s.0; on = s.1 }
