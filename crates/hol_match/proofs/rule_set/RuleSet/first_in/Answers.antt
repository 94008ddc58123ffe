use Rattle.std.proofs.Common.{rules, ◌≡◌, ◌<◌, ◌∙◌, [], length, Some, None, arith}
use Rattle.hol_terms.specs.Nameless.{nameless}
use Rattle.hol_match.specs.RuleSets.{fit, IsTypedRule}
use Rattle.hol_match.specs.Matches.{IsMatch}
use Rattle.hol_match.specs.SetView.{set_rule}
use Rattle.hol_match.proofs.Buckets.{first_start, first_here, first_next, is_later}
use Rattle.hol_match.proofs.RuleSets.{is_fit}
use Rattle.hol_match.proofs.rule_set.RuleSet.first_in.Goals as goal

-- the number that is kept for the bucket
pub rules-init : goal.rules-init
rules-init c =
    let S = c.args.self.now in
    let s = first_start S.many S.rules.items S.loose.first.items c.args.bucket (nameless [] c.args.t.now) c.requires S.loose_first c.index-i.result.now c.index-i.ensures in
    record { first = s.0; on = s.1 }

pub returns-in-Some-clause-first : goal.returns-in-Some-clause-first
returns-in-Some-clause-first c =
    let S = c.args.self.now in
    let r = c.index.result.now in
    let within : c.rules.i < length S.rules.items = search rules in
    let fits : fit (set_rule r) (nameless [] c.args.t.now) ≡ Some c.in-Some.found = search rules in
    c.rules.invariant.first ∙ first_here S.many (length S.loose.first.items) c.args.bucket S.rules.items (nameless [] c.args.t.now) c.rules.i r within c.index.ensures c.rules.invariant.on c.in-Some.found fits

pub returns-in-Some-clause-fits : goal.returns-in-Some-clause-fits
returns-in-Some-clause-fits c =
    let S = c.args.self.now in
    let r = c.index.result.now in
    let within : c.rules.i < length S.rules.items = search rules in
    let typed : IsTypedRule (set_rule r).rule = search rules in
    let is : IsMatch (set_rule r).stays (set_rule r).rule.left (nameless [] c.args.t.now) c.in-Some.found = search rules in
    is_fit S.rules.items (nameless [] c.args.t.now) c.rules.i r c.in-Some.found within c.index.ensures typed is

pub rules-smaller : goal.rules-smaller
rules-smaller c =
    let S = c.args.self.now in
    let within : c.rules.i < length S.rules.items = search rules in
    let later : c.rules.i < c.index-i-in-rules.result.now =
    is_later S.many (length S.loose.first.items) c.args.bucket S.rules.items c.rules.i c.index.result.now within c.index.ensures c.rules.invariant.on S.loose.next.items S.loose_long S.loose_next
    c.index-i-in-rules.result.now c.index-i-in-rules.ensures in
    omega (arith, within, later)

pub rules-preserved : goal.rules-preserved
rules-preserved c =
    let S = c.args.self.now in
    let r = c.index.result.now in
    let within : c.rules.i < length S.rules.items = search rules in
    let none : fit (set_rule r) (nameless [] c.args.t.now) ≡ None = search rules in
    let s = first_next S.many (length S.loose.first.items) c.args.bucket S.rules.items (nameless [] c.args.t.now) c.rules.i r within c.index.ensures c.rules.invariant.on S.loose.next.items S.loose_long S.loose_next
    c.index-i-in-rules.result.now c.index-i-in-rules.ensures none in
    record { first = c.rules.invariant.first ∙ s.0; on = s.1 }
