use Rattle.std.proofs.Common.{◌≡◌, ◌+◌, ◌-◌, ◌<◌, ◌∙◌, ◌&&◌, length, get_or, sym, subst, arith}
use Rattle.hol_match.specs.Heads.{rule_bucket, is_settled}
use Rattle.hol_match.specs.SetView.{set_rule}
use Rattle.hol_match.proofs.Buckets.{NextFrom, kept_length, first_step, next_step}
use Rattle.hol_match.proofs.heads.Heads.of.Goals as goal

-- the rule before those that are in their buckets is put in its own, if it is put in one
pub rules-preserved : goal.rules-preserved
rules-preserved c =
    let R = c.args.rules.now in
    let H = c.rules.heads in
    let L = c.args.loose in
    let i = c.rules.left - 1 in
    let r = c.index-rules-left.result in
    let F = c.rules.invariant.first in
    let before : c.rules.left ≡ i + 1 = omega arith in
    let within : i < length R = omega (arith, c.rules.invariant.within) in
    let first = c.in_ok-put_rule.ensures.first in
    let bucket = c.in_ok-put_rule.ensures.bucket in
    let new = c.put_rule.new.self in
    let own = rule_bucket L (length H.first.items) (set_rule r) in
    let left_out = L && is_settled (set_rule r) in
    let long : length new.first.items ≡ length H.first.items = kept_length left_out H.first.items new.first.items own i first in
    let long_next : length new.next.items ≡ length H.next.items = kept_length left_out H.next.items new.next.items i (get_or H.first.items own 0) c.in_ok-put_rule.ensures.next in
    record {
      some = omega (arith, long, c.rules.invariant.some);
      long = long_next ∙ c.rules.invariant.long;
      within = omega (arith, within);
      first = first_step L R c.rules.left i r H.first.items before within c.index-rules-left.is bucket F new.first.items first;
      next =
          subst (λ m. NextFrom L i m R new.next.items) (sym long)
          (next_step L R c.rules.left i r H.first.items before within c.index-rules-left.is bucket F H.next.items new.next.items (omega (arith, within, c.rules.invariant.long)) c.rules.invariant.next c.in_ok-put_rule.ensures.next);
    }
