use Rattle.std.proofs.Common.{◌≡◌, ◌-◌, ◌==◌, ◌∷◌, length, drop, take, reverse, refl, ◌∙◌, ap, arith, rules}
use Rattle.hol_goal.specs.UsedView.{used_value}
use Rattle.hol_combine.specs.ExprValue.{Every, exprs}
use Rattle.hol_combine.specs.Pending.{Runs}
use Rattle.hol_combine.proofs.Begun.{every_begun, every_only, empty_list, some_list}
use Rattle.hol_combine.proofs.Lists.{split}
use Rattle.hol_combine.proofs.Stepping.{becomes_ok, pushes}
use Rattle.hol_combine.proofs.beginning.begin_every.Goals as goal

-- one expression is the whole
pub returns-then-is_empty-clause-goes : goal.returns-then-is_empty-clause-goes
returns-then-is_empty-clause-goes c =
    let rest = take (length c.args.parts.now - 1) (drop 1 c.args.parts.now) in
    let is : c.args.parts.now ≡ c.first-item.result ∷ take (length c.args.parts.now - 1) (drop 1 c.args.parts.now) = split c.args.parts.now c.first-item.result (omega (arith, c.in-len1-up.len_at_least)) c.first-item.is in
    let empty : c.is_empty.result ≡ (length (take (length c.args.parts.now - 1) (drop 1 c.args.parts.now)) == 0) = search rules in
    let only = is ∙ ap (λ ts. c.first-item.result ∷ ts) (empty_list rest c.is_empty.result empty c.if-is_empty.true) in
    λ known. becomes_ok known (Runs (Every (exprs c.args.parts.now)) c.args.goal (used_value c.args.used)) (reverse c.args.outer.now.items) (Runs c.first-item.result c.args.goal (used_value c.args.used)) (every_only known c.args.goal (used_value c.args.used) c.first-item.result c.args.parts.now only)

pub returns-clause-goes : goal.returns-clause-goes
returns-clause-goes c =
    let rest = take (length c.args.parts.now - 1) (drop 1 c.args.parts.now) in
    let is : c.args.parts.now ≡ c.first-item.result ∷ take (length c.args.parts.now - 1) (drop 1 c.args.parts.now) = split c.args.parts.now c.first-item.result (omega (arith, c.in-len1-up.len_at_least)) c.first-item.is in
    let empty : c.is_empty.result ≡ (length (take (length c.args.parts.now - 1) (drop 1 c.args.parts.now)) == 0) = search rules in
    λ known. pushes known (Runs (Every (exprs c.args.parts.now)) c.args.goal (used_value c.args.used)) _ c.args.outer.now.items c.push.new.self.items c.in_ok-push.ensures.items (Runs c.first-item.result c.args.goal (used_value c.args.used))
    (every_begun known c.args.goal (used_value c.args.used) c.first-item.result c.args.parts.now _ _ is (some_list rest c.is_empty.result empty c.if-is_empty.false) refl)
