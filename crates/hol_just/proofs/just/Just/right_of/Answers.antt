use Rattle.std.proofs.lemmas.Result.{IfOk-weaker}
use Rattle.hol_just.proofs.ByTheorems.{closes_by_right}
use Rattle.hol_just.proofs.just.Just.right_of.Goals as goal

pub returns : goal.returns
returns c =
    IfOk-weaker c.joined.result _ _
    (λ just is. closes_by_right c.args.th.now c.conclusion_typed.ensures c.in_ok-closing.closing c.in_ok-closing.ensures c.in_ok-just.just just c.in_ok-just.ensures is)
    c.joined.ensures
