use Rattle.std.proofs.lemmas.Result.{IfOk-weaker}
use Rattle.hol_just.proofs.ByTheorems.{closes_by_left}
use Rattle.hol_just.proofs.just.Just.left_of.Goals as goal

pub returns : goal.returns
returns c =
    IfOk-weaker c.joined.result _ _
    (λ just is. closes_by_left c.args.th.now c.conclusion_typed.ensures c.in_ok-closing.closing c.in_ok-closing.ensures c.in_ok-just.just just c.in_ok-just.ensures is)
    c.joined.ensures
