use Rattle.std.proofs.lemmas.Result.{IfOk-weaker}
use Rattle.hol_just.proofs.Joined.{leaves_implication}
use Rattle.hol_just.proofs.just.Just.mp_tac.Goals as goal

pub returns : goal.returns
returns c =
    IfOk-weaker c.joined.result _ _
    (λ just is. leaves_implication c.args.th.now c.in_ok-just.just c.in_ok-closing.closing just c.conclusion_typed.ensures c.in_ok-just.ensures c.in_ok-closing.ensures is)
    c.joined.ensures
