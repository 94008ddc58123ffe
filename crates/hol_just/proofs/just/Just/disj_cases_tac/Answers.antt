use Rattle.std.proofs.lemmas.Result.{IfOk-weaker}
use Rattle.hol_just.proofs.ByTheorems.{leaves_cases}
use Rattle.hol_just.proofs.just.Just.disj_cases_tac.Goals as goal

pub returns : goal.returns
returns c =
    IfOk-weaker c.joined.result _ _
    (λ just is. leaves_cases c.args.th.now c.conclusion_typed.ensures c.in_ok-closing.closing c.in_ok-closing.ensures c.in_ok-just.just just c.in_ok-just.ensures is)
    c.joined.ensures
