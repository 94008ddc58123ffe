use Rattle.std.proofs.Common.{ap, ◌∙◌, ◌++◌}
use Rattle.std.proofs.lemmas.Result.{IfOk-weaker}
use Rattle.hol_just.specs.Gives.{moved}
use Rattle.hol_just.proofs.ByTheorems.{leaves_conjuncts}
use Rattle.hol_just.proofs.just.Just.conjuncts.Goals as goal

pub returns : goal.returns
returns c =
    IfOk-weaker c.joined-3.result _ _
    (λ all is. leaves_conjuncts c.args.th.now c.conclusion_typed.ensures c.in_ok-just.just c.in_ok-cutting.cutting c.in_ok-left.left c.in_ok-right.right all c.in_ok-just.ensures c.in_ok-cutting.ensures c.in_ok-left.ensures
    c.in_ok-right.ensures
    (is
    ∙ ap (λ ms. ms ++ moved 0 c.in_ok-right.right)
    (c.in_ok-just-3.ensures ∙ ap (λ ms. ms ++ moved 0 c.in_ok-cutting.cutting) c.in_ok-just-2.ensures)))
    c.joined-3.ensures
