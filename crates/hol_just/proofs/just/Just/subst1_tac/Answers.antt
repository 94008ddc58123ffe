use Rattle.std.proofs.Common.{[], ap, ◌∙◌, ◌++◌}
use Rattle.hol_terms.specs.Nameless.{nameless}
use Rattle.hol_just.specs.Gives.{moved}
use Rattle.hol_just.proofs.ByTheorems.{leaves_replaced}
use Rattle.hol_just.proofs.just.Just.subst1_tac.Goals as goal

pub returns : goal.returns
returns c =
    leaves_replaced c.args.th.now c.conclusion_typed.ensures c.in_ok-closing.closing c.in_ok-closing.ensures c.args.v.now (nameless [] c.args.template.now) c.in_ok-just.just c.in_ok-turning.turning
    c.then_at-2.new.self c.in_ok-just.ensures c.in_ok-turning.ensures (c.in_ok-then_at-2.ensures ∙ ap (λ ms. ms ++ moved 0 c.in_ok-closing.closing) c.in_ok-then_at.ensures)
