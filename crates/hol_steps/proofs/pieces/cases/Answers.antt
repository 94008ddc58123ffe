use Rattle.std.specs.Prelude.{List}
use Rattle.std.proofs.Common.{[], ◌∷◌, sym, ◌∙◌, subst}
use Rattle.std.proofs.lemmas.Result.{IfOk-weaker}
use Rattle.hol_terms.specs.Nameless.{nameless}
use Rattle.hol_just.specs.Justifies.{LeavesCases}
use Rattle.hol_just.specs.declared.reason.Move.{Move}
use Rattle.hol_kernel.specs.Given.{assumed}
use Rattle.hol_steps.proofs.pieces.cases.Goals as goal

pub returns-clause-waiting : goal.returns-clause-waiting
returns-clause-waiting c =
    IfOk-weaker c.two_parts.result _ _ (λ parts is. is ∙ (λ i. c.in_ok-put.ensures i ∷ c.in_ok-left.ensures i ∷ [])) c.two_parts.ensures.waiting

pub returns-clause-just : goal.returns-clause-just
returns-clause-just c =
    IfOk-weaker c.two_parts.result _ _ (λ parts is. subst (λ (ms : List Move). LeavesCases (assumed (nameless [] c.args.piece.now)) ms) (sym is) c.in_ok-just.ensures) c.two_parts.ensures.just
