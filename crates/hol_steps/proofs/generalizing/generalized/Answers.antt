use Rattle.std.proofs.Common.{ap, sym, ◌∙◌, subst}
use Rattle.std.proofs.lemmas.Result.{IfOk-weaker}
use Rattle.hol_kernel.specs.Given.{Given, proved, given_of}
use Rattle.hol_just.specs.MatchMp.{own_variables}
use Rattle.hol_steps.specs.Matching.{AreGeneral, IsGeneralized}
use Rattle.hol_steps.proofs.OwnVariables.{own_general, assumed_generalized}
use Rattle.hol_steps.proofs.generalizing.generalized.Goals as goal

pub generalized_theorem-requires : goal.generalized_theorem-requires
generalized_theorem-requires c =
    let theorem = c.in-Theorem.theorem in
    let is = ap given_of (sym c.in-Theorem.is) ∙ c.node.ensures.value in
    subst (AreGeneral theorem.basis theorem.sequent.hyps) (ap own_variables is ∙ sym c.requires) (own_general theorem.basis (proved theorem) c.well_typed.ensures.conclusion)

pub returns-in-Assumed : goal.returns-in-Assumed
returns-in-Assumed c =
    let is = ap given_of (sym c.in-Assumed.is) ∙ c.node.ensures.value in
    IfOk-weaker c.copy.result _ _
    (λ g made. subst (IsGeneralized c.args.th.now) (sym made) (subst (λ (h : Given). IsGeneralized h h) is (assumed_generalized c.in-Assumed.field-0)))
    c.copy.ensures
