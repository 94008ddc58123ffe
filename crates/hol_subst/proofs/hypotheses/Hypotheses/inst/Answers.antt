use Rattle.std.proofs.Common.{◌≡◌, ap, ◌∙◌}
use Rattle.std.proofs.lemmas.Result.{IfOk-weaker}
use Rattle.hol_subst.specs.Substitution.{types_inst}
use Rattle.hol_subst.specs.Hypotheses.{Hyps, hyps_of, hyps_image}
use Rattle.hol_subst.proofs.Images.{types_hyps}
use Rattle.hol_subst.proofs.hypotheses.Hypotheses.inst.Goals as goal

pub returns : goal.returns
returns c =
    IfOk-weaker c.collected.result (λ (h : Hyps). h ≡ hyps_of c.deref.result.now) (λ (h : Hyps). h ≡ hyps_image (types_inst c.args.pairs.now) c.args.self.now)
    (λ h is. is ∙ ap hyps_of c.deref.ensures.value ∙ types_hyps c.args.pairs.now c.args.self.now c.terms.result.now c.in_ok-terms.terms.items c.terms.ensures.set c.in_ok-terms.ensures)
    c.collected.ensures
