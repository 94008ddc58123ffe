use Rattle.std.proofs.Common.{subst, Result, IfOk}
use Rattle.hol_match.specs.SetView.{AreGivenIn}
use Rattle.hol_conv.specs.declared.rewritten.Rewritten.{Rewritten}
use Rattle.hol_conv.specs.declared.error.ConvError.{ConvError}
use Rattle.hol_steps.proofs.GivenAmong.{leads_among}
use Rattle.hol_steps.proofs.converting.converted.Goals as goal

pub returns-in_ok-converted_to-in-Ok-clause-valid : goal.returns-in_ok-converted_to-in-Ok-clause-valid
returns-in_ok-converted_to-in-Ok-clause-valid c givens among =
    leads_among c.args.goal.now givens c.in-Ok.rewritten.trace.used c.in_ok-converted_to-in-Ok.field-0.step
    (subst (λ (o : Result Rewritten ConvError). IfOk o (λ r. AreGivenIn givens r.trace.used)) c.in-Ok.is among) c.in_ok-converted_to-in-Ok.ensures.valid
