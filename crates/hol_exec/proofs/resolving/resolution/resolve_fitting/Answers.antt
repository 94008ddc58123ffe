use Rattle.std.proofs.Common.{ap, ◌∙◌, Ok, Err, []}
use Rattle.hol_resolve.specs.Quotations.{quotations_in}
use Rattle.hol_resolve.specs.ReadingView.{readings_value, readings_result}
use Rattle.hol_exec.specs.Expr.{refused_by}
use Rattle.hol_exec.specs.ExprView.{resolution_value}
use Rattle.hol_exec.specs.Signature.{signature_of}
use Rattle.hol_exec.specs.SetupView.{setup_value}
use Rattle.hol_exec.proofs.ReadOver.{readings_over}
use Rattle.hol_exec.proofs.Resolutions.{past_readings, refusal_ends}
use Rattle.hol_exec.proofs.Runs.{if_ok}
use Rattle.hol_exec.proofs.resolving.resolution.resolve_fitting.Goals as goal

pub resolve_read-requires-clause-over : goal.resolve_read-requires-clause-over
resolve_read-requires-clause-over g c =
    readings_over c.args.reads.now.cited c.args.reads.now.made _ _ _ (readings_value c.in-Ok.readings) c.cited.ensures.theory (ap signature_of c.cited.ensures.value) c.in_ok-readings.ensures (ap readings_result c.in-Ok.is)

pub returns-in-Ok-clause-value : goal.returns-in-Ok-clause-value
returns-in-Ok-clause-value g c =
    if_ok c.resolve_read.result _ _ (λ r e.
    past_readings (setup_value c.args.setup.now) _ c.args.reads.now.cited c.args.tactic.now _ _ _ (Ok (readings_value c.in-Ok.readings)) (resolution_value r)
    (ap signature_of c.cited.ensures.value) (c.deref.ensures.value ∙ c.in_ok-quotations.ensures ∙ ap quotations_in c.requires) c.in_ok-readings.ensures (ap readings_result c.in-Ok.is) e) c.resolve_read.ensures.value

pub returns-clause-value : goal.returns-clause-value
returns-clause-value g c =
    if_ok c.unresolved.result _ _ (λ r e.
    past_readings (setup_value c.args.setup.now) _ c.args.reads.now.cited c.args.tactic.now _ _ _ (Err c.in-Err.refusal) (resolution_value r)
    (ap signature_of c.cited.ensures.value) (c.deref.ensures.value ∙ c.in_ok-quotations.ensures ∙ ap quotations_in c.requires) c.in_ok-readings.ensures (ap readings_result c.in-Err.is) e)
    (refusal_ends (refused_by [] c.in-Err.refusal) c.in_ok-refused_by-in-Err.field-0 c.unresolved.result c.in_ok-refused_by-in-Err.ensures c.unresolved.ensures.value)
