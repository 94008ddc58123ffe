use Rattle.std.proofs.Common.{◌∙◌, ap, sym}
use Rattle.hol_exec.specs.ExprView.{resolution_value}
use Rattle.hol_exec.specs.Naming.{names_resolved}
use Rattle.hol_exec.specs.SetupView.{setup_value}
use Rattle.hol_exec.proofs.Runs.{names_by, if_ok}
use Rattle.hol_exec.proofs.running.naming.name_tactic.Goals as goal

pub returns-in-Resolved : goal.returns-in-Resolved
returns-in-Resolved g c =
    let named = names_resolved (setup_value c.args.setup.now) c.args.name.now c.args.tactic.now c.args.reads.now.cited in
    if_ok c.name_resolved.result _ _ (λ outcome e.
    names_by c.args.reads.now.in_proof (setup_value c.args.setup.now) c.args.name.now c.args.tactic.now c.args.reads.now _ (resolution_value c.in_ok-expr.field-0) outcome
    (sym c.in_proof.ensures ∙ c.if-in_proof.false) (c.as_ref.ensures.value ∙ c.in_ok-taken.ensures) c.in_ok-expr.ensures.value (e ∙ ap named (sym (ap resolution_value c.in-Resolved.is)))) c.name_resolved.ensures

pub returns : goal.returns
returns g c =
    let named = names_resolved (setup_value c.args.setup.now) c.args.name.now c.args.tactic.now c.args.reads.now.cited in
    names_by c.args.reads.now.in_proof (setup_value c.args.setup.now) c.args.name.now c.args.tactic.now c.args.reads.now _ (resolution_value c.in_ok-expr.field-0) c.refuses.result
    (sym c.in_proof.ensures ∙ c.if-in_proof.false) (c.as_ref.ensures.value ∙ c.in_ok-taken.ensures) c.in_ok-expr.ensures.value (c.refuses.ensures ∙ ap named (sym (ap resolution_value c.in-Unresolved.is)))
