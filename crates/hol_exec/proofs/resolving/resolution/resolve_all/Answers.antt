use Rattle.std.proofs.Common.{◌≡◌, ap, sym, ◌∙◌, subst}
use Rattle.hol_kernel.specs.Items.{Items}
use Rattle.hol_resolve.specs.Over.{AreOver}
use Rattle.hol_resolve.specs.ReadingView.{readings_value}
use Rattle.hol_exec.specs.Resolved.{cited_theorems, occurs_in, resolved_basis}
use Rattle.hol_exec.specs.SetupView.{setup_value}
use Rattle.hol_exec.proofs.Resolutions.{is_context, untaken_found}
use Rattle.hol_exec.proofs.Known.{AreCitedIn}
use Rattle.hol_exec.proofs.ReadOver.{resolved_cited}
use Rattle.hol_exec.proofs.Runnable.{runs_found}
use Rattle.hol_exec.proofs.resolving.resolution.resolve_all.Goals as goal

pub resolve_expr-requires : goal.resolve_expr-requires
resolve_expr-requires g c =
    let same : c.deref.result.now ≡ cited_theorems c.args.reads.now.cited = c.deref.ensures.value ∙ c.in_ok-theorems.ensures ∙ ap cited_theorems c.cited.ensures.value in
    let is : c.in_ok-basis.basis ≡ resolved_basis c.args.reads.now.cited (readings_value c.args.readings) = c.in_ok-basis.ensures ∙ ap (resolved_basis c.args.reads.now.cited) c.list.ensures in
    record {
      theorems = same;
      within = is_context c.args.reads.now.cited c.args.reads.now.made (readings_value c.args.readings) c.in_ok-basis.basis c.deref.result.now c.cited.ensures.theory is same;
      over = subst (λ (b : Items). AreOver b (readings_value c.args.readings)) (sym is) c.requires;
    }

pub returns-in-Ok-clause-value : goal.returns-in-Ok-clause-value
returns-in-Ok-clause-value g c =
    untaken_found (setup_value c.args.setup.now) c.args.reads.now.cited c.args.tactic.now (readings_value c.args.readings) c.in_ok-basis.basis c.in-Ok.expr
    (c.in_ok-basis.ensures ∙ ap (resolved_basis c.args.reads.now.cited) c.list.ensures) c.in-Ok.ensures

pub returns-in-Ok-clause-runnable : goal.returns-in-Ok-clause-runnable
returns-in-Ok-clause-runnable g c =
    let readings = readings_value c.args.readings in
    let is : c.in_ok-basis.basis ≡ resolved_basis c.args.reads.now.cited readings = c.in_ok-basis.ensures ∙ ap (resolved_basis c.args.reads.now.cited) c.list.ensures in
    runs_found (record { table = (setup_value c.args.setup.now).table; cited = c.args.reads.now.cited; readings = readings; basis = c.in_ok-basis.basis })
    (λ x. occurs_in x readings)
    (subst (λ (b : Items). AreCitedIn (λ x. occurs_in x readings) b c.args.reads.now.cited) (sym is) (resolved_cited readings c.args.reads.now.cited c.args.reads.now.made c.cited.ensures.theory))
    (subst (λ (b : Items). AreOver b (readings_value c.args.readings)) (sym (c.in_ok-basis.ensures ∙ ap (resolved_basis c.args.reads.now.cited) c.list.ensures)) c.requires) c.args.tactic.now c.in-Ok.expr c.in-Ok.ensures
