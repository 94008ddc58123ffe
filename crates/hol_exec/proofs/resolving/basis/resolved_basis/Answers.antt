use Rattle.std.proofs.Common.{ap, ◌∙◌}
use Rattle.std.proofs.lemmas.Result.{IfOk-weaker}
use Rattle.hol_resolve.specs.ReadingView.{list_value}
use Rattle.hol_exec.specs.ReadsValue.{Values}
use Rattle.hol_exec.specs.Resolved.{resolved_basis}
use Rattle.hol_exec.proofs.CitedBases.{of_theory}
use Rattle.hol_exec.proofs.resolving.basis.resolved_basis.Goals as goal

pub basis_of-requires : goal.basis_of-requires
basis_of-requires c = of_theory c.args.reads.now.cited c.args.reads.now.made c.cited.result.now c.cited.ensures.value c.cited.ensures.theory

pub returns : goal.returns
returns c =
    IfOk-weaker c.basis_of.result _ _ (λ basis e. e ∙ ap (λ (cited : Values). resolved_basis cited (list_value c.args.readings.now)) c.cited.ensures.value) c.basis_of.ensures
