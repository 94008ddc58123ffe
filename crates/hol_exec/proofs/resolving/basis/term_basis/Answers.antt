use Rattle.std.proofs.Common.{ap, []}
use Rattle.std.proofs.lemmas.Result.{IfOk-weaker}
use Rattle.hol_terms.specs.Nameless.{nameless}
use Rattle.hol_terms.specs.Named.{Named}
use Rattle.hol_resolve.specs.Readings.{ATerm}
use Rattle.hol_exec.proofs.CitedBases.{quotation_basis}
use Rattle.hol_exec.proofs.resolving.basis.term_basis.Goals as goal

pub returns : goal.returns
returns c =
    IfOk-weaker c.resolved_basis.result _ _
    (λ basis e. quotation_basis c.args.reads.now.cited basis c.deref.result.now c.in_ok-readings.readings.items c.args.place _ _ e c.deref.ensures.value c.in_ok-readings.ensures (ap (λ (t : Named). ATerm (nameless [] t)) c.in_ok-copy.ensures)) c.resolved_basis.ensures
