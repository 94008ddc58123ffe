use Rattle.std.proofs.Common.{ap, subst}
use Rattle.hol_resolve.specs.Readings.{AreRead}
use Rattle.hol_resolve.specs.ReadingView.{readings_result}
use Rattle.hol_resolve.specs.SignatureView.{signature_value}
use Rattle.hol_exec.specs.Signature.{signature_of}
use Rattle.hol_exec.proofs.Resolutions.{none_read}
use Rattle.hol_exec.proofs.Runs.{if_ok}
use Rattle.hol_exec.proofs.resolving.resolution.read_beside.Goals as goal

pub returns-then-is_empty : goal.returns-then-is_empty
returns-then-is_empty g c =
    if_ok c.read_quotations.result _ _ (λ r h. none_read _ (signature_of c.args.cited.now) c.args.quotations.now (readings_result r) c.if-is_empty.ensures h) c.read_quotations.ensures

pub returns : goal.returns
returns g c =
    if_ok c.read_quotations-2.result _ _ (λ r h. subst (λ over. AreRead over c.args.quotations.now (readings_result r)) c.in_ok-signature.ensures h) c.read_quotations-2.ensures
