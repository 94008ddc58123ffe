use Rattle.std.proofs.Common.{ap, ◌∙◌}
use Rattle.hol_resolve.specs.Signature.{SignatureValue}
use Rattle.hol_exec.specs.Signature.{signature_of}
use Rattle.hol_exec.proofs.UnlessTaken.{type_reads}
use Rattle.hol_exec.proofs.declaring.made.makes_constant.Goals as goal

pub constant_of-requires-clause-read : goal.constant_of-requires-clause-read
constant_of-requires-clause-read g c =
    (c.quotation.inside.ty, type_reads (signature_of c.args.reads.now.cited) c.deref.result.now c.quotation.inside.ty c.in-Ok.ty (c.deref.ensures.value ∙ ap (λ (over : SignatureValue). over.types) (c.in_ok-signature.ensures ∙ ap signature_of c.cited.ensures.value)) c.in-Ok.ensures.ok)
