use Rattle.std.proofs.Common.{ap, subst, ◌∙◌}
use Rattle.hol_exec.specs.Signature.{signature_of}
use Rattle.hol_exec.specs.Defining.{IsDefinitionReadAs}
use Rattle.hol_resolve.specs.Signature.{SignatureValue}
use Rattle.hol_resolve.specs.ReadingView.{reading_value}
use Rattle.hol_exec.proofs.Runs.{if_ok}
use Rattle.hol_exec.proofs.declaring.defining.read_definition.Goals as goal

pub returns : goal.returns
returns g c =
    if_ok c.definition_over.result _ _ (λ reading h. subst (λ (over : SignatureValue). IsDefinitionReadAs over c.args.written.now (reading_value reading)) (c.in_ok-signature.ensures ∙ ap signature_of c.cited.ensures.value) h) c.definition_over.ensures
