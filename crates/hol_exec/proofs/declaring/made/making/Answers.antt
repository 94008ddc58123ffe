use Rattle.std.proofs.Common.{ap, sym, ◌∙◌, subst, List, ℕ}
use Rattle.std.specs.Prelude.{IfOk, string_bytes}
use Rattle.hol_notation_commands.specs.Text.{NewDefinition}
use Rattle.hol_notation_commands.specs.CommandView.{making_text}
use Rattle.hol_exec.specs.Making.{MakesDefinition}
use Rattle.hol_exec.proofs.UnlessTaken.{making_outside}
use Rattle.hol_exec.proofs.declaring.made.making.Goals as goal

pub returns-in-Definition : goal.returns-in-Definition
returns-in-Definition g c =
    making_outside c.makes_definition.result c.args.reads.now.in_proof (making_text c.args.command.now) (NewDefinition (string_bytes c.in-Definition.name) c.in-Definition.definition) c.args.reads.now
    (sym c.in_proof.ensures ∙ c.if-in_proof.false) (ap making_text c.in-Definition.is)
    (subst (λ (n : List ℕ). IfOk c.makes_definition.result (λ o. MakesDefinition n c.in-Definition.definition c.args.reads.now o)) c.as_str-in-Definition.ensures.value c.makes_definition.ensures)
