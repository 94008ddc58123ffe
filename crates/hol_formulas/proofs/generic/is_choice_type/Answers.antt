use Rattle.std.proofs.Common.{sym, ◌∙◌}
use Rattle.hol_formulas.proofs.TypeForms.{choice_form}
use Rattle.hol_formulas.proofs.generic.is_choice_type.Goals as goal

pub returns : goal.returns
returns c = c.is_property_type.ensures ∙ sym (choice_form c.args.ty.now _ c.in-Some.ensures)
