use Rattle.std.proofs.Common.{sym, ◌∙◌}
use Rattle.hol_formulas.proofs.TypeForms.{equality_form}
use Rattle.hol_formulas.proofs.generic.is_equality_type.Goals as goal

pub returns : goal.returns
returns c = c.is_property_type.ensures ∙ sym (equality_form c.args.ty.now _ c.in-Some.ensures)
