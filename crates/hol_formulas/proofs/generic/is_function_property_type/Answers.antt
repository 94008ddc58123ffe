use Rattle.std.proofs.Common.{sym, ◌∙◌}
use Rattle.hol_formulas.specs.Equation.{bool_type}
use Rattle.hol_formulas.specs.Constants.{var_a, var_b}
use Rattle.hol_formulas.proofs.TypeForms.{no_function_within, function_property_form}
use Rattle.hol_formulas.proofs.generic.is_function_property_type.Goals as goal

pub returns-in_default-dest_fun : goal.returns-in_default-dest_fun
returns-in_default-dest_fun c = sym (no_function_within var_a var_b bool_type c.args.ty.now _ c.in-Some.ensures c.in_default-dest_fun.ensures)

pub returns : goal.returns
returns c = c.is_bool.ensures ∙ sym (function_property_form c.args.ty.now _ _ c.in-Some.ensures c.in-Some-dest_fun.ensures)
