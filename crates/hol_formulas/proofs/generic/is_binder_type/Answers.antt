use Rattle.std.specs.Prelude.{◌&&◌}
use Rattle.std.proofs.Common.{ap, sym, ◌∙◌}
use Rattle.hol_types.specs.Equal.{type_eq}
use Rattle.hol_formulas.specs.Equation.{bool_type}
use Rattle.hol_formulas.specs.Constants.{var_a}
use Rattle.hol_formulas.proofs.TypeForms.{no_function_within, binder_form}
use Rattle.hol_formulas.proofs.generic.is_binder_type.Goals as goal

pub returns-in_default-dest_fun : goal.returns-in_default-dest_fun
returns-in_default-dest_fun c = sym (no_function_within var_a bool_type bool_type c.args.ty.now _ c.in-Some.ensures c.in_default-dest_fun.ensures)

pub returns-then-is_bool : goal.returns-then-is_bool
returns-then-is_bool c =
    c.is_bool-then-is_bool.ensures
    ∙ sym (binder_form c.args.ty.now _ _ c.in-Some.ensures c.in-Some-dest_fun.ensures ∙ ap (λ b. b && type_eq c.in-Some.truth.now bool_type) (sym c.is_bool.ensures ∙ c.if-is_bool.true))

pub returns-else-is_bool : goal.returns-else-is_bool
returns-else-is_bool c =
    c.if-is_bool.false
    ∙ sym (binder_form c.args.ty.now _ _ c.in-Some.ensures c.in-Some-dest_fun.ensures ∙ ap (λ b. b && type_eq c.in-Some.truth.now bool_type) (sym c.is_bool.ensures ∙ c.if-is_bool.false))
