use Rattle.std.proofs.Common.{Some, ap, ◌∙◌}
use Rattle.hol_types.specs.Tree.{TypeTree}
use Rattle.hol_types.specs.Fun.{fun_type}
use Rattle.hol_formulas.specs.Equation.{bool_type}
use Rattle.hol_formulas.specs.Formula.{quantifier_type}
use Rattle.hol_formulas.proofs.PartTypes.{applies}
use Rattle.hol_formulas.proofs.quantifiers.mk_quantifier.Goals as goal

pub application-requires : goal.application-requires
application-requires c =
    applies c.in_ok-quantifier.quantifier c.in_ok-body.body (fun_type c.args.v.now.1 bool_type) bool_type
    (c.in_ok-quantifier.ensures.typed ∙ ap (λ (a : TypeTree). Some (quantifier_type a)) c.ty.ensures) c.in_ok-body.ensures.typed
