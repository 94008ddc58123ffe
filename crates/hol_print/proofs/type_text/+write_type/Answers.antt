use Rattle.std.proofs.Common.{◌≡◌, sym, ap, ◌∙◌, arith}
use Rattle.std.proofs.lemmas.Grind.{common_steps}
use Rattle.hol_types.specs.Tree.{TypeTree, TyApp, type_list}
use Rattle.hol_types.specs.View.{tree_of}
use Rattle.hol_print.proofs.Types.{function_text, applied_text}
use Rattle.hol_print.proofs.type_text.+write_type.Goals as goal

pub write_type-returns-in-Some : goal.write_type-returns-in-Some
write_type-returns-in-Some t c = rw (function_text c.args.ty.now c.in-Some.domain.now c.in-Some.range.now c.in-Some.ensures) (grind (arith, common_steps))

pub write_type-returns-in_ok-write_arguments-in-App : goal.write_type-returns-in_ok-write_arguments-in-App
write_type-returns-in_ok-write_arguments-in-App t c =
    let s : TypeTree = TyApp c.in-App.name (type_list c.in-App.args.items) in
    let e : c.args.ty.now ≡ s = sym c.node.ensures ∙ ap tree_of c.in-App.is in
    rw e (rw (applied_text c.in-App.name (type_list c.in-App.args.items) (rw e at c.in_default.ensures)) (grind (arith, common_steps)))
