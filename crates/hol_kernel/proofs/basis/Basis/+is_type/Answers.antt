use Rattle.std.proofs.Common.{◌≡◌, ◌<◌, ◌∙◌, ap, sym, arith, List}
use Rattle.hol_types.specs.Tree.{TypeTree, TyApp, type_list, type_size}
use Rattle.hol_types.specs.View.{tree_of}
use Rattle.hol_kernel.proofs.Steps.{arg_below, type_all}
use Rattle.hol_kernel.proofs.basis.Basis.+is_type.Goals as goal

pub is_type-requires : goal.is_type-requires
is_type-requires t c =
    let is : c.args.ty.now ≡ TyApp c.in-App.constructor (type_list c.deref-arg-items.result.now) =
    sym c.node.ensures ∙ ap tree_of c.in-App.is ∙ ap (λ (xs : List TypeTree). TyApp c.in-App.constructor (type_list xs)) (sym c.deref-arg-items.ensures.value) in
    let below : type_size c.arg-item.result < type_size c.args.ty.now = rw is (arg_below c.in-App.constructor c.deref-arg-items.result.now c.loop-arg.arg-index c.arg-item.result c.loop-arg-test.true c.arg-item.is) in
    (omega (arith, below, c.decreases), tt)

pub returns-after-loop-arg : goal.returns-after-loop-arg
returns-after-loop-arg t c =
    let is : c.args.ty.now ≡ TyApp c.in-App.constructor (type_list c.deref-arg-items.result.now) =
    sym c.node.ensures ∙ ap tree_of c.in-App.is ∙ ap (λ (xs : List TypeTree). TyApp c.in-App.constructor (type_list xs)) (sym c.deref-arg-items.ensures.value) in
    type_all c.args.self.now c.in-App.constructor c.deref-arg-items.result.now c.loop-arg.arg-index c.len.result c.args.ty.now is
    (c.len.ensures ∙ sym c.deref-arg-items.ensures.len) (sym c.has_arity.ensures ∙ c.if-not-has_arity.false) c.loop-arg.invariant c.loop-arg-test.false
