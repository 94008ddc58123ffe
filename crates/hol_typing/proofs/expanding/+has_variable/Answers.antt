use Rattle.std.proofs.Common.{◌≡◌, ◌∙◌, true, false, rules}
use Rattle.hol_types.specs.Names.{is_among, type_names}
use Rattle.hol_typing.proofs.Types.{arg_falls}
use Rattle.hol_typing.proofs.Splitting.{among_next, among_here, app_names}
use Rattle.hol_typing.proofs.expanding.+has_variable.Goals as goal

pub has_variable-requires : goal.has_variable-requires
has_variable-requires t c =
    let size = arg_falls c.args.ty.now _ c.in-App.args.items c.deref-arg-items.result.now c.loop-arg.arg-index c.arg-item.result (rw c.in-App.is at c.node.ensures) c.deref-arg-items.ensures.value c.loop-arg-test.true c.arg-item.is in
    search rules

pub loop-arg-preserved : goal.loop-arg-preserved
loop-arg-preserved t c =
    let none : is_among (type_names c.arg-item.result) c.args.name.now ≡ false = search rules in
    c.loop-arg.invariant ∙ among_next c.args.name.now c.deref-arg-items.result.now c.loop-arg.arg-index c.arg-item.result c.loop-arg-test.true c.arg-item.is none

pub returns-then-has_variable : goal.returns-then-has_variable
returns-then-has_variable t c =
    let some : is_among (type_names c.arg-item.result) c.args.name.now ≡ true = search rules in
    app_names c.args.ty.now _ c.in-App.args.items c.deref-arg-items.result.now c.args.name.now true (rw c.in-App.is at c.node.ensures) c.deref-arg-items.ensures.value
    (c.loop-arg.invariant ∙ among_here c.args.name.now c.deref-arg-items.result.now c.loop-arg.arg-index c.arg-item.result c.loop-arg-test.true c.arg-item.is some)
