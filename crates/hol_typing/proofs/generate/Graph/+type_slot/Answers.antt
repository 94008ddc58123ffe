use Rattle.std.proofs.Common.{arith, rules, subst}
use Rattle.std.proofs.lemmas.Result.{IfOk-weaker}
use Rattle.hol_types.specs.Tree.{TypeTree}
use Rattle.hol_typing.specs.Generate.{BuildsType}
use Rattle.hol_typing.proofs.Types.{arg_falls, types_step, rigid_step, app_slot}
use Rattle.hol_typing.proofs.generate.Graph.+type_slot.Goals as goal

pub type_slot-requires : goal.type_slot-requires
type_slot-requires t c =
    let more = c.loop-arg.invariant.builds.more in
    let base_in = c.requires.base_in in
    let size = arg_falls c.args.ty.now c.in-App.name c.in-App.args.items c.deref-arg-items.result.now c.loop-arg.arg-index c.arg-item.result (rw c.in-App.is at c.node.ensures) c.deref-arg-items.ensures.value c.loop-arg-test.true c.arg-item.is in
    (search rules, (c.loop-arg.invariant.builds.well_formed, (omega (arith, more, base_in), (rigid_step c.args.names.now c.deref-arg-items.result.now c.loop-arg.arg-index c.arg-item.result c.loop-arg-test.true c.arg-item.is c.loop-arg.invariant.rigid).0)))

pub loop-arg-preserved : goal.loop-arg-preserved
loop-arg-preserved t c = record {
  builds = types_step c.args.self.now c.loop-arg.self c.type_slot.new.self c.args.names.now c.args.base c.loop-arg.parts.items c.push.new.self.items c.deref-arg-items.result.now c.loop-arg.arg-index c.in_ok-part-in-App.part c.arg-item.result
      c.loop-arg-test.true c.arg-item.is c.in_ok-push-in-App.ensures.items c.loop-arg.invariant.builds c.in_ok-part-in-App.ensures;
  rigid = (rigid_step c.args.names.now c.deref-arg-items.result.now c.loop-arg.arg-index c.arg-item.result c.loop-arg-test.true c.arg-item.is c.loop-arg.invariant.rigid).1;
}

pub returns-in-Var : goal.returns-in-Var
returns-in-Var t c = IfOk-weaker c.type_variable_slot.result _ _
    (λ slot b. subst (λ (ty : TypeTree). BuildsType c.args.self.now c.type_variable_slot.new.self c.args.names.now c.args.base slot ty) (rw c.in-Var.is at c.node.ensures) b)
    c.type_variable_slot.ensures

pub returns-in_ok-copy-in-App : goal.returns-in_ok-copy-in-App
returns-in_ok-copy-in-App t c = IfOk-weaker c.fresh.result _ _
    (λ slot f. app_slot c.args.self.now c.loop-arg.self c.fresh.new.self c.args.names.now c.args.base slot c.args.ty.now c.in-App.name c.in_ok-copy-in-App.field-0 _
    c.loop-arg.parts.items c.in-App.args.items c.deref-arg-items.result.now c.loop-arg.arg-index (λ types u. (λ e. e, λ e. e)) c.loop-arg.invariant.builds.parts_in tt
    (rw c.in-App.is at c.node.ensures) c.in_ok-copy-in-App.ensures c.deref-arg-items.ensures.value c.loop-arg-test.false c.loop-arg.invariant.builds f)
    c.fresh.ensures
