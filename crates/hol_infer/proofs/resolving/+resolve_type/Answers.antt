use Rattle.std.proofs.Common.{◌≡◌, length, true, false, rules, arith}
use Rattle.std.proofs.lemmas.Grind.{common_steps}
use Rattle.std.proofs.lemmas.Result.{IfOk-weaker, err_from_is_err_and}
use Rattle.hol_types.specs.Tree.{TyApp, type_list}
use Rattle.hol_infer.specs.Resolving.{arity_of, takes}
use Rattle.hol_infer.proofs.Resolved.{text_falls, wrong_count, wrong_argument, right_step, types_step, whole_type}
use Rattle.hol_infer.proofs.resolving.+resolve_type.Goals as goal

pub returns-then-not-takes-clause-arity : goal.returns-then-not-takes-clause-arity
returns-then-not-takes-clause-arity t c =
    let n : c.len.result ≡ length c.in-Apply.args.items = omega (arith, c.len.ensures, c.in-Apply.args.ok.0) in
    let f : takes (arity_of c.args.arities.now c.as_str-in-Apply.result.now) c.len.result ≡ false = first_of (search rules, grind (arith, common_steps)) in
    λ e. wrong_count c.args.arities.now c.args.ty.now _ c.as_str-in-Apply.result.now c.in-Apply.args.items c.len.result (rw c.in-Apply.is at c.node.ensures) c.as_str-in-Apply.ensures.value n f

pub resolve_type-requires-in-loop-arg : goal.resolve_type-requires-in-loop-arg
resolve_type-requires-in-loop-arg t c =
    let size = text_falls c.args.ty.now _ c.in-Apply.args.items c.deref-arg-items.result.now c.loop-arg.arg-index c.arg-item.result (rw c.in-Apply.is at c.node.ensures) c.deref-arg-items.ensures.value c.loop-arg-test.true c.arg-item.is in
    (search rules, tt)

pub returns-in_err-ty-in-Apply-clause-arity : goal.returns-in_err-ty-in-Apply-clause-arity
returns-in_err-ty-in-Apply-clause-arity t c =
    let p = err_from_is_err_and c.from_residual-in_err-ty-in-Apply.result c.from_residual-in_err-ty-in-Apply.ensures.1 in
    rw (p.1, p.2) (λ e. wrong_argument c.args.arities.now c.args.ty.now _ c.in-Apply.args.items c.deref-arg-items.result.now c.loop-arg.arg-index c.arg-item.result (rw c.in-Apply.is at c.node.ensures) c.deref-arg-items.ensures.value c.loop-arg-test.true c.arg-item.is (c.in_err-ty-in-Apply.ensures.arity e))

pub loop-arg-preserved : goal.loop-arg-preserved
loop-arg-preserved t c = record {
  types = types_step c.args.arities.now c.deref-arg-items.result.now c.loop-arg.arg-index c.arg-item.result c.loop-arg.types.items c.push.new.self.items c.in_ok-ty-in-Apply.ty c.loop-arg-test.true c.arg-item.is c.loop-arg.invariant.types c.in_ok-ty-in-Apply.ensures.ok.0 c.in_ok-push-in-Apply.ensures.items;
  right = right_step c.args.arities.now c.deref-arg-items.result.now c.loop-arg.arg-index c.arg-item.result c.loop-arg-test.true c.arg-item.is c.loop-arg.invariant.right c.in_ok-ty-in-Apply.ensures.ok.1;
}

pub returns-after-loop-arg-clause-ok : goal.returns-after-loop-arg-clause-ok
returns-after-loop-arg-clause-ok t c =
    let n : c.len.result ≡ length c.in-Apply.args.items = omega (arith, c.len.ensures, c.in-Apply.args.ok.0) in
    let f : takes (arity_of c.args.arities.now c.as_str-in-Apply.result.now) c.len.result ≡ true = first_of (search rules, grind (arith, common_steps)) in
    IfOk-weaker c.constructed.result _ _
    (λ ty is.
    let r : ty ≡ TyApp c.as_str-in-Apply.result.now (type_list c.loop-arg.types.items) = cc (is, c.as_str-in-Apply-2.ensures.value, c.as_str-in-Apply.ensures.value, c.deref.ensures.value) in
    whole_type c.args.arities.now c.args.ty.now _ c.as_str-in-Apply.result.now c.in-Apply.args.items c.deref-arg-items.result.now c.loop-arg.types.items c.len.result c.loop-arg.arg-index ty
    (rw c.in-Apply.is at c.node.ensures) c.as_str-in-Apply.ensures.value n f c.deref-arg-items.ensures.value c.loop-arg-test.false c.loop-arg.invariant.types c.loop-arg.invariant.right r)
    c.constructed.ensures.ok
