use Rattle.std.proofs.Common.{◌≡◌, ◌-◌, suc, [], ap, sym, arith}
use Rattle.hol_terms.specs.Nameless.{nameless}
use Rattle.hol_definition.proofs.Steps.{has_sides, defines, variable_fits, is_equation, type_stands_inside, free_in_none, quantified}
use Rattle.hol_definition.proofs.generalizing.+for_all.Goals as goal

pub unreachable-requires : goal.unreachable-requires
unreachable-requires t c = has_sides c.args.a.sequent (nameless [] c.concl.result.now) c.requires c.concl.ensures.concl c.in_default.ensures.sides

pub at_variable-requires-clause-is : goal.at_variable-requires-clause-is
at_variable-requires-clause-is t c =
    defines c.args.a c.requires (nameless [] c.concl.result.now) _ _ _ c.concl.ensures.concl _ _ _ c.in-Some.ensures.sides c.well_typed.ensures.conclusion c.in-Abs.v c.in_ok-own-in-Abs.own
    (ap (nameless []) (sym (rw c.in-Abs.is at c.node.ensures))) c.in-Some-dest_fun.ensures c.in_ok-own-in-Abs.ensures

pub at_variable-requires-clause-typed : goal.at_variable-requires-clause-typed
at_variable-requires-clause-typed t c =
    variable_fits c.args.a c.requires (nameless [] c.concl.result.now) _ _ _ c.concl.ensures.concl _ _ _ c.in-Some.ensures.sides c.well_typed.ensures.conclusion c.in-Abs.v c.in_ok-own-in-Abs.own
    (ap (nameless []) (sym (rw c.in-Abs.is at c.node.ensures))) c.in-Some-dest_fun.ensures c.in_ok-own-in-Abs.ensures

pub for_all-requires : goal.for_all-requires
for_all-requires t c = (
  omega (arith, c.decreases, c.if-variables-eq0.false),
  is_equation c.args.a c.requires (nameless [] c.concl.result.now) _ _ _ c.concl.ensures.concl _ _ _ c.in-Some.ensures.sides c.well_typed.ensures.conclusion c.in-Abs.v c.in_ok-own-in-Abs.own
      (ap (nameless []) (sym (rw c.in-Abs.is at c.node.ensures))) c.in-Some-dest_fun.ensures c.in_ok-own-in-Abs.ensures c.in_ok-applied-in-Abs.applied c.in_ok-applied-in-Abs.ensures,
)

pub for_each-requires-clause-stands : goal.for_each-requires-clause-stands
for_each-requires-clause-stands t c =
    type_stands_inside c.args.a c.requires (nameless [] c.concl.result.now) _ _ _ c.concl.ensures.concl _ _ _ c.in-Some.ensures.sides c.well_typed.ensures.conclusion c.in-Abs.v c.in_ok-own-in-Abs.own
    (ap (nameless []) (sym (rw c.in-Abs.is at c.node.ensures))) c.in-Some-dest_fun.ensures c.in_ok-own-in-Abs.ensures c.in_ok-applied-in-Abs.applied c.in_ok-inner-in-Abs.inner
    (c.args.variables - 1) c.in_ok-applied-in-Abs.ensures c.in_ok-inner-in-Abs.ensures

pub for_each-requires-clause-absent : goal.for_each-requires-clause-absent
for_each-requires-clause-absent t c =
    free_in_none c.args.a c.requires (nameless [] c.concl.result.now) _ _ _ c.concl.ensures.concl _ _ _ c.in-Some.ensures.sides c.well_typed.ensures.conclusion c.in-Abs.v c.in_ok-own-in-Abs.own
    (ap (nameless []) (sym (rw c.in-Abs.is at c.node.ensures))) c.in-Some-dest_fun.ensures c.in_ok-own-in-Abs.ensures c.in_ok-applied-in-Abs.applied c.in_ok-inner-in-Abs.inner
    (c.args.variables - 1) c.in_ok-applied-in-Abs.ensures c.in_ok-inner-in-Abs.ensures

pub returns-in_ok-inner-in-Abs : goal.returns-in_ok-inner-in-Abs
returns-in_ok-inner-in-Abs t c =
    let more : c.args.variables ≡ suc (c.args.variables - 1) = omega (arith, c.if-variables-eq0.false) in
    quantified c.args.a c.requires (nameless [] c.concl.result.now) _ _ _ c.concl.ensures.concl _ _ _ c.in-Some.ensures.sides c.well_typed.ensures.conclusion c.in-Abs.v c.in_ok-own-in-Abs.own
    (ap (nameless []) (sym (rw c.in-Abs.is at c.node.ensures))) c.in-Some-dest_fun.ensures c.in_ok-own-in-Abs.ensures c.in_ok-applied-in-Abs.applied c.in_ok-inner-in-Abs.inner
    (c.args.variables - 1) c.in_ok-applied-in-Abs.ensures c.in_ok-inner-in-Abs.ensures c.for_each.result c.args.variables more c.for_each.ensures
