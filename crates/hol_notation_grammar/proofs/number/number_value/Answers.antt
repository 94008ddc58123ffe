use Rattle.std.proofs.Common.{◌≤◌, arith}
use Rattle.hol_notation_grammar.proofs.Digits.{cap, cap_bound}
use Rattle.hol_notation_grammar.proofs.number.number_value.Goals as goal

pub overflow_mul-number : goal.overflow_mul-number
overflow_mul-number c =
    let few : c.loop-digit.digit-index ≤ 4 = omega (arith, c.loop-digit.invariant.few, c.loop-digit-test.true) in
    let top : cap c.loop-digit.digit-index ≤ 283305 = cap_bound c.loop-digit.digit-index few in
    omega (arith, c.loop-digit.invariant.bound, top)

pub returns-clause-fits : goal.returns-clause-fits
returns-clause-fits c =
    let few : c.loop-digit.digit-index ≤ 4 = omega (arith, c.loop-digit.invariant.few, c.loop-digit.invariant.within) in
    let top : cap c.loop-digit.digit-index ≤ 283305 = cap_bound c.loop-digit.digit-index few in
    omega (arith, c.loop-digit.invariant.bound, top)
