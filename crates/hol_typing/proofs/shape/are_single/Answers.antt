use Rattle.std.proofs.Common.{◌≡◌, rules, arith, min}
use Rattle.hol_typing.specs.Shape.{shape_size}
use Rattle.hol_typing.proofs.Parts.{single_step}
use Rattle.hol_typing.proofs.shape.are_single.Goals as goal

pub loop-pair-preserved : goal.loop-pair-preserved
loop-pair-preserved c =
    let is : min (shape_size c.pair-item.result.0) 20001 ≡ 1 = search rules in
    single_step c.args.bound.now c.loop-pair.pair-index c.pair-item.result c.loop-pair-test.true c.pair-item.is c.loop-pair.invariant (omega (arith, is))
