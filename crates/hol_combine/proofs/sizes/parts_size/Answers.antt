use Rattle.std.proofs.Common.{arith}
use Rattle.hol_combine.specs.ExprValue.{exprs}
use Rattle.hol_combine.specs.ExprSize.{exprs_size}
use Rattle.hol_combine.proofs.SizeSums.{part_added, parts_added}
use Rattle.hol_combine.proofs.sizes.parts_size.Goals as goal

pub loop-part-preserved : goal.loop-part-preserved
loop-part-preserved c = record {
  few = omega (arith, c.plus-size.ensures);
  sum = part_added c.args.parts.now c.loop-part.part-index c.part-item.result c.loop-part.size c.size.result c.plus-size.result (exprs_size (exprs c.args.parts.now)) c.loop-part-test.true c.part-item.is c.size.ensures c.plus-size.ensures c.loop-part.invariant.sum;
}

pub returns : goal.returns
returns c = parts_added c.args.parts.now c.loop-part.part-index c.loop-part.size (exprs_size (exprs c.args.parts.now)) c.loop-part-test.false c.loop-part.invariant.few c.loop-part.invariant.sum
