use Rattle.std.proofs.Common.{◌+◌, length, arith}
use Rattle.hol_combine.specs.ExprValue.{exprs}
use Rattle.hol_combine.specs.ExprSize.{exprs_size}
use Rattle.hol_combine.proofs.SizeSums.{link_added, links_added}
use Rattle.hol_combine.proofs.sizes.chain_size.Goals as goal

pub loop-part-preserved : goal.loop-part-preserved
loop-part-preserved c = record {
  few = omega (arith, c.plus-size.ensures);
  sum = link_added c.args.parts.now c.loop-part.part-index c.part-item.result c.loop-part.size c.size.result c.plus.result c.plus-size.result (length c.args.parts.now + exprs_size (exprs c.args.parts.now)) c.loop-part-test.true c.part-item.is c.size.ensures c.plus.ensures c.plus-size.ensures c.loop-part.invariant.sum;
}

pub returns : goal.returns
returns c = links_added c.args.parts.now c.loop-part.part-index c.loop-part.size (length c.args.parts.now + exprs_size (exprs c.args.parts.now)) c.loop-part-test.false c.loop-part.invariant.few c.loop-part.invariant.sum
