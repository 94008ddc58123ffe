use Rattle.std.proofs.Common.{arith}
use Rattle.hol_combine.specs.ExprSize.{givens_size}
use Rattle.hol_combine.proofs.SizeSums.{given_added, givens_added}
use Rattle.hol_combine.proofs.sizes.givens_size.Goals as goal

pub loop-given-preserved : goal.loop-given-preserved
loop-given-preserved c = record {
  few = omega (arith, c.plus-size.ensures);
  sum = given_added c.args.givens.now c.loop-given.given-index c.given-item.result c.loop-given.size c.given_size.result c.plus-size.result (givens_size c.args.givens.now) c.loop-given-test.true c.given-item.is c.given_size.ensures c.plus-size.ensures c.loop-given.invariant.sum;
}

pub returns : goal.returns
returns c = givens_added c.args.givens.now c.loop-given.given-index c.loop-given.size (givens_size c.args.givens.now) c.loop-given-test.false c.loop-given.invariant.few c.loop-given.invariant.sum
