use Rattle.std.proofs.Common.{◌≡◌, ◌≤◌, ◌+◌, min, drop}
use Rattle.hol_combine.specs.ExprSize.{givens_size}
use Rattle.hol_combine.proofs.sizes.givens_size.Given as goal

abbrev pub invariant-loop-given : goal.invariant-loop-given
invariant-loop-given l = record {
  few : l.size ≤ 20001;
  sum : min (l.size + givens_size (drop l.given-index l.givens)) 20001 ≡ min (givens_size l.givens) 20001;
}
