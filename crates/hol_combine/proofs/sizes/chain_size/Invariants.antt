use Rattle.std.proofs.Common.{◌≡◌, ◌≤◌, ◌+◌, min, drop, length}
use Rattle.hol_combine.specs.ExprValue.{exprs}
use Rattle.hol_combine.specs.ExprSize.{exprs_size}
use Rattle.hol_combine.proofs.sizes.chain_size.Given as goal

abbrev pub invariant-loop-part : goal.invariant-loop-part
invariant-loop-part l = record {
  few : l.size ≤ 20001;
  sum : min (l.size + (length (drop l.part-index l.parts) + exprs_size (exprs (drop l.part-index l.parts)))) 20001 ≡ min (length l.parts + exprs_size (exprs l.parts)) 20001;
}
