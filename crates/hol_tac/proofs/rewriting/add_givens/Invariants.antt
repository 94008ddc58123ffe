use Rattle.std.proofs.Common.{◌≡◌, ◌++◌, take}
use Rattle.hol_tac.proofs.rewriting.add_givens.Given as goal

abbrev pub invariant-loop-th : goal.invariant-loop-th
invariant-loop-th l = l.to.items ≡ l.fn.to.items ++ take l.th-index l.ths
