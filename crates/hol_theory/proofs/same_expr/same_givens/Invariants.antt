use Rattle.std.proofs.Common.{◌≡◌, ℕ, ◌<◌, get_or}
use Rattle.hol_kernel.specs.Given.{Given as GivenValue}
use Rattle.hol_theory.proofs.same_expr.same_givens.Given as goal

abbrev pub invariant-loop-i : goal.invariant-loop-i
invariant-loop-i l = (k : ℕ) (d : GivenValue) → k < l.i → get_or l.left k d ≡ get_or l.right k d
