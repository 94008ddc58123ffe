use Rattle.std.proofs.Common.{◌≡◌, ℕ, ◌<◌, get_or}
use Rattle.hol_kernel.specs.Items.{Items}
use Rattle.hol_theory.proofs.same.same_bases.Given as goal

abbrev pub invariant-loop-i : goal.invariant-loop-i
invariant-loop-i l = (k : ℕ) (d : Items) → k < l.i → get_or l.left k d ≡ get_or l.right k d
