use Rattle.std.proofs.Common.{◌≡◌, ℕ, ◌<◌, get_or}
use Rattle.hol_terms.specs.Named.{Named}
use Rattle.hol_kernel.specs.Sequent.{hyp_of}
use Rattle.hol_theory.proofs.same.alpha_equivalent_terms.Given as goal

abbrev pub invariant-loop-i : goal.invariant-loop-i
invariant-loop-i l = (k : ℕ) (d : Named) → k < l.i → hyp_of (get_or l.left k d) ≡ hyp_of (get_or l.right k d)
