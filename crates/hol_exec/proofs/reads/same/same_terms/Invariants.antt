use Rattle.std.proofs.Common.{◌≡◌, ℕ, ◌<◌, get_or, []}
use Rattle.hol_terms.specs.Named.{Named}
use Rattle.hol_terms.specs.Nameless.{nameless}
use Rattle.hol_exec.proofs.reads.same.same_terms.Given as goal

abbrev pub invariant-loop-i : goal.invariant-loop-i
invariant-loop-i l = (k : ℕ) (d : Named) → k < l.i → (nameless []) (get_or l.left k d) ≡ (nameless []) (get_or l.right k d)
