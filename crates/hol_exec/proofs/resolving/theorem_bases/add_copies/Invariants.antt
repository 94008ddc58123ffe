use Rattle.std.proofs.Common.{◌≡◌, ◌++◌, drop}
use Rattle.hol_exec.proofs.resolving.theorem_bases.add_copies.Given as goal

abbrev pub invariant-loop-basis : goal.invariant-loop-basis
invariant-loop-basis l = l.initial.bases.items ++ l.more ≡ l.bases.items ++ drop l.basis-index l.more
