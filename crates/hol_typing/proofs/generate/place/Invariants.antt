use Rattle.std.proofs.Common.{◌≡◌, ℕ, ◌<◌, false, bytes_eq, get_or, []}
use Rattle.hol_typing.proofs.generate.place.Given as goal

abbrev pub invariant-loop-i : goal.invariant-loop-i
invariant-loop-i l = (k : ℕ) → k < l.i → bytes_eq (get_or l.names k []) l.name ≡ false
