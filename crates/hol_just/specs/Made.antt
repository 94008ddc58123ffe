-- What the code says of rules that are not refused. Only its clauses speak of it.
use Rattle.std.specs.Prelude.{◌≡◌, Result, Ok, Err}
use Rattle.hol_kernel.specs.Gives.{Failure, of_memory}

-- the answer is a value or want of memory
abbrev pub IsMade : {R T E : Type 0} → (E → Failure R) → Result T E → Type 0
IsMade reads (Ok t) = Unit {0}
IsMade reads (Err e) = reads e ≡ of_memory
