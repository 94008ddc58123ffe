-- What a call of the kernel answers where its rule applies.
use Rattle.std.specs.Prelude.{Result, Ok, Err}
use Rattle.hol_kernel.specs.Theorem.{Theorem}
use Rattle.hol_kernel.specs.declared.error.KernelError.{KernelError}
use Rattle.hol_kernel.specs.declared.error.KernelError.TheVariants.{Refused, Clash, Memory}

-- a theorem, or want of memory
abbrev pub IsUnrefused : Result Theorem KernelError → Type 0
IsUnrefused (Ok th) = Unit {0}
IsUnrefused (Err (Refused r)) = ⊥
IsUnrefused (Err (Clash n)) = ⊥
IsUnrefused (Err Memory) = Unit {0}
