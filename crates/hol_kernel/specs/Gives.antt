-- What a call that may be refused answers. Such a call answers a value or an error; an error is a refusal by a rule, want of memory, or another one.
use Rattle.std.specs.Prelude.{◌≡◌, Option, Some, None, Result, Ok, Err}
use Rattle.std.specs.FinSet as set
use Rattle.hol_kernel.specs.Items.{Items}
use Rattle.hol_kernel.specs.Signature.{ItemKey, key_name}
use Rattle.hol_kernel.specs.Extends.{ClashesAt, Agree}
use Rattle.hol_kernel.specs.declared.error.Rule.{Rule}
use Rattle.hol_kernel.specs.declared.error.KernelError.{KernelError}
use Rattle.hol_kernel.specs.declared.error.KernelError.TheVariants.{Refused, Clash, Memory}

-- what an error says, for the rules R of a crate
pub data Failure (R : Type 0) : Type 0 where
  by_rule : R → Failure R
  of_memory : Failure R
  otherwise : Failure R

-- the failure is a refusal by the rule, which is right where `none` holds, or want of memory
abbrev pub FailsBy : {R : Type 0} → R → Type 0 → Failure R → Type 0
FailsBy rule none (by_rule r) = (r ≡ rule) × none
FailsBy rule none of_memory = Unit {0}
FailsBy rule none otherwise = ⊥

-- A rule gives exactly what is expected, and is refused exactly where nothing is. Want of memory may come in place of either. How errors are read is the first
-- argument: `in_kernel` for the kernel's.
abbrev pub Gives : {R T E : Type 0} → (E → Failure R) → R → Option T → Result T E → Type 0
Gives reads rule expected (Ok t) = expected ≡ Some t
Gives reads rule expected (Err e) = FailsBy rule (expected ≡ None) (reads e)

-- the same where what is expected is a relation: it holds of what is given, and a refusal is right where it holds of nothing
abbrev pub GivesSome : {R T E : Type 0} → (E → Failure R) → R → (T → Type 0) → Result T E → Type 0
GivesSome reads rule Is (Ok t) = Is t
GivesSome {R} {T} reads rule Is (Err e) = FailsBy rule ((t : T) → Is t → ⊥) (reads e)

abbrev pub in_kernel : KernelError → Failure Rule
in_kernel (Refused r) = by_rule r
in_kernel (Clash n) = otherwise
in_kernel Memory = of_memory

-- the union of two sets that agree, or a name of two items that do not
abbrev pub Joins : Items → Items → Result Items KernelError → Type 0
Joins a b (Ok u) = (u ≡ set.union a b) × Agree a b
Joins a b (Err (Clash n)) = (k : ItemKey) × (key_name k ≡ n) × ClashesAt a b k
Joins a b (Err (Refused r)) = ⊥
Joins a b (Err Memory) = Unit {0}
