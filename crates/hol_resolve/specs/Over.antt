-- What is asked of readings and of cited theorems: they stand over a basis.
use Rattle.std.specs.Prelude.{ℕ, List, IsTrue}
use Rattle.std.specs.List.{AllByRecursion}
use Rattle.hol_kernel.specs.Items.{Items, IsSubset}
use Rattle.hol_kernel.specs.Theorem.{Theorem}
use Rattle.hol_kernel.specs.Typing.{is_typed, IsType}
use Rattle.hol_resolve.specs.Readings.{QuotedValue, ATerm, AType, ReadingsValue}

-- a term is well typed over the prelude and the basis, a type one over them
abbrev pub IsQuotedOver : Items → QuotedValue → Type 0
IsQuotedOver basis (ATerm t) = IsTrue (is_typed basis t)
IsQuotedOver basis (AType a) = IsType basis a

abbrev pub AreOver : Items → ReadingsValue → Type 0
AreOver basis readings = AllByRecursion (λ r. IsQuotedOver basis r.1) readings

-- each theorem's basis is contained
abbrev pub AreWithin : Items → List (List ℕ × Theorem) → Type 0
AreWithin basis cited = AllByRecursion (λ c. IsSubset c.1.basis basis) cited
