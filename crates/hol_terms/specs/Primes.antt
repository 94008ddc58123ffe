-- Primes at the end of a name.
-- Source: HOL Light's fusion.ml, variant, which adds one after another.
use Rattle.std.specs.Prelude.{◌≡◌, ℕ, zero, suc, ◌<◌, List, [], ◌∷◌, ◌++◌}

-- a name with k primes more
abbrev pub with_primes : ℕ → List ℕ → List ℕ
with_primes zero a = a
with_primes (suc k) a = with_primes k a ++ 39 ∷ []

-- r is the name a with the fewest primes more that make it one that is not taken
pub record HasFewestPrimes (IsTaken : List ℕ → Type 0) (a r : List ℕ) : Type 0 where
  pub primes : ℕ
  pub is : r ≡ with_primes primes a
  pub fresh : IsTaken r → ⊥
  pub least : (j : ℕ) → j < primes → IsTaken (with_primes j a)
