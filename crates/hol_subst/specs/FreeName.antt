-- Names for new free variables: a base name with primes, which no free variable and no constant of some terms has.
-- Source: as mk_primed_var of the HOL Light Reference Manual, where the constants of the terms alone count.
use Rattle.std.specs.Prelude.{◌≡◌, ℕ, List, [], ◌∷◌, Bool, true, false, ◌||◌, bytes_eq}
use Rattle.hol_terms.specs.Nameless.{Nameless, free, bound, fixed, app, lam}
use Rattle.hol_terms.specs.Primes.{HasFewestPrimes}

-- a is the name of a free variable or of a constant of the term
abbrev pub has_name : List ℕ → Nameless → Bool
has_name a (free v) = bytes_eq v.0 a
has_name a (bound i) = false
has_name a (fixed c s) = bytes_eq c a
has_name a (app f x) = has_name a f || has_name a x
has_name a (lam c s b) = has_name a b

-- the same of one of the terms
abbrev pub is_taken : List Nameless → List ℕ → Bool
is_taken [] a = false
is_taken (n ∷ avoid) a = has_name a n || is_taken avoid a

-- r is the base with the fewest primes more that make it the name of none of these
abbrev pub IsFreeName : List Nameless → List ℕ → List ℕ → Type 0
IsFreeName avoid base r = HasFewestPrimes (λ a. is_taken avoid a ≡ true) base r
