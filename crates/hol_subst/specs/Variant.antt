-- A variant of a variable: primes are added to its name until it is free in no term of a list.
-- Source: HOL Light's fusion.ml, variant.
use Rattle.std.specs.Prelude.{◌≡◌, ℕ, List, [], ◌∷◌, Bool, true, false, ◌||◌}
use Rattle.hol_types.specs.Tree.{TypeTree}
use Rattle.hol_terms.specs.Nameless.{Nameless, free_occurrences}
use Rattle.hol_terms.specs.Primes.{HasFewestPrimes}
use Rattle.hol_terms.specs.Scoped.{binds}

-- v is free in one of the terms
abbrev pub is_free_in : List Nameless → List ℕ × TypeTree → Bool
is_free_in [] v = false
is_free_in (n ∷ avoid) v = binds (free_occurrences n) v || is_free_in avoid v

-- r is v with the fewest primes more that make it free in no term of the list
pub record IsVariant (avoid : List Nameless) (v r : List ℕ × TypeTree) : Type 0 where
  pub same_type : r.1 ≡ v.1
  pub name : HasFewestPrimes (λ a. is_free_in avoid (a, v.1) ≡ true) v.0 r.0
