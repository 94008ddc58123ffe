-- What the code keeps while it looks for the fewest primes. Private contracts cite it.
use Rattle.std.specs.Prelude.{◌≡◌, ◌<◌, ℕ, List, length, get_or, Bool, false}
use Rattle.hol_types.specs.Names.{is_among}
use Rattle.hol_terms.specs.Primes.{with_primes}

-- the k-th place says whether the base with k primes is one of the names
pub record IsTable (taken : List Bool) (names : List (List ℕ)) (base : List ℕ) : Type 0 where
  pub long : length taken ≡ length names
  pub says : (k : ℕ) → k < length names → get_or taken k false ≡ is_among names (with_primes k base)
