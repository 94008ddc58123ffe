-- What the search for a free name keeps. Private contracts cite it.
use Rattle.std.specs.Prelude.{◌≡◌, ℕ, List, get_or, Bool, false, ◌||◌}
use Rattle.std.specs.Int.{bit_at}
use Rattle.std.specs.Int.RustNames.{bit_and}
use Rattle.hol_types.specs.Filter.{name_place}
use Rattle.hol_terms.specs.Filter.{filter_of, constant_filter_of}
use Rattle.hol_terms.specs.Named.{Named}
use Rattle.hol_terms.specs.Primes.{with_primes}

-- the second list is the first with a mark at each place, of all beyond its end too, where the test holds
abbrev pub Marks : List Bool → List Bool → (ℕ → Bool) → Type 0
Marks old new test = (k : ℕ) → get_or new k false ≡ (get_or old k false || test k)

-- the name's place is among these bits
abbrev pub HasPlace : ℕ → List ℕ → Type 0
HasPlace bits a = bit_at bits (name_place 0 a) ≡ 1

-- the places of the base with each number of primes are
abbrev pub HasPrimed : ℕ → List ℕ → Type 0
HasPrimed bits base = (k : ℕ) → HasPlace bits (with_primes k base)

-- no variable and no constant of the term has a name whose place is
pub record Lacks (bits : ℕ) (t : Named) : Type 0 where
  pub free : bit_and (filter_of t) bits ≡ 0
  pub constants : bit_and (constant_filter_of t) bits ≡ 0
