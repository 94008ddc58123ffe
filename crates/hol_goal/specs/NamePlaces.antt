-- How the code finds a name in a part: by its place. Only its clauses speak of it.
use Rattle.std.specs.Prelude.{◌≡◌, ◌%◌, ◌⊎◌, ℕ, List, [], length, get_or, bytes_eq}
use Rattle.std.specs.List.{list_any}

-- the place of a name, of 128
abbrev pub place_of : List ℕ → ℕ
place_of a = length a % 128

-- a name is one of the list just where it is one of those of its place
pub record ArePlaced (names : List (List ℕ)) (places : List (List (List ℕ))) : Type 0 where
  pub count : length places ≡ 128
  pub found : (a : List ℕ) → list_any (bytes_eq a) (get_or places (place_of a) []) ≡ list_any (bytes_eq a) names

-- the same, or there are no places
abbrev pub HasPlaces : List (List ℕ) → List (List (List ℕ)) → Type 0
HasPlaces names places = (places ≡ []) ⊎ ArePlaced names places
