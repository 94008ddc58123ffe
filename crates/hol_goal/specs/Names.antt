-- Which names constants have: a variable that is freed is called otherwise, as HOL Light's mk_primed_var does it.
use Rattle.std.specs.Prelude.{◌≡◌, ◌||◌, ℕ, List, [], ◌∷◌, Bool, bytes_eq}
use Rattle.std.specs.List.{list_any}
use Rattle.hol_formulas.specs.Constants.{prelude_constants}

-- whether a constant of this name stands, where these are the names of those that a theory has: one of them, or of the prelude's
abbrev pub stands : List (List ℕ) → List ℕ → Bool
stands names a = list_any (bytes_eq a) names || list_any (λ p. bytes_eq a p.0) prelude_constants

-- of each of these a constant stands where the second are the names of those that there are, just as where the first are
abbrev pub AgreeOn : List (List ℕ) → List (List ℕ) → List (List ℕ) → Type 0
AgreeOn names more [] = Unit {0}
AgreeOn names more (a ∷ tested) = (stands more a ≡ stands names a) × AgreeOn names more tested
