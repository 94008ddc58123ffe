-- Pairs of a term and a variable, as a caller hands them in: two named terms, of which the second is to be a variable of the first's type.
-- Source: HOL Light's fusion.ml, vsubst, which fails on other pairs.
use Rattle.std.specs.Prelude.{◌≡◌, ℕ, List, [], ◌∷◌, ◌⊎◌, Some}
use Rattle.hol_types.specs.Tree.{TypeTree}
use Rattle.hol_terms.specs.Named.{Named, var, constant, comb, abs, named_type}
use Rattle.hol_terms.specs.Nameless.{Nameless, nameless}

-- the pair may be substituted: its second part is a variable, and its first has that variable's type
abbrev pub IsGoodPair : Named × Named → Type 0
IsGoodPair p = (v : List ℕ × TypeTree) × (p.1 ≡ var v) × (named_type p.0 ≡ Some v.1)

abbrev pub HasBadPair : List (Named × Named) → Type 0
HasBadPair [] = ⊥
HasBadPair (p ∷ pairs) = (IsGoodPair p → ⊥) ⊎ HasBadPair pairs

-- the pair of the term t and the variable that u is, before others; where u is none, there is no pair
abbrev pub pair_before : Nameless → Named → List (Nameless × (List ℕ × TypeTree)) → List (Nameless × (List ℕ × TypeTree))
pair_before t (var v) pairs = (t, v) ∷ pairs
pair_before t (constant c s) pairs = pairs
pair_before t (comb f x) pairs = pairs
pair_before t (abs v b) pairs = pairs

-- the pairs as nameless terms for variables, in the same order
abbrev pub nameless_pairs : List (Named × Named) → List (Nameless × (List ℕ × TypeTree))
nameless_pairs [] = []
nameless_pairs (p ∷ pairs) = pair_before (nameless [] p.0) p.1 (nameless_pairs pairs)
