-- Types in which no type variable stands twice, and types that have none in common. Only contracts of hol_typing, hol_infer's private ones and proofs cite this.
use Rattle.std.specs.Prelude.{◌≡◌, ℕ, List, [], ◌∷◌, true, false}
use Rattle.hol_types.specs.Tree.{TypeTree, type_list}
use Rattle.hol_types.specs.Names.{is_among, type_names, types_names}

-- no name stands twice
abbrev pub AreDistinct : List (List ℕ) → Type 0
AreDistinct [] = Unit {0}
AreDistinct (a ∷ names) = (is_among names a ≡ false) × AreDistinct names

abbrev pub IsLinear : TypeTree → Type 0
IsLinear ty = AreDistinct (type_names ty)

-- no name but these stands twice
abbrev pub AreDistinctBut : List (List ℕ) → List (List ℕ) → Type 0
AreDistinctBut but [] = Unit {0}
AreDistinctBut but (a ∷ names) = (is_among but a ≡ false → is_among names a ≡ false) × AreDistinctBut but names

abbrev pub IsLinearBut : List (List ℕ) → TypeTree → Type 0
IsLinearBut but ty = AreDistinctBut but (type_names ty)

abbrev pub AreLinear : List TypeTree → Type 0
AreLinear [] = Unit {0}
AreLinear (t ∷ ts) = IsLinear t × AreLinear ts

abbrev pub AreLinearBut : List (List ℕ) → List TypeTree → Type 0
AreLinearBut but [] = Unit {0}
AreLinearBut but (t ∷ ts) = IsLinearBut but t × AreLinearBut but ts

-- no name is among both
abbrev pub AreApart : List (List ℕ) → List (List ℕ) → Type 0
AreApart names others = (a : List ℕ) → is_among names a ≡ true → is_among others a ≡ false

-- no two of the types have a type variable in common
abbrev pub ArePairwiseApart : List TypeTree → Type 0
ArePairwiseApart [] = Unit {0}
ArePairwiseApart (t ∷ ts) = AreApart (type_names t) (types_names (type_list ts)) × ArePairwiseApart ts

-- no name but these is among both
abbrev pub AreApartBut : List (List ℕ) → List (List ℕ) → List (List ℕ) → Type 0
AreApartBut but names others = (a : List ℕ) → is_among but a ≡ false → is_among names a ≡ true → is_among others a ≡ false

-- no two of the types have another type variable than these in common
abbrev pub ArePairwiseApartBut : List (List ℕ) → List TypeTree → Type 0
ArePairwiseApartBut but [] = Unit {0}
ArePairwiseApartBut but (t ∷ ts) = AreApartBut but (type_names t) (types_names (type_list ts)) × ArePairwiseApartBut but ts
