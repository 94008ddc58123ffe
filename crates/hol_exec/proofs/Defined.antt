-- The first name of a variable that is free, found one by one.
use Rattle.std.specs.Prelude.{◌≡◌, ◌≤◌, ℕ, zero, suc, List, [], ◌∷◌, drop, length, map, Option, Some, None, refl}
use Rattle.std.specs.declared.cmp.Ordering.{Ordering}
use Rattle.std.specs.declared.cmp.Ordering.TheVariants.{Less, Equal, Greater}
use Rattle.std.proofs.Common.{ap, sym, ◌∙◌, arith}
use Rattle.hol_types.specs.Tree.{TypeTree}
use Rattle.hol_types.specs.Names.{insert_name, insert_names, placed_name}
use Rattle.hol_types.specs.Order.{name_cmp}
use Rattle.hol_exec.specs.Defining.{first_name}
use Rattle.hol_exec.specs.Valid.{earlier_by, earlier}

-- the first of the names and of this one, if there is one
abbrev pub earliest : Option (List ℕ) → List (List ℕ) → Option (List ℕ)
earliest first [] = first
earliest first (a ∷ names) = earliest (Some (earlier first a)) names

placed_first : (o : Ordering) (a b : List ℕ) (after inserted : List (List ℕ)) → first_name (placed_name o a b after inserted) ≡ Some (earlier_by o a b)
placed_first Less a b after inserted = refl
placed_first Equal a b after inserted = refl
placed_first Greater a b after inserted = refl

inserted_first : (a : List ℕ) (names : List (List ℕ)) → first_name (insert_name a names) ≡ Some (earlier (first_name names) a)
inserted_first a [] = refl
inserted_first a (b ∷ names) = placed_first (name_cmp a b) a b names (insert_name a names)

all_first : (names more : List (List ℕ)) → first_name (insert_names names more) ≡ earliest (first_name names) more
all_first names [] = refl
all_first names (a ∷ more) = all_first (insert_name a names) more ∙ ap (λ (o : Option (List ℕ)). earliest o more) (inserted_first a names)

drop_all : (vs : List (List ℕ × TypeTree)) (i : ℕ) → length vs ≤ i → drop i vs ≡ []
drop_all [] zero h = refl
drop_all [] (suc i) h = refl
drop_all (v ∷ vs) zero h = absurd (omega (arith, h))
drop_all (v ∷ vs) (suc i) h = drop_all vs i (omega (arith, h))

-- where none is left, it is the first of the list in order of bytes
pub earliest_first : (first : Option (List ℕ)) (items vs : List (List ℕ × TypeTree)) (i : ℕ) → earliest None (map (λ v. v.0) items) ≡ earliest first (map (λ v. v.0) (drop i items)) → length items ≤ i → items ≡ vs →
    first ≡ first_name (insert_names [] (map (λ v. v.0) vs))
earliest_first first items vs i h end is =
    sym (h ∙ ap (λ (l : List (List ℕ × TypeTree)). earliest first (map (λ v. v.0) l)) (drop_all items i end))
    ∙ sym (all_first [] (map (λ v. v.0) items))
    ∙ ap (λ (l : List (List ℕ × TypeTree)). first_name (insert_names [] (map (λ v. v.0) l))) is
