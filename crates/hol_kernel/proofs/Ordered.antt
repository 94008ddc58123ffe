-- Strictly sorted lists with the same elements are equal, and what a sorting gives.
use Rattle.std.specs.Prelude.{◌≡◌, Bool, true, false, ◌||◌, List, [], ◌∷◌, refl}
use Rattle.std.proofs.Common.{ap, sym, ◌∙◌, subst}
use mathlib.Core.Bool.{true≢false}
use Rattle.std.specs.declared.cmp.Ordering.{Ordering}
use Rattle.std.specs.declared.cmp.Ordering.TheVariants.{Less, Equal, Greater}
use Rattle.std.specs.Ordering.{eq_by_cmp, is_eq, ordering_reverse}
use Rattle.std.specs.Cmp.{IsTotalOrder}
use Rattle.std.specs.List.{list_any, AllByRecursion}
use Rattle.std.specs.List.Sorted.{IsStrictlySortedBy}
use Rattle.std.specs.Set.{sorted_merge}
use Rattle.std.specs.FinSet as set
use Rattle.std.proofs.Math.Bool.{or-false}
use Rattle.hol_kernel.proofs.SortedSets.{all_map, sorted_one, sorted_none, sorted_merged, set_merged}
use Rattle.hol_kernel.proofs.Members.{itself, equal_keys}
pub use Rattle.hol_subst.proofs.SortedSets.{some_any as any_of}

module _ {K : Type 0} {R : K → K → Ordering} (o : IsTotalOrder R) (only : set.IsAntisymmetric R) where
  abbrev has : K → List K → Bool
  has q xs = list_any (eq_by_cmp R q) xs

  abbrev Below : K → List K → Type 0
  Below q xs = AllByRecursion (λ y. R q y ≡ Less) xs

  below_absent : (q : K) (xs : List K) → Below q xs → has q xs ≡ false
  below_absent q [] a = refl
  below_absent q (x ∷ xs) a = ap (λ r. is_eq r || has q xs) a.0 ∙ below_absent q xs a.1

  has_first : (x : K) (xs : List K) → has x (x ∷ xs) ≡ true
  has_first x xs = ap (λ b. b || has x xs) (itself o only x)

  apart : (x y : K) (xs ys : List K) → R x y ≡ Less → Below y ys → ((q : K) → has q (x ∷ xs) ≡ has q (y ∷ ys)) → ⊥
  apart x y xs ys e b m =
      true≢false (sym (has_first x xs) ∙ m x ∙ below_absent x (y ∷ ys) (e, all_map (λ z. R y z ≡ Less) (λ z. R x z ≡ Less) (λ z l. o.trans x y z e l) ys b))

  tails : (x : K) (xs ys : List K) → Below x xs → Below x ys → ((q : K) → has q (x ∷ xs) ≡ has q (x ∷ ys)) → (q : K) → has q xs ≡ has q ys
  tails x xs ys a b m q = by (eq_by_cmp R q x) refl (m q)
    where
      gone : (zs : List K) → q ≡ x → Below x zs → has q zs ≡ false
      gone zs e c = ap (λ z. has z zs) e ∙ below_absent x zs c

      by : (t : Bool) → eq_by_cmp R q x ≡ t → (t || has q xs) ≡ (t || has q ys) → has q xs ≡ has q ys
      by true h e = let is : q ≡ x = equal_keys o only q x h in gone xs is a ∙ sym (gone ys is b)
      by false h e = e

  pub sorted_unique : (xs ys : List K) → IsStrictlySortedBy R xs → IsStrictlySortedBy R ys → ((q : K) → has q xs ≡ has q ys) → xs ≡ ys
  unfolding IsStrictlySortedBy
  sorted_unique [] [] s t m = refl
  sorted_unique [] (y ∷ ys) s t m = absurd (true≢false (sym (has_first y ys) ∙ sym (m y)))
  sorted_unique (x ∷ xs) [] s t m = absurd (true≢false (sym (has_first x xs) ∙ m x))
  sorted_unique (x ∷ xs) (y ∷ ys) s t m = by (R x y) refl (sorted_unique xs ys s.1 t.1)
    where
      level : x ≡ y → (((q : K) → has q xs ≡ has q ys) → xs ≡ ys) → x ∷ xs ≡ y ∷ ys
      level e rest =
          let b : Below x ys = subst (λ (z : K). Below z ys) (sym e) t.0 in
          let n : (q : K) → has q (x ∷ xs) ≡ has q (x ∷ ys) = λ q. m q ∙ ap (λ z. has q (z ∷ ys)) (sym e) in
          λ i. e i ∷ rest (tails x xs ys s.0 b n) i

      by : (r : Ordering) → R x y ≡ r → (((q : K) → has q xs ≡ has q ys) → xs ≡ ys) → x ∷ xs ≡ y ∷ ys
      by Less e rest = absurd (apart x y xs ys e t.0 m)
      by Equal e rest = level (only x y e) rest
      by Greater e rest = absurd (apart y x ys xs (o.antisymm y x ∙ ap ordering_reverse e) s.0 (λ q. sym (m q)))

  -- a list sorted by merging its elements one by one
  abbrev sorting : List K → List K
  sorting [] = []
  sorting (x ∷ xs) = sorted_merge R true (x ∷ []) (sorting xs)

  sorting_sorted : (xs : List K) → IsStrictlySortedBy R (sorting xs)
  sorting_sorted [] = sorted_none o
  sorting_sorted (x ∷ xs) = sorted_merged o (x ∷ []) (sorting xs) (sorted_one o x) (sorting_sorted xs)

  one_more : (s : set.FinSet R) (x : K) → set.union (set.insert set.empty x) s ≡ set.insert s x
  one_more s x =
      set.same_set o only _ _
      (λ q. set.contains-union o (set.insert set.empty x) s q
      ∙ ap (λ b. b || set.contains s q) (set.contains-insert o set.empty x q ∙ ap (λ b. eq_by_cmp R q x || b) (set.contains-empty R q) ∙ or-false (eq_by_cmp R q x))
      ∙ sym (set.contains-insert o s x q))

  sorting_set : (xs : List K) → set.from_list {R = R} (sorting xs) ≡ set.from_list xs
  sorting_set [] = refl
  sorting_set (x ∷ xs) = set_merged o only (x ∷ []) (sorting xs) ∙ one_more (set.from_list (sorting xs)) x ∙ ap (λ (s : set.FinSet R). set.insert s x) (sorting_set xs)

  pub in_sorting : (s : set.FinSet R) (q : K) → has q (sorting (set.items s)) ≡ set.contains s q
  in_sorting s q =
      sym (set.contains-from_list o (sorting (set.items s)) q) ∙ ap (λ (t : set.FinSet R). set.contains t q) (sorting_set (set.items s))
      ∙ set.contains-from_list o (set.items s) q ∙ sym (set.contains-items s q)

  -- a strictly sorted list is the sorting of its set
  pub sorted_is : (xs : List K) (s : set.FinSet R) → IsStrictlySortedBy R xs → set.from_list xs ≡ s → xs ≡ sorting (set.items s)
  sorted_is xs s h e =
      sorted_unique xs (sorting (set.items s)) h (sorting_sorted (set.items s))
      (λ q. sym (set.contains-from_list o xs q) ∙ ap (λ (t : set.FinSet R). set.contains t q) e ∙ sym (in_sorting s q))
