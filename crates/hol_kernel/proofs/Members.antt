-- Membership in finite sets whose order ties only equal keys.
use Rattle.std.specs.Prelude.{◌≡◌, true, false, ◌⊎◌, List, [], ◌∷◌, refl}
use Rattle.std.proofs.Common.{ap, sym, ◌∙◌, inl, inr, subst}
pub use Rattle.std.proofs.lemmas.Bool.{or_left, or_right}
use Rattle.std.proofs.lemmas.Bool.{or_cases}
use mathlib.Core.Bool.{true≢false}
use Rattle.std.specs.declared.cmp.Ordering.{Ordering}
use Rattle.std.specs.Ordering.{eq_by_cmp, is_eq}
use Rattle.std.specs.Cmp.{IsTotalOrder, Equal-is, tied_itself, both_ways}
use Rattle.std.specs.FinSet as set
pub use Rattle.hol_subst.proofs.SortedSets.{Among}

module _ {K : Type 0} {R : K → K → Ordering} (o : IsTotalOrder R) (only : set.IsAntisymmetric R) where
  pub itself : (k : K) → eq_by_cmp R k k ≡ true
  itself k = ap is_eq (tied_itself o k)

  pub equal_keys : (q k : K) → eq_by_cmp R q k ≡ true → q ≡ k
  equal_keys q k e = only q k ((Equal-is (R q k)).0 e)

  pub in_insert_here : (s : set.FinSet R) (k : K) → set.contains (set.insert s k) k ≡ true
  in_insert_here s k = set.contains-insert o s k k ∙ or_left _ _ (itself k)

  pub in_insert_old : (s : set.FinSet R) (k q : K) → set.contains s q ≡ true → set.contains (set.insert s k) q ≡ true
  in_insert_old s k q h = set.contains-insert o s k q ∙ or_right _ _ h

  pub in_insert_cases : (s : set.FinSet R) (k q : K) → set.contains (set.insert s k) q ≡ true → (q ≡ k) ⊎ (set.contains s q ≡ true)
  in_insert_cases s k q h =
      elim (or_cases _ _ (sym (set.contains-insert o s k q) ∙ h)) [ inl e ↦ inl (equal_keys q k e) | inr e ↦ inr e ]

  pub in_union_left : (s t : set.FinSet R) (q : K) → set.contains s q ≡ true → set.contains (set.union s t) q ≡ true
  in_union_left s t q h = set.contains-union o s t q ∙ or_left _ _ h

  pub in_union_right : (s t : set.FinSet R) (q : K) → set.contains t q ≡ true → set.contains (set.union s t) q ≡ true
  in_union_right s t q h = set.contains-union o s t q ∙ or_right _ _ h

  pub in_union_cases : (s t : set.FinSet R) (q : K) → set.contains (set.union s t) q ≡ true → (set.contains s q ≡ true) ⊎ (set.contains t q ≡ true)
  in_union_cases s t q h = or_cases _ _ (sym (set.contains-union o s t q) ∙ h)

  pub not_in_empty : (q : K) → set.contains (set.empty {R = R}) q ≡ true → ⊥
  not_in_empty q h = true≢false (sym h ∙ set.contains-empty R q)

  pub same_members : (s t : set.FinSet R) → ((q : K) → set.contains s q ≡ true → set.contains t q ≡ true) → ((q : K) → set.contains t q ≡ true → set.contains s q ≡ true) → s ≡ t
  same_members s t there back = set.same_set o only s t (λ q. both_ways _ _ (there q) (back q))

  pub in_or_out : (s : set.FinSet R) (q : K) → (set.contains s q ≡ true) ⊎ (set.contains s q ≡ true → ⊥)
  in_or_out s q =
      elim (set.contains s q) as (λ b. (b ≡ true) ⊎ (b ≡ true → ⊥)) [ true ↦ inl refl | false ↦ inr (λ e. true≢false (sym e)) ]

  pub union_insert : (a b : set.FinSet R) (x : K) → set.union a (set.insert b x) ≡ set.insert (set.union a b) x
  union_insert a b x =
      same_members _ _
      (λ q h. elim (in_union_cases a (set.insert b x) q h) [
        | inl i ↦ in_insert_old _ x q (in_union_left a b q i)
        | inr i ↦ elim (in_insert_cases b x q i) [
          | inl e ↦ subst (λ (z : K). set.contains (set.insert (set.union a b) x) z ≡ true) (sym e) (in_insert_here _ x)
          | inr j ↦ in_insert_old _ x q (in_union_right a b q j)
        ]
      ])
      (λ q h. elim (in_insert_cases (set.union a b) x q h) [
        | inl e ↦ in_union_right a _ q (subst (λ (z : K). set.contains (set.insert b x) z ≡ true) (sym e) (in_insert_here b x))
        | inr i ↦ elim (in_union_cases a b q i) [
          | inl j ↦ in_union_left a _ q j
          | inr j ↦ in_union_right a _ q (in_insert_old b x q j)
        ]
      ])

-- ---- lists as sets

module _ {K : Type 0} {R : K → K → Ordering} (o : IsTotalOrder R) (only : set.IsAntisymmetric R) where
  pub among_from_list : (ks : List K) (q : K) → set.contains (set.from_list {R = R} ks) q ≡ true → Among q ks
  among_from_list [] q h = not_in_empty o only q h
  among_from_list (x ∷ ks) q h = elim (in_insert_cases o only (set.from_list ks) x q h) [ inl e ↦ inl e | inr i ↦ inr (among_from_list ks q i) ]

  pub from_list_among : (ks : List K) (q : K) → Among q ks → set.contains (set.from_list {R = R} ks) q ≡ true
  from_list_among [] q h = absurd h
  from_list_among (x ∷ ks) q (inl e) = subst (λ (z : K). set.contains {R = R} (set.insert (set.from_list ks) x) z ≡ true) (sym e) (in_insert_here o only (set.from_list ks) x)
  from_list_among (x ∷ ks) q (inr h) = in_insert_old o only (set.from_list ks) x q (from_list_among ks q h)

  pub from_list_items : (s : set.FinSet R) → set.from_list (set.items s) ≡ s
  from_list_items s = set.same_set o only _ _ (λ q. set.contains-from_list o (set.items s) q ∙ sym (set.contains-items s q))
