-- When lists, sets of items and sets of hypotheses are the same.
use Rattle.std.specs.Prelude.{◌≡◌, ◌↔◌, ◌<◌, ℕ, Bool, true, false, not, IsTrue, List, [], ◌∷◌, map, length, get_or, Option, Some}
use Rattle.std.proofs.Common.{ap, sym, ◌∙◌, refl, zero, suc, arith}
use Rattle.std.proofs.lemmas.List.{get_or_default}
use Rattle.std.specs.FinSet as set
use Rattle.std.specs.List.Sorted.{IsStrictlySortedBy}
use Rattle.hol_terms.specs.Named.{Named}
use Rattle.hol_kernel.specs.Item.{Item}
use Rattle.hol_kernel.specs.Items.{Items, item_set, in_order}
use Rattle.hol_subst.specs.AlphaOrder.{nameless_cmp}
use Rattle.hol_kernel.specs.Sequent.{Hyps, hyp_of, hyps_of}
use Rattle.hol_kernel.proofs.HypothesisLists.{hyps_total, hyps_same}
use Rattle.hol_kernel.proofs.Ordered.{sorted_is}
use Rattle.hol_theory.specs.Entry.{EntryValue}
use Rattle.hol_theory.specs.SameValue.{same_value, same_values_are}
use Rattle.hol_theory.specs.Adding.{stands_otherwise}

pub same_bases : (a b : Items) (xs ys : List Item) (r : Bool) → xs ≡ in_order a → item_set xs ≡ a → ys ≡ in_order b → item_set ys ≡ b → IsTrue r ↔ (xs ≡ ys) → IsTrue r ↔ (a ≡ b)
same_bases a b xs ys r p q s t h = ((λ e. sym q ∙ ap item_set (h.0 e) ∙ t), (λ e. h.1 (p ∙ ap in_order e ∙ sym s)))

pub same_hypotheses : (a b : Hyps) (xs ys : List Named) (r : Bool) → hyps_of xs ≡ a → IsStrictlySortedBy nameless_cmp (map hyp_of xs) → hyps_of ys ≡ b → IsStrictlySortedBy nameless_cmp (map hyp_of ys) → IsTrue r ↔ (map hyp_of xs ≡ map hyp_of ys) → IsTrue r ↔ (a ≡ b)
same_hypotheses a b xs ys r p q s t h = (
  (λ e. sym p ∙ ap set.from_list (h.0 e) ∙ s),
  (λ e. h.1 (sorted_is hyps_total hyps_same (map hyp_of xs) b q (p ∙ e) ∙ sym (sorted_is hyps_total hyps_same (map hyp_of ys) b t s))),
)

-- ---- lists, one by one

module _ {A B : Type 0} (f : A → B) where
  get_mapped : (xs : List A) (k : ℕ) (d : A) → get_or (map f xs) k (f d) ≡ f (get_or xs k d)
  get_mapped [] k d = refl
  get_mapped (x ∷ xs) zero d = refl
  get_mapped (x ∷ xs) (suc k) d = get_mapped xs k d

  pub mapped_same : (xs ys : List A) → length xs ≡ length ys → ((k : ℕ) (d : A) → k < length xs → f (get_or xs k d) ≡ f (get_or ys k d)) → map f xs ≡ map f ys
  mapped_same [] [] n h = refl
  mapped_same [] (y ∷ ys) n h = absurd (omega (arith, n))
  mapped_same (x ∷ xs) [] n h = absurd (omega (arith, n))
  mapped_same (x ∷ xs) (y ∷ ys) n h =
      let m : length xs ≡ length ys = omega (arith, n) in
      let first : f x ≡ f y = h 0 x (omega arith) in
      let rest : map f xs ≡ map f ys = mapped_same xs ys m (λ k d l. h (suc k) d (omega (arith, l))) in
      λ i. first i ∷ rest i

  pub mapped_differ : (xs ys : List A) (i : ℕ) (x y : A) → x ≡ get_or xs i x → y ≡ get_or ys i y → i < length ys → (f x ≡ f y → ⊥) → map f xs ≡ map f ys → ⊥
  mapped_differ xs ys i x y p q b w e =
      w (ap f p ∙ sym (get_mapped xs i x) ∙ ap (λ zs. get_or zs i (f x)) e ∙ get_mapped ys i x ∙ ap f (get_or_default ys i x y b ∙ sym q))

-- ---- values

pub same_value_is : (r : Bool) (a b : EntryValue) → IsTrue r ↔ (a ≡ b) → r ≡ same_value a b
same_value_is true a b h = sym ((same_values_are a b).1 (h.0 refl))
same_value_is false a b h = by (same_value a b) refl
  where
    by : (w : Bool) → same_value a b ≡ w → false ≡ w
    by true e = h.1 ((same_values_are a b).0 e)
    by false e = refl

pub otherwise_is : (r : Bool) (o : Option EntryValue) (own value : EntryValue) → IsTrue r ↔ (own ≡ value) → Some own ≡ o → not r ≡ stands_otherwise o value
otherwise_is r o own value h e = ap not (same_value_is r own value h) ∙ ap (λ (p : Option EntryValue). stands_otherwise p value) e
