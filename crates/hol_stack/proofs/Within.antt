-- A basis that lies within one that it agrees with: each of its items is found there by its names.
use Rattle.std.specs.Prelude.{◌≡◌, ◌⊎◌, ◌<◌, ◌+◌, ℕ, zero, suc, true, is_some, List, [], ◌∷◌, ◌++◌, take, length, get_or, Option, Some, None}
use Rattle.std.specs.FinSet as set
use Rattle.std.proofs.Common.{ap, sym, ◌∙◌, subst, inl, inr, arith, refl}
use Rattle.std.proofs.lemmas.List.{take_more, take_all}
use Rattle.hol_kernel.specs.Clashing.{shared_in}
use Rattle.hol_kernel.specs.Extends.{Agree}
use Rattle.hol_kernel.specs.Item.{Item}
use Rattle.hol_kernel.specs.Items.{Items, in_order, Holds, IsSubset}
use Rattle.hol_kernel.specs.Signature.{item_keys}
use Rattle.hol_kernel.proofs.Clashes.{found}
use Rattle.hol_kernel.proofs.ItemOrder.{total, only}
use Rattle.hol_kernel.proofs.Members.{Among, same_members, in_union_left, in_union_right, in_union_cases}
use Rattle.hol_kernel.proofs.Subsets.{within_of_subset, subset_of_within}
use Rattle.hol_kernel.proofs.Weaken.{held, ordered_held}

-- ---- lists

among_at : (xs : List Item) (i : ℕ) (d : Item) → i < length xs → Among (get_or xs i d) xs
among_at [] i d lt = absurd (omega (arith, lt))
among_at (x ∷ xs) zero d lt = inl refl
among_at (x ∷ xs) (suc i) d lt = inr (among_at xs i d (omega (arith, lt)))

at_place : (xs : List Item) (i : ℕ) (x : Item) → i < length xs → x ≡ get_or xs i x → Among x xs
at_place xs i x lt is = subst (λ (y : Item). Among y xs) (sym is) (among_at xs i x lt)

split : (x : Item) (xs ys : List Item) → Among x (xs ++ ys) → Among x xs ⊎ Among x ys
split x [] ys i = inr i
split x (y ∷ xs) ys (inl is) = inl (inl is)
split x (y ∷ xs) ys (inr i) = elim (split x xs ys i) [ inl j ↦ inl (inr j) | inr j ↦ inr j ]

-- ---- items that are found

-- the basis has each of the items
abbrev pub AreHeld : Items → List Item → Type 0
AreHeld items xs = (x : Item) → Among x xs → Holds items x

name_of : (o : Option (List ℕ)) → is_some o ≡ true → (name : List ℕ) × (o ≡ Some name)
name_of None e = absurd (cc)
name_of (Some name) e = (name, refl)

-- with one item more, that has a name with one of the basis
pub one_more : (whole part : Items) (xs ys : List Item) (i j : ℕ) (x y : Item) → Agree whole part → xs ≡ in_order whole → ys ≡ in_order part → i < length xs → x ≡ get_or xs i x → j < length ys → y ≡ get_or ys j y →
    is_some (shared_in (item_keys x) y) ≡ true → AreHeld whole (take j ys) → AreHeld whole (take (j + 1) ys)
one_more whole part xs ys i j x y agree e f lt is more there shared old z among =
    let some = name_of (shared_in (item_keys x) y) shared in
    let one = found (item_keys x) y some.0 some.1 in
    let own : Holds whole x = held whole x (subst (λ (l : List Item). Among x l) e (at_place xs i x lt is)) in
    let other : Holds part y = held part y (subst (λ (l : List Item). Among y l) f (at_place ys j y more there)) in
    let same : x ≡ y = agree x y one.0 own other one.1 one.2 in
    let taken : take (j + 1) ys ≡ take j ys ++ y ∷ [] = take_more ys j y more ∙ ap (λ (w : Item). take j ys ++ w ∷ []) (sym there) in
    by (split z (take j ys) (y ∷ []) (subst (λ (l : List Item). Among z l) taken among)) same own
  where
    by : Among z (take j ys) ⊎ Among z (y ∷ []) → x ≡ y → Holds whole x → Holds whole z
    by (inl i) same own = old z i
    by (inr (inl is)) same own = subst (Holds whole) (same ∙ sym is) own
    by (inr (inr none)) same own = absurd none

pub all_within : (whole part : Items) (ys : List Item) (n : ℕ) → ys ≡ in_order part → n ≡ length ys → AreHeld whole (take n ys) → IsSubset part whole
all_within whole part ys n e all h =
    subset_of_within part whole (λ x i. h x (subst (λ (l : List Item). Among x l) (sym e ∙ sym (take_all n ys (omega (arith, all)))) (ordered_held part x i)))

-- ---- bases that agree

pub turned : (a b : Items) → Agree a b → Agree b a
turned a b h x y k i j f g = sym (h y x k j i g f)

pub union_within : (a b : Items) → IsSubset b a → set.union a b ≡ a
union_within a b h =
    same_members total only (set.union a b) a
    (λ q i. elim (in_union_cases total only a b q i) [ inl j ↦ j | inr j ↦ within_of_subset b a h q j ])
    (λ q i. in_union_left total only a b q i)

pub within_union : (a b : Items) → IsSubset a b → set.union a b ≡ b
within_union a b h =
    same_members total only (set.union a b) b
    (λ q i. elim (in_union_cases total only a b q i) [ inl j ↦ within_of_subset a b h q j | inr j ↦ j ])
    (λ q i. in_union_right total only a b q i)
