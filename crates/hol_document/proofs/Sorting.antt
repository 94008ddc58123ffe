-- Sorting values by what is seen of them.
use Rattle.std.proofs.Common.{◌≡◌, ℕ, ◌+◌, ◌<◌, List, [], ◌∷◌, map, length, refl, arith}
use Rattle.std.specs.declared.cmp.Ordering.{Ordering}
use Rattle.std.specs.List.Sorted.{IsSorted, IsPermutation}
use Rattle.std.proofs.lemmas.List.{get_or-map}
use Rattle.std.proofs.lemmas.List.Sorted.{IsPermutation-map}
use Rattle.hol_kernel.specs.Items.{Items, in_order}
use Rattle.hol_types.specs.Order.{name_cmp}
use Rattle.hol_document.specs.ItemTexts.{item_text, AreItemTexts}

length_map : {X Y : Type 0} (f : X → Y) (xs : List X) → length (map f xs) ≡ length xs
length_map f [] = refl
length_map f (x ∷ xs) = rw (length_map f xs) refl

pub sorted_map : {X Y : Type 0} (f : X → Y) (cmp : Y → Y → Ordering) (xs : List X) → IsSorted (λ x y. cmp (f x) (f y)) xs → IsSorted cmp (map f xs)
sorted_map f cmp [] h k d low high = absurd (omega (arith, high))
sorted_map f cmp (x ∷ xs) h k d low high =
    let within : k + 1 < length (x ∷ xs) = rw (length_map f (x ∷ xs)) at high in
    rw (get_or-map f (x ∷ xs) (k + 1) x d within, get_or-map f (x ∷ xs) k x d (omega (arith, within))) (h k x low within)

pub item_texts_sorted : {X : Type 0} (f : X → List ℕ) (items : Items) (xs ys : List X) → map f xs ≡ map item_text (in_order items) → IsPermutation xs ys → IsSorted (λ x y. name_cmp (f x) (f y)) ys → AreItemTexts items (map f ys)
item_texts_sorted f items xs ys e p s = record { each = rw e at (IsPermutation-map f xs ys p); sorted = sorted_map f name_cmp ys s }
