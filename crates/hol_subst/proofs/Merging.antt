-- Steps of the loop that merges two lists.
use Rattle.std.specs.Prelude.{◌≡◌, ℕ, ◌≤◌, true, List, [], ◌∷◌, ◌++◌, length, drop, refl}
use Rattle.std.proofs.Common.{ap, sym}
use Rattle.std.specs.declared.cmp.Ordering.{Ordering}
use Rattle.std.specs.Set.{sorted_merge}
use Rattle.std.proofs.lemmas.List.{append-nil, drop_all}

module _ {X : Type 0} (c : X → X → Ordering) where
  abbrev pub merge : List X → List X → List X
  merge = sorted_merge c true

  merge_none : (xs : List X) → merge xs [] ≡ xs ++ []
  merge_none [] = refl
  merge_none (x ∷ xs) = ap (λ (ys : List X). x ∷ ys) (sym (append-nil xs))

  -- where one list is at its end, the other follows
  pub merge_rest_second : (xs ys : List X) (i j : ℕ) → length xs ≤ i → merge (drop i xs) (drop j ys) ≡ drop i xs ++ drop j ys
  merge_rest_second xs ys i j h = rw (drop_all i xs h) refl

  pub merge_rest_first : (xs ys : List X) (i j : ℕ) → length ys ≤ j → merge (drop i xs) (drop j ys) ≡ drop i xs ++ drop j ys
  merge_rest_first xs ys i j h = rw (drop_all j ys h) (merge_none (drop i xs))
