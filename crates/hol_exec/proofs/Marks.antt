-- Marks of tested names, one after the other.
use Rattle.std.specs.Prelude.{◌≡◌, ◌&&◌, ◌<◌, ◌≤◌, ◌+◌, ℕ, Bool, true, false, List, [], ◌∷◌, ◌++◌, length, refl}
use Rattle.std.specs.Bool.{beq}
use Rattle.std.specs.List.{list_all}
use Rattle.std.proofs.Common.{ap, sym, ◌∙◌, append_assoc, get_or, drop}
use Rattle.std.proofs.lemmas.List.{append-nil, drop_all, drop_more}
use Rattle.hol_goal.specs.Names.{stands}
use Rattle.hol_exec.specs.Tested.{TestedValue, marked, is_marked}

-- with those behind the place they are all
module _ (names : List (List ℕ)) where
  pub marks_step : (xs : List (List ℕ)) (i : ℕ) (x : List ℕ) (before after all : TestedValue) → i < length xs → x ≡ get_or xs i x → after ≡ before ++ (x, stands names x) ∷ [] → before ++ marked names (drop i xs) ≡ all →
      after ++ marked names (drop (i + 1) xs) ≡ all
  marks_step xs i x before after all h at is so =
      ap (λ (t : TestedValue). t ++ marked names (drop (i + 1) xs)) is
      ∙ append_assoc before ((x, stands names x) ∷ []) (marked names (drop (i + 1) xs))
      ∙ ap (λ (ys : List (List ℕ)). before ++ marked names ys) (sym (drop_more xs i x h ∙ ap (λ (y : List ℕ). y ∷ drop (i + 1) xs) (sym at)))
      ∙ so

  pub marks_end : (xs : List (List ℕ)) (i : ℕ) (before all : TestedValue) → length xs ≤ i → before ++ marked names (drop i xs) ≡ all → before ≡ all
  marks_end xs i before all h so = sym (append-nil before) ∙ ap (λ (ys : List (List ℕ)). before ++ marked names ys) (sym (drop_all i xs h)) ∙ so

-- ---- whether all are marked rightly, from the place on

module _ (f : List ℕ × Bool → Bool) (xs : TestedValue) (i : ℕ) where
  all_at : (x : List ℕ × Bool) → i < length xs → x ≡ get_or xs i x → list_all f (drop i xs) ≡ (f x && list_all f (drop (i + 1) xs))
  all_at x h at = ap (list_all f) (drop_more xs i x h ∙ ap (λ (y : List ℕ × Bool). y ∷ drop (i + 1) xs) (sym at))

  pub all_not : (x : List ℕ × Bool) → i < length xs → x ≡ get_or xs i x → list_all f xs ≡ list_all f (drop i xs) → f x ≡ false → false ≡ list_all f xs
  all_not x h at so differs = sym (so ∙ all_at x h at ∙ ap (λ b. b && list_all f (drop (i + 1) xs)) differs)

  pub all_on : (x : List ℕ × Bool) → i < length xs → x ≡ get_or xs i x → list_all f xs ≡ list_all f (drop i xs) → f x ≡ true → list_all f xs ≡ list_all f (drop (i + 1) xs)
  all_on x h at so fits = so ∙ all_at x h at ∙ ap (λ b. b && list_all f (drop (i + 1) xs)) fits

  pub all_end : length xs ≤ i → list_all f xs ≡ list_all f (drop i xs) → true ≡ list_all f xs
  all_end h so = sym (so ∙ ap (list_all f) (drop_all i xs h))
