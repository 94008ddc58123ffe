-- Terms compared one by one.
use Rattle.std.specs.Prelude.{◌≡◌, ◌<◌, ◌+◌, ℕ, zero, suc, Bool, true, false, ◌&&◌, List, [], ◌∷◌, map, length, refl}
use Rattle.std.proofs.Common.{ap, sym, ◌∙◌, arith, get_or, drop}
use Rattle.hol_terms.specs.Named.{Named}
use Rattle.hol_terms.specs.Nameless.{nameless}
use Rattle.hol_terms.specs.Alpha.{alpha_eq}
use Rattle.hol_combine.specs.Runs.{are_same_terms}

pub differ : (xs ys : List Named) → (length xs ≡ length ys → ⊥) → false ≡ are_same_terms (map (nameless []) xs) (map (nameless []) ys)
differ [] [] h = absurd (h refl)
differ [] (y ∷ ys) h = refl
differ (x ∷ xs) [] h = refl
differ (x ∷ xs) (y ∷ ys) h = go (alpha_eq (nameless [] x) (nameless [] y)) (differ xs ys (λ e. h (ap suc e)))
  where
    go : (b : Bool) → false ≡ are_same_terms (map (nameless []) xs) (map (nameless []) ys) → false ≡ b && are_same_terms (map (nameless []) xs) (map (nameless []) ys)
    go true e = e
    go false e = refl

pub same_at : (xs ys : List Named) (i : ℕ) (x y : Named) → i < length xs → i < length ys → x ≡ get_or xs i x → y ≡ get_or ys i y →
    are_same_terms (map (nameless []) (drop i xs)) (map (nameless []) (drop i ys)) ≡ alpha_eq (nameless [] x) (nameless [] y) && are_same_terms (map (nameless []) (drop (i + 1) xs)) (map (nameless []) (drop (i + 1) ys))
same_at [] ys i x y h k e d = absurd (omega (arith, h))
same_at (a ∷ xs) [] i x y h k e d = absurd (omega (arith, k))
same_at (a ∷ xs) (b ∷ ys) zero x y h k e d = λ j. alpha_eq (nameless [] (sym e j)) (nameless [] (sym d j)) && are_same_terms (map (nameless []) xs) (map (nameless []) ys)
same_at (a ∷ xs) (b ∷ ys) (suc i) x y h k e d =
    same_at xs ys i x y (omega (arith, h)) (omega (arith, k)) e d
    ∙ ap (λ j. alpha_eq (nameless [] x) (nameless [] y) && are_same_terms (map (nameless []) (drop j (a ∷ xs))) (map (nameless []) (drop j (b ∷ ys)))) (more i)
  where
    more : (i : ℕ) → suc (i + 1) ≡ suc i + 1
    more i = omega arith

pub none_left : (xs ys : List Named) (i : ℕ) → length xs ≡ length ys → (i < length xs → ⊥) → are_same_terms (map (nameless []) (drop i xs)) (map (nameless []) (drop i ys)) ≡ true
none_left [] [] zero e h = refl
none_left [] [] (suc i) e h = refl
none_left [] (y ∷ ys) i e h = absurd (omega (arith, e))
none_left (x ∷ xs) [] i e h = absurd (omega (arith, e))
none_left (x ∷ xs) (y ∷ ys) zero e h = absurd (h (omega arith))
none_left (x ∷ xs) (y ∷ ys) (suc i) e h = none_left xs ys i (omega (arith, e)) (λ l. h (omega (arith, l)))
