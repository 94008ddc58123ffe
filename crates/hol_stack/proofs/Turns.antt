-- Lists of which the first elements are put last, or the last one is taken.
use Rattle.std.specs.Prelude.{◌≡◌, ℕ, zero, suc, ◌+◌, ◌*◌, ◌/◌, ◌%◌, ◌≤◌, ◌<◌, List, [], ◌∷◌, ◌++◌, length, drop, take, reverse, get_or, refl}
use Rattle.std.specs.List.{AllByRecursion}
use Rattle.std.proofs.Common.{ap, sym, ◌∙◌, subst, arith}
use Rattle.std.proofs.lemmas.List.{append-nil, append_assoc, take-append-drop, length-take-le, reverse-append}
use Rattle.std.proofs.lemmas.Nat.{div-add-mod'}
use Rattle.std.proofs.Math.Nat.{zero-mul, suc-mul}
use Rattle.hol_goal.specs.Goal.{GoalValue}
use Rattle.hol_just.proofs.Validity.{all_both, all_left, all_right}
use Rattle.hol_stack.specs.StackValue.{turned}

turned_nil : (n : ℕ) → turned n [] ≡ []
turned_nil zero = refl
turned_nil (suc n) = refl

turned_through : (xs ys : List GoalValue) → turned (length xs) (xs ++ ys) ≡ ys ++ xs
turned_through [] ys = sym (append-nil ys)
turned_through (x ∷ xs) ys =
    ap (turned (length xs)) (append_assoc xs ys (x ∷ [])) ∙ turned_through xs (ys ++ (x ∷ [])) ∙ append_assoc ys (x ∷ []) xs

turned_add : (m n k : ℕ) (gs : List GoalValue) → k ≡ m + n → turned k gs ≡ turned n (turned m gs)
turned_add zero n k gs e = let same : k ≡ n = omega (arith, e) in ap (λ j. turned j gs) same
turned_add (suc m) n (suc k) [] e = sym (turned_nil n)
turned_add (suc m) n (suc k) (g ∷ gs) e = turned_add m n k (gs ++ (g ∷ [])) (omega (arith, e))
turned_add (suc m) n zero gs e = absurd (omega (arith, e))

turned_once : (gs : List GoalValue) → turned (length gs) gs ≡ gs
turned_once gs = ap (turned (length gs)) (sym (append-nil gs)) ∙ turned_through gs []

turned_often : (q k : ℕ) (gs : List GoalValue) → k ≡ q * length gs → turned k gs ≡ gs
turned_often zero k gs e = ap (λ j. turned j gs) (e ∙ zero-mul (length gs))
turned_often (suc q) k gs e =
    let sum : suc q * length gs ≡ q * length gs + length gs = suc-mul q (length gs) in
    turned_add (length gs) (q * length gs) k gs (omega (arith, e, sum)) ∙ ap (turned (q * length gs)) (turned_once gs) ∙ turned_often q (q * length gs) gs refl

turned_within : (n : ℕ) (gs : List GoalValue) → n ≤ length gs → turned n gs ≡ drop n gs ++ take n gs
turned_within n gs h =
    (λ i. turned (sym (length-take-le n gs h) i) (sym (take-append-drop n gs) i)) ∙ turned_through (take n gs) (drop n gs)

-- to turn by the rest is to turn by all
pub turned_by : (n by count : ℕ) (gs : List GoalValue) → count ≡ length gs → by ≡ n % count → by ≤ length gs → turned n gs ≡ drop by gs ++ take by gs
turned_by n by count gs is rest h =
    let whole : n ≡ n / length gs * length gs + by =
    sym (div-add-mod' n (length gs)) ∙ ap (λ k. n / length gs * length gs + k) (ap (λ k. n % k) (sym is) ∙ sym rest) in
    turned_add (n / length gs * length gs) by n gs whole
    ∙ ap (turned by) (turned_often (n / length gs) (n / length gs * length gs) gs refl)
    ∙ turned_within by gs h

-- what holds of all elements
pub turned_all : {X : Type 0} (P : X → Type 0) (n : ℕ) (xs : List X) → AllByRecursion P xs → AllByRecursion P (drop n xs ++ take n xs)
turned_all P n xs a =
    let both = subst (AllByRecursion P) (sym (take-append-drop n xs)) a in
    all_both P (drop n xs) (take n xs) (all_right P (take n xs) (drop n xs) both) (all_left P (take n xs) (drop n xs) both)

-- ---- the last element taken

taken_last : {X : Type 0} (xs : List X) (i j : ℕ) (x : X) → j ≡ i + 1 → i < length xs → x ≡ get_or xs i x → take j xs ≡ take i xs ++ (x ∷ [])
taken_last (y ∷ xs) zero (suc zero) x at h e = ap (λ z. z ∷ []) (sym e)
taken_last (y ∷ xs) (suc i) (suc j) x at h e = ap (λ zs. y ∷ zs) (taken_last xs i j x (omega (arith, at)) (omega (arith, h)) e)
taken_last (y ∷ xs) zero zero x at h e = absurd (omega (arith, at))
taken_last (y ∷ xs) zero (suc (suc j)) x at h e = absurd (omega (arith, at))
taken_last (y ∷ xs) (suc i) zero x at h e = absurd (omega (arith, at))
taken_last [] i j x at h e = absurd (omega (arith, h))

pub reverse_taken : {X : Type 0} (xs : List X) (i j : ℕ) (x : X) → j ≡ i + 1 → i < length xs → x ≡ get_or xs i x → reverse (take j xs) ≡ x ∷ reverse (take i xs)
reverse_taken xs i j x at h e = ap reverse (taken_last xs i j x at h e) ∙ reverse-append (take i xs) (x ∷ [])
