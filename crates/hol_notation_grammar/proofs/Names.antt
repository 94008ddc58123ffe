-- The names that have to differ, in a list of steps.
use Rattle.std.proofs.Common.{◌≡◌, ◌≤◌, ◌<◌, ◌+◌, ◌⊎◌, inl, inr, Bool, true, false, ◌||◌, ◌&&◌, ℕ, suc, List, [], ◌∷◌, ◌++◌, length, refl, ap, ◌∙◌, sym, subst, arith, append_assoc}
use Rattle.std.proofs.lemmas.List.{append-nil}
use Rattle.std.specs.Prelude.{bytes_eq}
use Rattle.hol_notation_tokens.specs.Token.{is_among}
use Rattle.hol_notation_grammar.specs.Grammar.{StepText, choose, take, named, add_if, AreNew}

abbrev Names : Type 0
Names = List (List ℕ)

add_join : (b : Bool) (x : List ℕ) (xs ys : Names) → add_if b x (xs ++ ys) ≡ add_if b x xs ++ ys
add_join true x xs ys = refl
add_join false x xs ys = refl

pub named_join : (es fs : List StepText) → named (es ++ fs) ≡ named es ++ named fs
named_join [] fs = refl
named_join (choose p ∷ es) fs = named_join es fs
named_join (take c x ∷ es) fs = ap (add_if _ x.text) (named_join es fs) ∙ add_join _ x.text (named es) (named fs)

pub new_front : (b xs ys : Names) → AreNew b (xs ++ ys) → AreNew b xs
new_front b [] ys h = tt
new_front b (x ∷ xs) ys h = (h.0, new_front (b ++ x ∷ []) xs ys h.1)

pub new_back : (b xs ys : Names) → AreNew b (xs ++ ys) → AreNew (b ++ xs) ys
new_back b [] ys h = subst (λ (l : Names). AreNew l ys) (sym (append-nil b)) h
new_back b (x ∷ xs) ys h = subst (λ (l : Names). AreNew l ys) (append_assoc b (x ∷ []) xs) (new_back (b ++ x ∷ []) xs ys h.1)

pub new_join : (b xs ys : Names) → AreNew b xs → AreNew (b ++ xs) ys → AreNew b (xs ++ ys)
new_join b [] ys h k = subst (λ (l : Names). AreNew l ys) (append-nil b) k
new_join b (x ∷ xs) ys h k = (h.0, new_join (b ++ x ∷ []) xs ys h.1 (subst (λ (l : Names). AreNew l ys) (sym (append_assoc b (x ∷ []) xs)) k))

-- names of falling lengths, all of them between two bounds
abbrev pub Falling : ℕ → ℕ → Names → Type 0
Falling low high [] = Unit {0}
Falling low high (x ∷ xs) = ((low < length x) × (length x < high)) × Falling low (length x) xs

pub falling_wider : (low high higher : ℕ) (xs : Names) → high ≤ higher → Falling low high xs → Falling low higher xs
falling_wider low high higher [] h f = tt
falling_wider low high higher (x ∷ xs) h f = ((f.0.0, omega (arith, h, f.0.1)), f.1)

-- names none of whose lengths is between the bounds
abbrev Apart : ℕ → ℕ → Names → Type 0
Apart low high [] = Unit {0}
Apart low high (x ∷ xs) = ((length x ≤ low) ⊎ (high ≤ length x)) × Apart low high xs

apart_less : (low high less : ℕ) (xs : Names) → less ≤ high → Apart low high xs → Apart low less xs
apart_less low high less [] h a = tt
apart_less low high less (x ∷ xs) h a = (elim a.0 [ inl l ↦ inl l | inr g ↦ inr (omega (arith, h, g)) ], apart_less low high less xs h a.1)

apart_more : (low high : ℕ) (xs : Names) (y : List ℕ) → high ≤ length y → Apart low high xs → Apart low high (xs ++ y ∷ [])
apart_more low high [] y h a = (inr h, tt)
apart_more low high (x ∷ xs) y h a = (a.0, apart_more low high xs y h a.1)

apart_wider : (low lower high : ℕ) (xs : Names) → lower ≤ low → Apart lower high xs → Apart low high xs
apart_wider low lower high [] h a = tt
apart_wider low lower high (x ∷ xs) h a = (elim a.0 [ inl l ↦ inl (omega (arith, h, l)) | inr g ↦ inr g ], apart_wider low lower high xs h a.1)

abbrev pub total : Names → ℕ
total [] = 0
total (x ∷ xs) = length x + total xs

apart_total : (high : ℕ) (xs : Names) → Apart (total xs) high xs
apart_total high [] = tt
apart_total high (x ∷ xs) = (inl (omega arith), apart_wider (length x + total xs) (total xs) high xs (omega arith) (apart_total high xs))

-- texts of different lengths differ
other_length : (x y : List ℕ) → (length x ≡ length y → ⊥) → bytes_eq x y ≡ false
other_length [] [] h = absurd (h refl)
other_length [] (y ∷ ys) h = refl
other_length (x ∷ xs) [] h = refl
other_length (x ∷ xs) (y ∷ ys) h = both _ _ (other_length xs ys (λ e. h (ap suc e)))
  where
    both : (a b : Bool) → b ≡ false → (a && b) ≡ false
    both true b e = e
    both false b e = refl

not_among : (low high : ℕ) (xs : Names) (y : List ℕ) → Apart low high xs → low < length y → length y < high → is_among xs y ≡ false
not_among low high [] y a l g = refl
not_among low high (x ∷ xs) y a l g =
    neither _ _ (other_length y x (λ e. elim a.0 [ inl m ↦ absurd (omega (arith, e, m, l)) | inr m ↦ absurd (omega (arith, e, m, g)) ])) (not_among low high xs y a.1 l g)
  where
    neither : (a b : Bool) → a ≡ false → b ≡ false → (a || b) ≡ false
    neither true b e f = e
    neither false b e f = f

falling_new : (low high : ℕ) (before xs : Names) → Apart low high before → Falling low high xs → AreNew before xs
falling_new low high before [] a f = tt
falling_new low high before (x ∷ xs) a f = (
  not_among low high before x a f.0.0 f.0.1,
  falling_new low (length x) (before ++ x ∷ []) xs (apart_more low (length x) before x (omega arith) (apart_less low high (length x) before (omega (arith, f.0.1)) a)) f.1,
)

-- longer names are new after names that are new
pub falling_join : (before xs : Names) (high : ℕ) → AreNew [] before → Falling (total before) high xs → AreNew [] (before ++ xs)
falling_join before xs high h f = new_join [] before xs h (falling_new (total before) high before xs (apart_total high before) f)
