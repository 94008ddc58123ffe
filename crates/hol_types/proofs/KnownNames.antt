-- The commonest names are told apart by their texts.
use Rattle.std.specs.Prelude.{◌≡◌, ℕ, Bool, true, false, cond, List, [], ◌∷◌, bytes_eq, Option, Some, None, refl}
use Rattle.std.specs.Bool.{Decides, one_answer}
use Rattle.std.proofs.Common.{ap, sym, ◌∙◌}
use Rattle.std.proofs.lemmas.Slice.Eq.{bytes_eq-Decides}
use Rattle.hol_types.specs.declared.known.KnownName.{KnownName}
use Rattle.hol_types.specs.declared.known.KnownName.TheVariants.{FunType, BoolType, IndType, Equality, Choice, Truth, Falsity, Conjunction, Disjunction, Implication, Negation, Forall, Exists, ExistsUnique, OneOne, Onto, UpperA, UpperP, LowerP, LowerQ, LowerX}
use Rattle.hol_types.specs.Known.{known_text, known_names, known_in, known_at}

-- a known name is found by its text
pub known_again : (name : KnownName) → known_at (known_text name) ≡ Some name
known_again FunType = refl
known_again BoolType = refl
known_again IndType = refl
known_again Equality = refl
known_again Choice = refl
known_again Truth = refl
known_again Falsity = refl
known_again Conjunction = refl
known_again Disjunction = refl
known_again Implication = refl
known_again Negation = refl
known_again Forall = refl
known_again Exists = refl
known_again ExistsUnique = refl
known_again OneOne = refl
known_again Onto = refl
known_again UpperA = refl
known_again UpperP = refl
known_again LowerP = refl
known_again LowerQ = refl
known_again LowerX = refl

-- each stands beside its text
abbrev HaveTexts : List (List ℕ × KnownName) → Type 0
HaveTexts [] = Unit {0}
HaveTexts (p ∷ names) = (known_text p.1 ≡ p.0) × HaveTexts names

found_is : (names : List (List ℕ × KnownName)) (c : List ℕ) (name : KnownName) → HaveTexts names → known_in names c ≡ Some name → known_text name ≡ c
found_is [] c name h e = absurd (cc)
found_is (p ∷ names) c name h e = by (bytes_eq c p.0) refl (λ f. found_is names c name h.1 f) e
  where
    by : (b : Bool) → bytes_eq c p.0 ≡ b → (known_in names c ≡ Some name → known_text name ≡ c) → cond b (Some p.1) (known_in names c) ≡ Some name → known_text name ≡ c
    by true r g f = let same : p.1 ≡ name = cc in sym (ap known_text same) ∙ h.0 ∙ sym ((bytes_eq-Decides c p.0).0 r)
    by false r g f = g f

have_texts : HaveTexts known_names
have_texts = (refl, (refl, (refl, (refl, (refl, (refl, (refl, (refl, (refl, (refl, (refl, (refl, (refl, (refl, (refl, (refl, (refl, (refl, (refl, (refl, (refl, tt)))))))))))))))))))))

pub known_is : (c : List ℕ) (name : KnownName) → known_at c ≡ Some name → known_text name ≡ c
known_is c name e = found_is known_names c name have_texts e

texts_tell : (a b : KnownName) → known_text a ≡ known_text b → a ≡ b
texts_tell a b e = let f : Some a ≡ Some b = sym (known_again a) ∙ ap known_at e ∙ known_again b in cc

texts_decide : (a b : KnownName) → Decides (bytes_eq (known_text a) (known_text b)) (a ≡ b)
texts_decide a b = (λ e. texts_tell a b ((bytes_eq-Decides (known_text a) (known_text b)).0 e), λ e. (bytes_eq-Decides (known_text a) (known_text b)).1 (ap known_text e))

pub same_known : (a b : KnownName) (r : Bool) → Decides r (a ≡ b) → r ≡ bytes_eq (known_text a) (known_text b)
same_known a b r d = one_answer r (bytes_eq (known_text a) (known_text b)) d (texts_decide a b)

-- another text is none of theirs
pub own_known : (c : List ℕ) (name : KnownName) → known_at c ≡ None → bytes_eq c (known_text name) ≡ false
own_known c name e = by (bytes_eq c (known_text name)) refl
  where
    by : (b : Bool) → bytes_eq c (known_text name) ≡ b → b ≡ false
    by true r = let f : Some name ≡ None = sym (known_again name) ∙ ap known_at (sym ((bytes_eq-Decides c (known_text name)).0 r)) ∙ e in absurd (cc)
    by false r = refl

pub known_own : (name : KnownName) (c : List ℕ) → known_at c ≡ None → bytes_eq (known_text name) c ≡ false
known_own name c e = by (bytes_eq (known_text name) c) refl
  where
    by : (b : Bool) → bytes_eq (known_text name) c ≡ b → b ≡ false
    by true r = let f : Some name ≡ None = sym (known_again name) ∙ ap known_at ((bytes_eq-Decides (known_text name) c).0 r) ∙ e in absurd (cc)
    by false r = refl
