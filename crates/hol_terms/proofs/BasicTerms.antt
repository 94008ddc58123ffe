-- What the tests of basic constants come to.
use Rattle.std.specs.Prelude.{◌≡◌, ℕ, Bool, true, false, cond, List, [], ◌∷◌, bytes_eq, refl}
use Rattle.std.proofs.lemmas.Slice.Eq.{bytes_eq-Decides}
use Rattle.hol_types.specs.Tree.{TypeTree}
use Rattle.hol_terms.specs.Basic.{has_form}

-- none of the constants has the name
abbrev pub HasNone : List (List ℕ × (TypeTree → Bool)) → List ℕ → Type 0
HasNone [] c = Unit {0}
HasNone (p ∷ more) c = (c ≡ p.0 → ⊥) × HasNone more c

pub no_form : (forms : List (List ℕ × (TypeTree → Bool))) (c : List ℕ) (s : TypeTree) → HasNone forms c → false ≡ has_form forms c s
no_form [] c s h = refl
no_form (p ∷ more) c s h = by (bytes_eq c p.0) refl (no_form more c s h.1)
  where
    by : (b : Bool) → bytes_eq c p.0 ≡ b → false ≡ has_form more c s → false ≡ cond b (p.1 s) (has_form more c s)
    by true r e = absurd (h.0 ((bytes_eq-Decides c p.0).0 r))
    by false r e = e
