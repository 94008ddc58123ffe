-- Well typed terms, and the named terms that they come from.
use Rattle.std.specs.Prelude.{◌≡◌, ℕ, ◌+◌, Bool, true, false, cond, ◌&&◌, List, [], ◌∷◌, Some, None, is_some, refl}
use Rattle.std.proofs.Common.{ap, sym, ◌∙◌}
use Rattle.std.proofs.lemmas.Slice.Eq.{bytes_eq-Decides}
use Rattle.hol_types.specs.Tree.{TypeTree}
use Rattle.hol_types.specs.Equal.{variable_eq}
use Rattle.hol_terms.specs.Named.{Named, var, constant, comb, abs, named_type}
use Rattle.hol_terms.specs.Nameless.{base_of, place, nameless}
use Rattle.hol_terms.proofs.Primes.{base_again}
use Rattle.hol_terms.proofs.Same.{variable_eq_decides}
use Rattle.hol_terms.proofs.Typing.{type_outside}
use Rattle.hol_kernel.specs.Items.{Items}
use Rattle.hol_kernel.specs.Typing.{is_type, is_base, is_known, type_over, is_typed, HasType}
use Rattle.hol_kernel.specs.NamedTyping.{is_known_named}

abbrev Variables : Type 0
Variables = List (List ℕ × TypeTree)

pub base_is_base : (a : List ℕ) → is_base (base_of a) ≡ true
base_is_base a = (bytes_eq-Decides (base_of (base_of a)) (base_of a)).1 (base_again a)

module _ (items : Items) where
  -- the types of the binders stand
  abbrev AreKnown : Variables → Type 0
  AreKnown [] = Unit {0}
  AreKnown (u ∷ env) = (is_type items u.1 ≡ true) × AreKnown env

  known_place : (env : Variables) (i : ℕ) (v : List ℕ × TypeTree) → AreKnown env → is_known items (place env i v) ≡ is_type items v.1
  known_place [] i v h = refl
  known_place (u ∷ env) i v h = by (variable_eq u v) refl (known_place env (i + 1) v h.1)
    where
      by : (b : Bool) → variable_eq u v ≡ b → is_known items (place env (i + 1) v) ≡ is_type items v.1 → is_known items (place (u ∷ env) i v) ≡ is_type items v.1
      by true e r = rw e (sym h.0 ∙ ap (λ w. is_type items w.1) ((variable_eq_decides u v).0 e))
      by false e r = rw e r

  known_under : (env : Variables) (t : Named) → AreKnown env → is_known items (nameless env t) ≡ is_known_named items t
  known_under env (var v) h = known_place env 0 v h
  known_under env (constant c s) h = refl
  known_under env (comb f x) h = λ i. known_under env f h i && known_under env x h i
  known_under env (abs v b) h =
      ap (λ is. is && (is_type items v.1 && is_known items (nameless (v ∷ env) b))) (base_is_base v.0)
      ∙ by (is_type items v.1) refl (λ e. known_under (v ∷ env) b (e, h))
    where
      by : (k : Bool) → is_type items v.1 ≡ k → (is_type items v.1 ≡ true → is_known items (nameless (v ∷ env) b) ≡ is_known_named items b) → (is_type items v.1 && is_known items (nameless (v ∷ env) b)) ≡ (is_type items v.1 && is_known_named items b)
      by true e r = ap (λ k. is_type items v.1 && k) (r e)
      by false e r = rw e refl

  -- the test on the named term is the one on its nameless term
  pub known_outside : (t : Named) → is_known items (nameless [] t) ≡ is_known_named items t
  known_outside t = known_under [] t tt

  pub type_over_named : (t : Named) (a : TypeTree) → named_type t ≡ Some a → type_over items (nameless [] t) ≡ cond (is_known_named items t) (Some a) None
  type_over_named t a e = λ i. cond (known_outside t i) ((type_outside t ∙ e) i) None

  -- a named term whose types and constants stand is well typed
  pub typed_named : (t : Named) (a : TypeTree) → named_type t ≡ Some a → is_typed items (nameless [] t) ≡ is_known_named items t
  typed_named t a e = ap is_some (type_over_named t a e) ∙ by (is_known_named items t)
    where
      by : (b : Bool) → is_some (cond b (Some a) None) ≡ b
      by true = refl
      by false = refl

  -- the type of a well typed term is that of the named term
  pub typed_type : (t : Named) (a : TypeTree) → named_type t ≡ Some a → is_typed items (nameless [] t) ≡ true → HasType items (nameless [] t) a
  typed_type t a e typed = type_over_named t a e ∙ ap (λ b. cond b (Some a) None) (sym (typed_named t a e) ∙ typed)
