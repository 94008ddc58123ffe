-- What may define a constant: the test, and what it says.
use Rattle.std.specs.Prelude.{◌≡◌, ℕ, zero, suc, ◌<◌, Bool, true, false, ◌&&◌, ◌||◌, List, [], ◌∷◌, length, Contains, slice_index_or, is_some, bytes_eq, Some, refl}
use Rattle.std.proofs.Common.{ap, sym, ◌∙◌, subst, arith}
use Rattle.std.proofs.lemmas.Bool.{and_parts, or_right}
use mathlib.Core.Bool.{true≢false}
use Rattle.std.specs.FinSet as set
use Rattle.std.proofs.lemmas.Slice.Eq.{bytes_eq-Decides}
use Rattle.hol_types.specs.Tree.{TypeTree}
use Rattle.hol_types.specs.Names.{tyvars, is_among}
use Rattle.hol_terms.specs.Named.{Named, constant, named_type}
use Rattle.hol_terms.specs.Nameless.{Nameless, nameless, free_occurrences}
use Rattle.hol_kernel.specs.Item.{defined_constant}
use Rattle.hol_kernel.specs.Items.{Items, Holds, IsWithin}
use Rattle.hol_kernel.specs.Sequent.{Hyps, no_hyps}
use Rattle.hol_formulas.specs.Equation.{mk_eq}
use Rattle.hol_kernel.specs.Signature.{constant_key, term_tyvars}
use Rattle.hol_kernel.specs.Typing.{is_typed, HasType}
use Rattle.hol_kernel.specs.Legal.{HasNewKeys, IsClosed, IsDefinable}
use Rattle.hol_kernel.specs.Theorem.{Theorem, IsDerived}
use Rattle.hol_kernel.specs.Derivation.{by_definition}
use Rattle.hol_kernel.specs.Extends.{IsDefine}
use Rattle.hol_kernel.specs.Clashing.{is_new}
use Rattle.hol_kernel.specs.Defining.{has_none, is_closed, are_among, is_definable}
use Rattle.hol_kernel.proofs.Members.{in_insert_here, in_insert_old}
use Rattle.hol_kernel.proofs.ItemOrder.{total, only}
use Rattle.hol_kernel.proofs.Weaken.{typed_wider}
use Rattle.hol_kernel.proofs.Held.{named_of_typed}
use Rattle.hol_kernel.proofs.Typed.{typed_type}
use Rattle.hol_formulas.proofs.EquationTypes.{equation_right}
use Rattle.hol_kernel.proofs.Declared.{one_name, name_taken, own_name}
use Rattle.hol_kernel.proofs.TermRules.{along}

abbrev Variables : Type 0
Variables = List (List ℕ × TypeTree)

-- ---- closed terms

none_is : (ws : Variables) → has_none ws ≡ true → ws ≡ []
none_is [] e = refl
none_is (w ∷ ws) e = absurd (true≢false (sym e))

-- what the test says
pub closed_is : (t : Nameless) → is_closed t ≡ true → IsClosed t
closed_is t e = none_is (free_occurrences t) e

pub is_closed_of : (t : Nameless) → IsClosed t → is_closed t ≡ true
is_closed_of t e = ap has_none e

-- ---- names among others

contains_later : (b n : List ℕ) (names : List (List ℕ)) → Contains names n → Contains (b ∷ names) n
contains_later b n names h = (suc h.0, omega (arith, h.1), h.2)

contains_among : (names : List (List ℕ)) (n : List ℕ) → is_among names n ≡ true → Contains names n
contains_among [] n e = absurd (true≢false (sym e))
contains_among (b ∷ names) n e = by (bytes_eq n b) refl e (contains_among names n)
  where
    by : (t : Bool) → bytes_eq n b ≡ t → (t || is_among names n) ≡ true → (is_among names n ≡ true → Contains names n) → Contains (b ∷ names) n
    by true p e more = (0, omega arith, sym ((bytes_eq-Decides n b).0 p))
    by false p e more = contains_later b n names (more e)

among_contains : (names : List (List ℕ)) (n : List ℕ) → Contains names n → is_among names n ≡ true
among_contains [] n h = absurd (omega (arith, h.1))
among_contains (b ∷ names) n h = at h.0 h.1 h.2 (among_contains names n)
  where
    at : (k : ℕ) → k < length (b ∷ names) → slice_index_or (b ∷ names) k n ≡ n → (Contains names n → is_among names n ≡ true) → is_among (b ∷ names) n ≡ true
    at zero below is more = ap (λ t. t || is_among names n) ((bytes_eq-Decides n b).1 (sym is))
    at (suc k) below is more = ap (λ t. bytes_eq n b || t) (more (k, omega (arith, below), is)) ∙ or_right (bytes_eq n b) true refl

all_contained : (own names : List (List ℕ)) → are_among own names ≡ true → (n : List ℕ) → is_among names n ≡ true → is_among own n ≡ true
all_contained own [] e n h = absurd (true≢false (sym h))
all_contained own (b ∷ names) e n h =
    let parts = and_parts (is_among own b) (are_among own names) e in by (bytes_eq n b) refl h parts.0 (all_contained own names parts.1 n)
  where
    by : (t : Bool) → bytes_eq n b ≡ t → (t || is_among names n) ≡ true → is_among own b ≡ true → (is_among names n ≡ true → is_among own n ≡ true) → is_among own n ≡ true
    by true p h here more = ap (is_among own) ((bytes_eq-Decides n b).0 p) ∙ here
    by false p h here more = more h

contained_all : (own names : List (List ℕ)) → ((n : List ℕ) → is_among names n ≡ true → is_among own n ≡ true) → are_among own names ≡ true
contained_all own [] f = refl
contained_all own (b ∷ names) f =
    let here : is_among own b ≡ true = f b (ap (λ t. t || is_among names b) ((bytes_eq-Decides b b).1 refl)) in
    let rest : are_among own names ≡ true = contained_all own names (λ n h. f n (ap (λ t. bytes_eq n b || t) h ∙ or_right (bytes_eq n b) true refl)) in
    λ i. here i && rest i

-- ---- the test

module _ (items : Items) (r : Named) (a : TypeTree) (has : named_type r ≡ Some a) where
  pub definable_of : is_definable items (nameless [] r) a ≡ true → IsDefinable items (nameless [] r) a
  definable_of e =
      let p = and_parts (is_typed items (nameless [] r)) (is_closed (nameless [] r) && are_among (tyvars a) (term_tyvars (nameless [] r))) e in
      let q = and_parts (is_closed (nameless [] r)) (are_among (tyvars a) (term_tyvars (nameless [] r))) p.1 in
      record {
        typed = typed_type items r a has p.0;
        closed = closed_is (nameless [] r) q.0;
        reflected = λ n h. contains_among (tyvars a) n (all_contained (tyvars a) (term_tyvars (nameless [] r)) q.1 n (among_contains (term_tyvars (nameless [] r)) n h));
      }

  definable_here : IsDefinable items (nameless [] r) a → is_definable items (nameless [] r) a ≡ true
  definable_here d =
      let known : is_typed items (nameless [] r) ≡ true = ap is_some d.typed in
      let closed : is_closed (nameless [] r) ≡ true = is_closed_of (nameless [] r) d.closed in
      let reflected : are_among (tyvars a) (term_tyvars (nameless [] r)) ≡ true =
      contained_all (tyvars a) (term_tyvars (nameless [] r)) (λ n h. among_contains (tyvars a) n (d.reflected n (contains_among (term_tyvars (nameless [] r)) n h))) in
      λ i. known i && (closed i && reflected i)

  definable_test : (b : TypeTree) → IsDefinable items (nameless [] r) b → is_definable items (nameless [] r) a ≡ true
  definable_test b d =
      let one : Some b ≡ Some a = sym (named_of_typed items r b d.typed) ∙ has in
      let is : b ≡ a = cc in
      definable_here (subst (λ (s : TypeTree). IsDefinable items (nameless [] r) s) is d)

  pub not_definable : (c : List ℕ) (more : Items) (th : Theorem) → is_definable items (nameless [] r) a ≡ false → IsDefine items c (nameless [] r) more th → ⊥
  not_definable c more th e d = true≢false (sym (definable_test d.of_type d.definable) ∙ e)

pub definition_new : (items : Items) (c : List ℕ) (r : Nameless) → is_new items (constant_key c) ≡ true → HasNewKeys items (defined_constant c r)
definition_new items c r e = one_name items (defined_constant c r) (constant_key c) (λ l. refl) e

pub definition_taken : (items : Items) (c : List ℕ) (r : Nameless) (more : Items) (th : Theorem) → is_new items (constant_key c) ≡ false → IsDefine items c r more th → ⊥
definition_taken items c r more th e d = name_taken items (defined_constant c r) (constant_key c) (own_name (constant_key c)) e d.new

-- ---- the larger basis

module _ (items more : Items) (c : List ℕ) (r : Nameless) (is : more ≡ set.insert items (defined_constant c r)) where
  pub definition_held : Holds more (defined_constant c r)
  definition_held = subst (λ (s : Items). Holds s (defined_constant c r)) (sym is) (in_insert_here total only items (defined_constant c r))

  pub definition_typed : (a : TypeTree) → HasType items r a → HasType more r a
  definition_typed a h =
      let larger : Items = set.insert items (defined_constant c r) in
      let within : IsWithin items larger = λ z i. in_insert_old total only items (defined_constant c r) z i in
      subst (λ (s : Items). HasType s r a) (sym is) (typed_wider items larger within r a h)

-- ---- the theorem

pub definition_derived : (basis : Items) (c : List ℕ) (r : Named) (a : TypeTree) → Holds basis (defined_constant c (nameless [] r)) → HasType basis (nameless [] r) a → named_type r ≡ Some a → (own : Items) (hyps : Hyps) (concl : Named) → own ≡ basis → hyps ≡ no_hyps → concl ≡ mk_eq a (constant c a) r → IsDerived own hyps concl
definition_derived basis c r a h known has own hyps concl p q s =
    along basis own no_hyps hyps (mk_eq a (constant c a) r) concl p q s (by_definition c (nameless [] r) a h known) (equation_right a (constant c a) r refl has)
