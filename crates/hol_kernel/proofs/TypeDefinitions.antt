-- What may define a type: the tests, and what they say.
use Rattle.std.specs.Prelude.{◌≡◌, ◌≢◌, ℕ, Bool, true, false, not, ◌&&◌, ◌||◌, ◌==◌, List, [], ◌∷◌, length, bytes_eq, Some, refl}
use Rattle.std.proofs.Common.{ap, sym, ◌∙◌, subst}
use mathlib.Core.Bool.{true≢false}
use Rattle.std.specs.FinSet as set
use Rattle.std.proofs.lemmas.Slice.Eq.{bytes_eq-Decides}
use Rattle.hol_types.specs.Tree.{TypeTree}
use Rattle.hol_types.specs.Fun.{fun_type}
use Rattle.hol_terms.specs.Named.{Named, named_type}
use Rattle.hol_terms.specs.Nameless.{Nameless, app, nameless}
use Rattle.hol_terms.proofs.Typing.{type_outside}
use Rattle.hol_kernel.specs.Item.{defined_type}
use Rattle.hol_kernel.specs.Items.{Items, Holds, IsSubset, IsWithin}
use Rattle.hol_kernel.specs.Sequent.{Hyps, no_hyps, hyp_of, hyps_of}
use Rattle.hol_formulas.specs.Equation.{bool_type}
use Rattle.hol_kernel.specs.Signature.{ItemKey, type_key, constant_key, key_eq, has_key, term_tyvars, new_type}
use Rattle.hol_kernel.specs.Typing.{is_known, HasType}
use Rattle.hol_kernel.specs.Bijections.{abs_rep, rep_abs}
use Rattle.hol_kernel.specs.Derivation.{Derives, by_abs_rep, by_rep_abs}
use Rattle.hol_kernel.specs.Legal.{IsNew, HasNewKeys, IsSound}
use Rattle.hol_kernel.specs.Theorem.{Theorem, theorem_over, IsDerived}
use Rattle.hol_kernel.specs.Extends.{IsTypeDefine}
use Rattle.hol_kernel.specs.Clashing.{is_new}
use Rattle.hol_kernel.specs.Defining.{is_closed, are_new_names, IsMembership}
use Rattle.hol_kernel.proofs.Clashes.{key_is, key_itself}
use Rattle.hol_kernel.proofs.Declared.{new_is, is_new_of}
use Rattle.hol_kernel.proofs.Definable.{closed_is, is_closed_of}
use Rattle.hol_kernel.proofs.HypothesisLists.{hyps_total, hyps_same}
use Rattle.hol_kernel.proofs.InstRules.{along_nameless}
use Rattle.hol_kernel.proofs.ItemOrder.{total, only}
use Rattle.hol_kernel.proofs.Members.{or_right, in_insert_here, in_insert_old, not_in_empty}
use Rattle.hol_kernel.proofs.Stands.{both}
use Rattle.hol_kernel.proofs.Variables.{typed_known, known_typed}
use Rattle.hol_kernel.proofs.Weaken.{typed_wider, derives_more}
use Rattle.hol_kernel.proofs.WellTyped.{theorem_typed}

-- ---- names

three : {P : Type 0} (a b c : Bool) → (a ≡ true → P) → (b ≡ true → P) → (c ≡ true → P) → (a || (b || (c || false))) ≡ true → P
three true b c f g h e = f refl
three false true c f g h e = g refl
three false false true f g h e = h refl
three false false false f g h e = absurd (true≢false (sym e))

module _ (items : Items) (c abs rep : List ℕ) (p : Nameless) where
  new_at : (l k : ItemKey) → is_new items l ≡ true → key_eq k l ≡ true → IsNew items k
  new_at l k e is = subst (λ (m : ItemKey). IsNew items m) (sym (key_is k l is)) (new_is items l e)

  pub names_new : are_new_names items c abs rep ≡ true → HasNewKeys items (defined_type c abs rep p)
  names_new e k h =
      let first = both (is_new items (type_key c)) (is_new items (constant_key abs) && (is_new items (constant_key rep) && not (bytes_eq abs rep))) e in
      let second = both (is_new items (constant_key abs)) (is_new items (constant_key rep) && not (bytes_eq abs rep)) first.1 in
      let third = both (is_new items (constant_key rep)) (not (bytes_eq abs rep)) second.1 in
      three (key_eq k (type_key c)) (key_eq k (constant_key abs)) (key_eq k (constant_key rep)) (new_at (type_key c) k first.0) (new_at (constant_key abs) k second.0) (new_at (constant_key rep) k third.0) h

  pub names_apart : are_new_names items c abs rep ≡ true → abs ≢ rep
  names_apart e same =
      let first = both (is_new items (type_key c)) (is_new items (constant_key abs) && (is_new items (constant_key rep) && not (bytes_eq abs rep))) e in
      let second = both (is_new items (constant_key abs)) (is_new items (constant_key rep) && not (bytes_eq abs rep)) first.1 in
      let third = both (is_new items (constant_key rep)) (not (bytes_eq abs rep)) second.1 in
      true≢false (sym third.1 ∙ ap not ((bytes_eq-Decides abs rep).1 same))

  differ : abs ≢ rep → bytes_eq abs rep ≡ false
  differ other = by (bytes_eq abs rep) refl
    where
      by : (b : Bool) → bytes_eq abs rep ≡ b → b ≡ false
      by true e = absurd (other ((bytes_eq-Decides abs rep).0 e))
      by false e = refl

  own_key : (k : ItemKey) → has_key (defined_type c abs rep p) k ≡ true → HasNewKeys items (defined_type c abs rep p) → is_new items k ≡ true
  own_key k own new = is_new_of items k (new k own)

  -- names that a definition has are new
  pub new_names : HasNewKeys items (defined_type c abs rep p) → abs ≢ rep → are_new_names items c abs rep ≡ true
  new_names new other =
      let ks : (k : ItemKey) → key_eq k k ≡ true = key_itself in
      let first : is_new items (type_key c) ≡ true = own_key (type_key c) (ap (λ b. b || false) (ks (type_key c))) new in
      let second : is_new items (constant_key abs) ≡ true =
      own_key (constant_key abs) (ap (λ b. b || (key_eq (constant_key abs) (constant_key rep) || false)) (ks (constant_key abs))) new in
      let third : is_new items (constant_key rep) ≡ true =
      own_key (constant_key rep) (or_right (key_eq (constant_key rep) (constant_key abs)) (key_eq (constant_key rep) (constant_key rep) || false) (ap (λ b. b || false) (ks (constant_key rep)))) new in
      λ i. first i && (second i && (third i && not (differ other i)))

-- ---- the theorem

some_hyps : (p : Named) (ps : List Named) → hyps_of (p ∷ ps) ≡ no_hyps → ⊥
some_hyps p ps e =
    not_in_empty hyps_total hyps_same (hyp_of p) (ap (λ (s : Hyps). set.contains s (hyp_of p)) (sym e) ∙ in_insert_here hyps_total hyps_same (hyps_of ps) (hyp_of p))

-- a list of hypotheses that is not empty does not stand for none
pub listed_hyps : (ps : List Named) (hs : Hyps) (b : Bool) → hyps_of ps ≡ hs → b ≡ (length ps == 0) → b ≡ false → hs ≡ no_hyps → ⊥
listed_hyps [] hs b is e f none = true≢false (sym e ∙ f)
listed_hyps (p ∷ ps) hs b is e f none = some_hyps p ps (is ∙ none)

module _ (items : Items) (c abs rep : List ℕ) (th : Theorem) where
  abbrev Defines : Items → Theorem → Theorem → Type 0
  Defines more first second = IsTypeDefine items c abs rep th more first second

  module _ (more : Items) (first second : Theorem) (d : Defines more first second) where
    pub names_taken : are_new_names items c abs rep ≡ false → ⊥
    names_taken e = true≢false (sym (new_names items c abs rep d.predicate d.new d.apart) ∙ e)

    pub not_closed : (p x : Nameless) → IsMembership th p x → is_closed p ≡ false → ⊥
    not_closed p x m e =
        let whole : app d.predicate d.element ≡ app p x = sym d.is_member ∙ m.1 in
        let is : d.predicate ≡ p = cc in
        true≢false (sym (is_closed_of d.predicate d.closed) ∙ ap is_closed is ∙ e)

  module _ (within : IsSubset th.basis items) (derives : Derives th.basis th.sequent.hyps th.sequent.concl) (p : Named) (x : Nameless) (s : TypeTree) (m : IsMembership th (nameless [] p) x) (has : named_type p ≡ Some (fun_type s bool_type)) where
    wider : IsWithin th.basis items
    wider = set.is_subset-contains total th.basis items within

    pub predicate_typed : HasType items (nameless [] p) (fun_type s bool_type)
    predicate_typed =
        let whole : HasType th.basis (app (nameless [] p) x) bool_type = subst (λ (n : Nameless). HasType th.basis n bool_type) m.1 (theorem_typed th derives).conclusion in
        let known = both (is_known th.basis (nameless [] p)) (is_known th.basis x) (known_typed th.basis (app (nameless [] p) x) bool_type whole).0 in
        typed_wider th.basis items wider (nameless [] p) (fun_type s bool_type)
        (typed_known th.basis (nameless [] p) (fun_type s bool_type) known.0 (type_outside p ∙ has))

    inhabited : Derives items no_hyps (app (nameless [] p) x)
    inhabited =
        derives_more th.basis items wider no_hyps (app (nameless [] p) x)
        (subst (λ (hs : Hyps). Derives th.basis hs (app (nameless [] p) x)) m.0 (subst (λ (n : Nameless). Derives th.basis th.sequent.hyps n) m.1 derives))

    pub type_sound : are_new_names items c abs rep ≡ true → is_closed (nameless [] p) ≡ true → IsSound items (defined_type c abs rep (nameless [] p))
    type_sound new closed = (
      x,
      (
        s,
        record {
          apart = names_apart items c abs rep (nameless [] p) new;
          typed = predicate_typed;
          closed = closed_is (nameless [] p) closed;
          inhabited = inhabited;
        },
      ),
    )

    abbrev made : TypeTree
    made = new_type c (term_tyvars (nameless [] p))

    pub type_defined : (more : Items) (first second : Theorem) → are_new_names items c abs rep ≡ true → is_closed (nameless [] p) ≡ true → more ≡ set.insert items (defined_type c abs rep (nameless [] p)) → first ≡ theorem_over more no_hyps (abs_rep abs rep s made) → second ≡ theorem_over more no_hyps (rep_abs abs rep (nameless [] p) s made) → Defines more first second
    type_defined more first second new closed larger one two = record {
      predicate = nameless [] p;
      element = x;
      old = s;
      unconditional = m.0;
      is_member = m.1;
      new = names_new items c abs rep (nameless [] p) new;
      apart = names_apart items c abs rep (nameless [] p) new;
      typed = predicate_typed;
      closed = closed_is (nameless [] p) closed;
      larger = larger;
      gives_first = one;
      gives_second = two;
    }

-- ---- the larger basis

module _ (items more : Items) (c abs rep : List ℕ) (p : Nameless) (is : more ≡ set.insert items (defined_type c abs rep p)) where
  pub type_held : Holds more (defined_type c abs rep p)
  type_held = subst (λ (s : Items). Holds s (defined_type c abs rep p)) (sym is) (in_insert_here total only items (defined_type c abs rep p))

  pub typed_in_more : (a : TypeTree) → HasType items p a → HasType more p a
  typed_in_more a h =
      let larger : Items = set.insert items (defined_type c abs rep p) in
      let within : IsWithin items larger = λ z i. in_insert_old total only items (defined_type c abs rep p) z i in
      subst (λ (s : Items). HasType s p a) (sym is) (typed_wider items larger within p a h)

-- ---- the theorems

module _ (basis : Items) (c abs rep : List ℕ) (p : Nameless) (s new : TypeTree) (there : Holds basis (defined_type c abs rep p)) (typed : HasType basis p (fun_type s bool_type)) (is : new ≡ new_type c (term_tyvars p)) (own : Items) (hyps : Hyps) (concl : Named) (same : own ≡ basis) (none : hyps ≡ no_hyps) (formula : named_type concl ≡ Some bool_type) where
  pub abs_rep_derived : nameless [] concl ≡ abs_rep abs rep s new → IsDerived own hyps concl
  abs_rep_derived e =
      along_nameless basis own no_hyps hyps (abs_rep abs rep s new) concl same none e
      (subst (λ (t : TypeTree). Derives basis no_hyps (abs_rep abs rep s t)) (sym is) (by_abs_rep c abs rep p s there typed)) formula

  pub rep_abs_derived : nameless [] concl ≡ rep_abs abs rep p s new → IsDerived own hyps concl
  rep_abs_derived e =
      along_nameless basis own no_hyps hyps (rep_abs abs rep p s new) concl same none e
      (subst (λ (t : TypeTree). Derives basis no_hyps (rep_abs abs rep p s t)) (sym is) (by_rep_abs c abs rep p s there typed)) formula
