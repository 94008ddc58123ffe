-- One item more: what makes an interpretation that keeps a model of the items before it a model of them and the item.
use Rattle.std.proofs.Common.{◌≡◌, ℕ, inl, inr, List, refl, ap, sym, ◌∙◌, subst, true, codes}
use Rattle.std.specs.FinSet as set
use Rattle.std.proofs.lemmas.Bool.{or_left}
use Rattle.std.specs.List.{list_any}
use Rattle.hol_types.specs.Tree.{TypeTree}
use Rattle.hol_types.specs.Fun.{fun_type}
use Rattle.hol_terms.specs.Nameless.{Nameless, fixed}
use Rattle.hol_formulas.specs.Equation.{bool_type, equality_type, equation}
use Rattle.hol_formulas.specs.Constants.{var_a, is_instance, is_instance_of, prelude_generic}
use Rattle.hol_formulas.specs.Prelude.{statement_of}
use Rattle.hol_formulas.specs.declared.postulate.Postulate.TheVariants.{InfinityAx}
use Rattle.hol_kernel.specs.Item.{Item, declared_type, declared_constant, defined_constant, defined_type, declared_axiom}
use Rattle.hol_kernel.specs.Items.{Items, in_order, Holds}
use Rattle.hol_kernel.specs.Sequent.{no_hyps}
use Rattle.hol_kernel.specs.Signature.{has_constant, makes_constant, term_tyvars, new_type}
use Rattle.hol_kernel.specs.Typing.{is_type, HasType}
use Rattle.hol_kernel.specs.Bijections.{abs_rep, rep_abs}
use Rattle.hol_kernel.specs.Legal.{IsSound}
use Rattle.hol_kernel.specs.Theorem.{theorem_over}
use Rattle.hol_kernel.specs.Derivation.{Derives, by_postulate, by_axiom, by_definition, by_abs_rep, by_rep_abs}
use Rattle.hol_kernel.proofs.Members.{in_insert_old, in_insert_cases}
use Rattle.hol_kernel.proofs.ItemOrder.{total, only}
use Rattle.hol_kernel.proofs.Stands.{some_is}
use Rattle.hol_kernel.proofs.Variables.{known_typed}
use Rattle.hol_kernel.proofs.Weaken.{is_type_more}
use Rattle.hol_kernel.proofs.WellTyped.{theorem_typed}
use Rattle.hol_model.proofs.Interpretations.{Interpretation, elements}
use Rattle.hol_model.proofs.Types.{AreInhabited}
use Rattle.hol_model.proofs.Models.{HasMeaning, IsFrame, IsTrueIn, Satisfies, IsModel}
use Rattle.hol_model.proofs.Kept.{KeepsMeanings, elements_kept, valid_kept}
use Rattle.hol_model.proofs.Names.{constant_cases}
use Rattle.hol_model.proofs.Universes.{Universe}

module _ (U : Universe) where
  open U use {Value, Set}
  open U.laws use {is_in, same}

  abbrev In : Value → Set → Type 0
  In x xs = is_in x xs ≡ true

  -- a term has one type
  pub typed_once : (items more : Items) (t : Nameless) (a b : TypeTree) → HasType items t a → HasType more t b → a ≡ b
  typed_once items more t a b h g = some_is a b (sym (known_typed items t a h).1 ∙ (known_typed more t b g).1)

  prelude_constant : (items : Items) (c : List ℕ) (s : TypeTree) → is_instance_of (prelude_generic c) s ≡ true → has_constant items c s ≡ true
  prelude_constant items c s h = or_left (is_instance_of (prelude_generic c) s) (list_any (makes_constant c s) (in_order items)) h

  module _ (items : Items) (x : Item) (m n : Interpretation U) (model : IsModel U items m) (keeps : KeepsMeanings U items m n) where
    abbrev More : Items
    More = set.insert items x

    -- ---- the constants

    old_meaning : (c : List ℕ) (s : TypeTree) → has_constant items c s ≡ true → HasMeaning U More n.constructors (n.generics c) (n.constants c) s
    old_meaning c s has =
        let p = model.frame.meanings c s has in
        let same = keeps.generics c s has in
        record {
          instance = ap (λ generic. is_instance generic s) same ∙ p.instance;
          stands = ap (is_type More) same ∙ is_type_more items More (λ y h. in_insert_old total only items x y h) (m.generics c) p.stands;
          fitting =
              λ d full.
              let elements_same : elements U n.constructors d (n.generics c) ≡ elements U m.constructors d (m.generics c) =
              ap (elements U n.constructors d) same ∙ elements_kept U items m n keeps d (m.generics c) p.stands in
              subst (λ (v : Value). In v (elements U n.constructors d (n.generics c))) (sym (keeps.constants c s has d))
              (subst (λ (xs : Set). In (m.constants c d) xs) (sym elements_same) (p.fitting d full));
        }

    abbrev pub OwnMeanings : Type 0
    OwnMeanings = (c : List ℕ) (s : TypeTree) → makes_constant c s x ≡ true → HasMeaning U More n.constructors (n.generics c) (n.constants c) s

    pub extended_frame : AreInhabited U n.constructors → OwnMeanings → IsFrame U More n
    extended_frame full own = record {
      inhabited = full;
      meanings = λ c s h. elim (constant_cases items x c s h) [ inl old ↦ old_meaning c s old | inr makes ↦ own c s makes ];
      equality_generic = keeps.generics (codes "=") (equality_type var_a) (prelude_constant items (codes "=") (equality_type var_a) refl) ∙ model.frame.equality_generic;
      equality = λ d. keeps.constants (codes "=") (equality_type var_a) (prelude_constant items (codes "=") (equality_type var_a) refl) d ∙ model.frame.equality d;
    }

    -- ---- what is said

    derived_kept : (p : Nameless) → Derives items no_hyps p → IsTrueIn U m p → IsTrueIn U n p
    derived_kept p d valid = valid_kept U items m n keeps model.frame.inhabited p (known_typed items p bool_type (theorem_typed (theorem_over items no_hyps p) d).conclusion).0 valid

    satisfied_kept : (y : Item) → Holds items y → IsSound items y → Satisfies U items m y → Satisfies U More n y
    satisfied_kept (declared_type c k) h sound said = tt
    satisfied_kept (declared_constant c a) h sound said = tt
    satisfied_kept (defined_constant c r) h sound said =
        λ a typed.
        subst (λ (b : TypeTree). IsTrueIn U n (equation b (fixed c b) r)) (typed_once items More r sound.0 a sound.1.typed typed)
        (derived_kept (equation sound.0 (fixed c sound.0) r) (by_definition c r sound.0 h sound.1.typed) (said sound.0 sound.1.typed))
    satisfied_kept (defined_type c abs rep p) h sound said =
        λ s typed.
        let old : TypeTree = sound.1.0 in
        let own : HasType items p (fun_type old bool_type) = sound.1.1.typed in
        let same : fun_type old bool_type ≡ fun_type s bool_type = typed_once items More p (fun_type old bool_type) (fun_type s bool_type) own typed in
        let is : old ≡ s = cc in
        let new : TypeTree = new_type c (term_tyvars p) in (
          subst (λ (b : TypeTree). IsTrueIn U n (abs_rep abs rep b new)) is (derived_kept (abs_rep abs rep old new) (by_abs_rep c abs rep p old h own) (said old own).0),
          subst (λ (b : TypeTree). IsTrueIn U n (rep_abs abs rep p b new)) is (derived_kept (rep_abs abs rep p old new) (by_rep_abs c abs rep p old h own) (said old own).1),
        )
    satisfied_kept (declared_axiom k p) h sound said = derived_kept p (by_axiom k p h sound) said

    pub extended_model : ((y : Item) → Holds items y → IsSound items y) → IsFrame U More n → Satisfies U More n x → IsModel U More n
    extended_model sound frame own = record {
      frame = frame;
      falsity = λ d. keeps.constants (codes "F") bool_type (prelude_constant items (codes "F") bool_type refl) d ∙ model.falsity d;
      infinity = λ h. derived_kept (statement_of InfinityAx) (by_postulate InfinityAx) (model.infinity h);
      postulates = λ which e. derived_kept (statement_of which) (by_postulate which) (model.postulates which e);
      satisfied =
          λ y h.
          elim (in_insert_cases total only items x y h) [
            | inl is ↦ subst (λ (z : Item). Satisfies U More n z) (sym is) own
            | inr old ↦ satisfied_kept y old (sound y old) (model.satisfied y old)
          ];
    }
