-- Derivations of the rules of quantifiers and of DISJ_CASES, from those of the general theorems.
use Rattle.std.specs.Prelude.{◌≡◌, ◌&&◌, true, false, ℕ, List, [], ◌∷◌, codes, Some, refl}
use Rattle.std.specs.FinSet as set
use Rattle.std.proofs.Common.{ap, sym, ◌∙◌, subst}
use Rattle.hol_types.specs.Tree.{TypeTree}
use Rattle.hol_types.specs.Fun.{fun_type}
use Rattle.hol_terms.specs.Named.{Named, named_type}
use Rattle.hol_terms.specs.Nameless.{Nameless, fixed, app, nameless, nameless_type}
use Rattle.hol_terms.specs.Alpha.{strip}
use Rattle.hol_terms.proofs.Typing.{type_outside}
use Rattle.hol_subst.specs.Closing.{bind}
use Rattle.hol_subst.specs.Substitution.{types_inst}
use Rattle.hol_subst.specs.Variant.{is_free_in}
use Rattle.hol_subst.proofs.Closing.{IsClosed}
use Rattle.hol_formulas.specs.Equation.{bool_type, equation}
use Rattle.hol_formulas.specs.Formula.{quantifier_type, truth, equivalence}
use Rattle.hol_formulas.proofs.EquationTypes.{type_eq_itself}
use Rattle.hol_kernel.specs.Items.{Items}
use Rattle.hol_kernel.specs.Sequent.{Hyps, no_hyps, only_hyp, hyps_image, Sequent, sequent_of}
use Rattle.hol_kernel.specs.Theorem.{theorem_over}
use Rattle.hol_kernel.specs.Typing.{HasType, is_type, is_type_at}
use Rattle.hol_kernel.specs.Derivation.{Derives, by_abs, by_inst, by_inst_type}
use Rattle.hol_kernel.proofs.Sound.{Derived}
use Rattle.hol_kernel.proofs.Variables.{known_typed}
use Rattle.hol_kernel.proofs.WellTyped.{applied_typed, sides_typed, theorem_typed}
use Rattle.hol_equal.specs.Rules.{m_with}
use Rattle.hol_equal.proofs.Beta.{image_derived}
use Rattle.hol_derived.specs.Applied.{constantly_true}
use Rattle.hol_derived.specs.Lemmas.{general, put_predicate, put_at}
use Rattle.hol_derived.specs.Which.{Lemma, Gen, Spec}
use Rattle.hol_derived.proofs.OfConnectives.{gen_lemma, spec_lemma}
use Rattle.hol_derived.proofs.Connected.{typed_whole}
use Rattle.hol_derived.proofs.Derivations.{from_one, from_equivalence, eqt_intro_derived}
use Rattle.hol_derived.proofs.Instances.{generalization_is, specialization_is}
use Rattle.hol_derived.proofs.Typed.{domain_stands}

module _ (items : Items) where
  -- what has a derivation is a formula
  formula : (hs : Hyps) (p : Nameless) → Derives items hs p → HasType items p bool_type
  formula hs p d = (theorem_typed (theorem_over items hs p) d).conclusion

  -- so a term that is it has the type bool
  pub formula_type : (hs : Hyps) (concl : Named) (p : Nameless) → nameless [] concl ≡ p → Derives items hs p → named_type concl ≡ Some bool_type
  formula_type hs concl p is d = sym (type_outside concl) ∙ ap (nameless_type []) is ∙ (known_typed items p bool_type (formula hs p d)).1

  -- ---- GEN

  -- a general theorem has a derivation at each predicate
  pub at_predicate : (a : TypeTree) (f : Nameless) (which : Lemma) → is_type items a ≡ true → HasType items f (fun_type a bool_type) → Derived items (general which) → Derived items (put_predicate a f (general which))
  at_predicate a f which stands typed known =
      let types : List (TypeTree × List ℕ) = (a, codes "A") ∷ [] in
      by_inst (hyps_image (types_inst types) (general which).hyps) (types_inst types (general which).concl) ((f, (codes "P", fun_type a bool_type)) ∷ [])
      ((λ i. is_type_at (typed i) (fun_type a bool_type) && true) ∙ ap (λ k. k && true) (type_eq_itself (fun_type a bool_type)))
      (by_inst_type (general which).hyps (general which).concl types (λ i. stands i && true) known)

  pub gen_derived : (v : List ℕ × TypeTree) (a : Sequent) → is_type items v.1 ≡ true → is_free_in (set.items a.hyps) v ≡ false → Derived items a → Derives items a.hyps (app (fixed (codes "!") (quantifier_type v.1)) (bind v a.concl))
  gen_derived v a stands absent d =
      let p = a.concl in
      let f = bind v p in
      let own : HasType items p bool_type = formula a.hyps p d in
      let proved : Derives items a.hyps (equivalence p truth) = eqt_intro_derived items p p own own a refl d in
      let under : Derives items a.hyps (equation (fun_type v.1 bool_type) f (bind v truth)) = by_abs a.hyps bool_type v p truth stands absent proved in
      let typed : HasType items f (fun_type v.1 bool_type) = (sides_typed items (fun_type v.1 bool_type) bool_type f (bind v truth) (formula a.hyps (equation (fun_type v.1 bool_type) f (bind v truth)) under)).0 in
      let constant = equation (fun_type v.1 bool_type) f (constantly_true v.1) in
      let every = app (fixed (codes "!") (quantifier_type v.1)) f in
      let rule : Derives items no_hyps (equivalence constant every) =
      subst (Derived items) (generalization_is v.1 f (typed_whole items f (fun_type v.1 bool_type) typed)) (at_predicate v.1 f Gen stands typed (gen_lemma items)) in
      from_equivalence items constant every (sequent_of a.hyps (equation (fun_type v.1 bool_type) f (bind v truth))) rule refl under

  -- ---- SPEC, EXISTS

  -- a general theorem has a derivation at each predicate and each member of its type
  pub at_member : (a : TypeTree) (f t : Nameless) (which : Lemma) → is_type items a ≡ true → HasType items f (fun_type a bool_type) → HasType items t a → Derived items (general which) → Derived items (put_at a f t (general which))
  at_member a f t which stands typed member known =
      let types : List (TypeTree × List ℕ) = (a, codes "A") ∷ [] in
      by_inst (hyps_image (types_inst types) (general which).hyps) (types_inst types (general which).concl) ((f, (codes "P", fun_type a bool_type)) ∷ (t, (codes "x", a)) ∷ [])
      ((λ i. is_type_at (typed i) (fun_type a bool_type) && (is_type_at (member i) a && true)) ∙ (λ i. type_eq_itself (fun_type a bool_type) i && (type_eq_itself a i && true)))
      (by_inst_type (general which).hyps (general which).concl types (λ i. stands i && true) known)

  module _ (v : List ℕ × TypeTree) (n t : Nameless) (function : HasType items (bind v n) (fun_type v.1 bool_type)) (member : HasType items t v.1) where
    abbrev at_term : Nameless
    at_term = app (bind v n) t

    closed : IsClosed 0 t
    closed = typed_whole items t v.1 member

    applied : HasType items at_term bool_type
    applied = applied_typed items v.1 bool_type (bind v n) t function member

    pub reduces : Derives items no_hyps (equivalence at_term (m_with t v n))
    reduces = image_derived items v n t bool_type closed applied

    pub stands : is_type items v.1 ≡ true
    stands = domain_stands items v.1 bool_type (bind v n) function

    pub spec_derived : (a : Sequent) → a.concl ≡ app (fixed (codes "!") (quantifier_type v.1)) (bind v n) → Derived items a → Derives items a.hyps (m_with t v n)
    spec_derived a is d =
        let every = app (fixed (codes "!") (quantifier_type v.1)) (bind v n) in
        let rule : Derives items (only_hyp every) at_term = subst (Derived items) (specialization_is v.1 (bind v n) t (typed_whole items (bind v n) (fun_type v.1 bool_type) function) closed) (at_member v.1 (bind v n) t Spec stands function member (spec_lemma items)) in
        from_equivalence items at_term (m_with t v n) (sequent_of a.hyps at_term) reduces refl (from_one items every at_term a rule (ap strip (sym is)) d)
