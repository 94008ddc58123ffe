-- The derivation of CHOOSE.
use Rattle.std.specs.Prelude.{◌≡◌, ◌&&◌, true, false, cond, ℕ, List, [], ◌∷◌, codes, Some, unwrap_or, refl}
use Rattle.std.specs.FinSet as set
use Rattle.std.proofs.Common.{ap, sym, ◌∙◌, subst}
use Rattle.hol_types.specs.Tree.{TypeTree}
use Rattle.hol_types.specs.Fun.{fun_type}
use Rattle.hol_terms.specs.Nameless.{Nameless, free, fixed, app, free_occurrences}
use Rattle.hol_terms.specs.Alpha.{strip}
use Rattle.hol_terms.specs.Scoped.{binds}
use Rattle.hol_subst.specs.Closing.{bind}
use Rattle.hol_subst.specs.Shift.{shift}
use Rattle.hol_subst.specs.Substitution.{term_lookup, term_subst, types_inst}
use Rattle.hol_subst.specs.Variant.{is_free_in}
use Rattle.hol_subst.proofs.Closing.{IsClosed, shift_whole, eq_same}
use Rattle.hol_formulas.specs.Equation.{bool_type}
use Rattle.hol_formulas.specs.Formula.{connective_type, quantifier_type, implication, equivalence, universal}
use Rattle.hol_formulas.specs.Constants.{var_a}
use Rattle.hol_formulas.specs.Prelude.{boolean}
use Rattle.hol_formulas.proofs.EquationTypes.{type_eq_itself}
use Rattle.hol_kernel.specs.Items.{Items}
use Rattle.hol_kernel.specs.Sequent.{Hyps, no_hyps, only_hyp, hyps_image, Sequent, sequent_of}
use Rattle.hol_kernel.specs.Rules.{sequent_image}
use Rattle.hol_kernel.specs.Typing.{HasType, is_type, is_type_at}
use Rattle.hol_kernel.specs.Derivation.{Derives, by_inst, by_inst_type}
use Rattle.hol_kernel.proofs.Sound.{Derived}
use Rattle.hol_kernel.proofs.Variables.{variable_typed}
use Rattle.hol_equal.specs.Rules.{m_with}
use Rattle.hol_equal.proofs.Beta.{image_derived}
use Rattle.hol_equal.proofs.Typings.{applied_typed}
use Rattle.hol_derived.specs.Unfolded.{letter, predicate, exists_in, all_imply, implied_by_all}
use Rattle.hol_derived.proofs.Calculus.{formula, right_typed, turned, under, at, by_equal}
use Rattle.hol_derived.proofs.Connected.{operands_typed, typed_whole}
use Rattle.hol_derived.proofs.Derivations.{from_one, disch_derived, mp_derived}
use Rattle.hol_derived.proofs.Instances.{image_one}
use Rattle.hol_derived.proofs.OfQuantifiers.{choose_lemma}
use Rattle.hol_derived.proofs.QuantifierDerivations.{gen_derived, spec_derived}
use Rattle.hol_derived.proofs.Typed.{predicate_typed, domain_stands}
use Rattle.hol_derived.proofs.Witnesses.{each_closed}

abbrev q : Nameless
q = letter (codes "q")

-- ---- f for P, and t for q

module _ (a : TypeTree) (f t : Nameless) (c : IsClosed 0 f) (d : IsClosed 0 t) where
  abbrev pairs : List (Nameless × (List ℕ × TypeTree))
  pairs = (f, (codes "P", fun_type a bool_type)) ∷ (t, boolean (codes "q")) ∷ []

  abbrev at_type : Nameless
  at_type = free (codes "P", fun_type a bool_type)

  property_found : (k : ℕ) → term_subst pairs k at_type ≡ f
  property_found k =
      ap (λ b. shift k 0 (unwrap_or (cond b (Some f) (term_lookup ((t, boolean (codes "q")) ∷ []) (codes "P", fun_type a bool_type))) at_type)) (eq_same (codes "P", fun_type a bool_type))
      ∙ shift_whole k 0 f c

  formula_found : (k : ℕ) → term_subst pairs k q ≡ t
  formula_found k = shift_whole k 0 t d

  choice_is :
      sequent_image (term_subst pairs 0) (sequent_image (types_inst ((a, codes "A") ∷ [])) (sequent_of (only_hyp (exists_in var_a predicate)) (implication (all_imply var_a predicate q) q)))
      ≡ sequent_of (only_hyp (exists_in a f)) (implication (all_imply a f t) t)
  choice_is =
      (λ i. sequent_of (hyps_image (term_subst pairs 0) (image_one (types_inst ((a, codes "A") ∷ [])) (exists_in var_a predicate) i)) (implication (all_imply a (property_found 1 i) (formula_found 1 i)) (formula_found 0 i)))
      ∙ (λ i. sequent_of (image_one (term_subst pairs 0) (exists_in a at_type) i) (implication (all_imply a f t) t))
      ∙ (λ i. sequent_of (only_hyp (exists_in a (property_found 0 i))) (implication (all_imply a f t) t))

module _ (items : Items) where
  -- {(?) P} |- (!x:A. P x ==> q) ==> q
  eliminated : Derives items (only_hyp (exists_in var_a predicate)) (implication (all_imply var_a predicate q) q)
  eliminated =
      spec_derived items (boolean (codes "q")) (implication (all_imply var_a predicate q) q) q refl refl
      (sequent_of (only_hyp (exists_in var_a predicate)) (universal (implied_by_all var_a predicate))) refl (choose_lemma items)

  -- {(?) f} |- (!x. f x ==> t) ==> t
  eliminated_at : (a : TypeTree) (f t : Nameless) → is_type items a ≡ true → HasType items f (fun_type a bool_type) → HasType items t bool_type → Derives items (only_hyp (exists_in a f)) (implication (all_imply a f t) t)
  eliminated_at a f t stands function typed =
      let types : List (TypeTree × List ℕ) = (a, codes "A") ∷ [] in
      let general = sequent_of (only_hyp (exists_in var_a predicate)) (implication (all_imply var_a predicate q) q) in
      subst (Derived items) (choice_is a f t (typed_whole items f (fun_type a bool_type) function) (typed_whole items t bool_type typed))
      (by_inst (hyps_image (types_inst types) general.hyps) (types_inst types general.concl) ((f, (codes "P", fun_type a bool_type)) ∷ (t, boolean (codes "q")) ∷ [])
      ((λ i. is_type_at (function i) (fun_type a bool_type) && (is_type_at (typed i) bool_type && true)) ∙ (λ i. type_eq_itself (fun_type a bool_type) i && true))
      (by_inst_type general.hyps general.concl types (λ i. stands i && true) eliminated))

  -- from A |- ?x. n and B |- t, A u (B - n with v for x) |- t
  module _ (v : List ℕ × TypeTree) (name : List ℕ) (n t : Nameless) where
    pub choose_derived :
        (a : Sequent) (bs : Hyps) → a.concl ≡ exists_in v.1 (bind (name, v.1) n) → binds (free_occurrences (bind (name, v.1) n)) v ≡ false → binds (free_occurrences t) v ≡ false →
        is_free_in (set.items (set.remove bs (strip (m_with (free v) (name, v.1) n)))) v ≡ false → Derived items a → Derives items bs t →
        Derives items (set.union a.hyps (set.remove bs (strip (m_with (free v) (name, v.1) n)))) t
    choose_derived a bs is apart_own apart_t absent d e =
        let own = bind (name, v.1) n in
        let holds = app own (free v) in
        let witness = m_with (free v) (name, v.1) n in
        let rest : Hyps = set.remove bs (strip witness) in
        let function : HasType items own (fun_type v.1 bool_type) = predicate_typed items (codes "?") v.1 bool_type own (subst (λ (u : Nameless). HasType items u bool_type) is (formula items d)) in
        let stands : is_type items v.1 ≡ true = domain_stands items v.1 bool_type own function in
        let member : HasType items (free v) v.1 = variable_typed items v stands in
        let third : HasType items t bool_type = formula items e in
        let equal : Derives items no_hyps (equivalence holds witness) =
        image_derived items (name, v.1) n (free v) bool_type (typed_whole items (free v) v.1 member) (applied_typed items v.1 bool_type own (free v) function member) in
        let implies : Derives items rest (implication witness t) = disch_derived items witness t (right_typed items equal) third bs e in
        let same : Derives items no_hyps (equivalence (implication holds t) (implication witness t)) = at items t (under items (fixed (codes "==>") connective_type) equal refl) third in
        let every : Derives items rest (app (fixed (codes "!") (quantifier_type v.1)) (bind v (implication holds t))) =
        gen_derived items v (sequent_of rest (implication holds t)) stands absent (by_equal items (turned items same) implies) in
        let rule : Derives items a.hyps (implication (all_imply v.1 own t) t) =
        from_one items (exists_in v.1 own) (implication (all_imply v.1 own t) t) a (eliminated_at v.1 own t stands function third) (ap strip (sym is)) d in
        let types = operands_typed items (codes "==>") (all_imply v.1 own t) t bool_type (formula items rule) in
        mp_derived items (all_imply v.1 own t) t types.0 third (sequent_of a.hyps (implication (all_imply v.1 own t) t)) (sequent_of rest (app (fixed (codes "!") (quantifier_type v.1)) (bind v (implication holds t)))) refl
        (each_closed v.1 own t (typed_whole items own (fun_type v.1 bool_type) function) (typed_whole items t bool_type third) v apart_own apart_t) rule every
