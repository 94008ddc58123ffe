-- Derivations of the rules of falsity, disjunction and existence.
use Rattle.std.specs.Prelude.{◌≡◌, ◌&&◌, true, ℕ, List, [], ◌∷◌, codes, refl}
use Rattle.std.specs.FinSet as set
use Rattle.std.proofs.Common.{ap, sym, subst}
use Rattle.hol_types.specs.Tree.{TypeTree}
use Rattle.hol_types.specs.Fun.{fun_type}
use Rattle.hol_terms.specs.Nameless.{Nameless, app}
use Rattle.hol_terms.specs.Alpha.{strip}
use Rattle.hol_subst.specs.Closing.{bind}
use Rattle.hol_formulas.specs.Equation.{bool_type}
use Rattle.hol_formulas.specs.Formula.{falsity, negation, disjunction, implication, equivalence}
use Rattle.hol_formulas.specs.Prelude.{boolean}
use Rattle.hol_kernel.specs.Items.{Items}
use Rattle.hol_kernel.specs.Sequent.{Hyps, no_hyps, only_hyp, Sequent, sequent_of}
use Rattle.hol_kernel.specs.Typing.{HasType, is_type_at}
use Rattle.hol_kernel.specs.Derivation.{Derives, by_inst}
use Rattle.hol_kernel.proofs.Sound.{Derived}
use Rattle.hol_equal.specs.Rules.{m_with}
use Rattle.hol_derived.specs.Lemmas.{general}
use Rattle.hol_derived.specs.Unfolded.{either, exists_in}
use Rattle.hol_derived.specs.Which.{EqfIntro, Disj1, Disj2, Contr, DisjCases, Exists}
use Rattle.hol_derived.proofs.Calculus.{formula, turned}
use Rattle.hol_derived.proofs.Connected.{operands_typed, typed_whole}
use Rattle.hol_derived.proofs.Derivations.{from_one, from_equivalence, at_formulas, disch_derived, mp_derived}
use Rattle.hol_derived.proofs.Instances.{cases_are, existence_is}
use Rattle.hol_derived.proofs.OfQuantifiers.{contr_lemma, eqf_intro_lemma, disj1_lemma, disj2_lemma, disj_cases_lemma, exists_lemma}
use Rattle.hol_derived.proofs.QuantifierDerivations.{at_member, reduces, stands}

module _ (items : Items) where
  module _ (p q : Nameless) (first : HasType items p bool_type) (second : HasType items q bool_type) where
    pub eqf_intro_derived : (a : Sequent) → a.concl ≡ negation p → Derived items a → Derives items a.hyps (equivalence p falsity)
    eqf_intro_derived a is d = from_one items (negation p) (equivalence p falsity) a (at_formulas items p q first second EqfIntro (eqf_intro_lemma items)) (ap strip (sym is)) d

    pub disj1_derived : (a : Sequent) → a.concl ≡ p → Derived items a → Derives items a.hyps (disjunction p q)
    disj1_derived a is d = from_one items p (disjunction p q) a (at_formulas items p q first second Disj1 (disj1_lemma items)) (ap strip (sym is)) d

    pub disj2_derived : (a : Sequent) → a.concl ≡ q → Derived items a → Derives items a.hyps (disjunction p q)
    disj2_derived a is d = from_one items q (disjunction p q) a (at_formulas items p q first second Disj2 (disj2_lemma items)) (ap strip (sym is)) d

    pub contr_derived : (a : Sequent) → a.concl ≡ falsity → Derived items a → Derives items a.hyps p
    contr_derived a is d = from_one items falsity p a (at_formulas items p q first second Contr (contr_lemma items)) (ap strip (sym is)) d

  -- ---- DISJ_CASES

  module _ (p q r : Nameless) (first : HasType items p bool_type) (second : HasType items q bool_type) (third : HasType items r bool_type) where
    at_three : Derives items (only_hyp (disjunction p q)) (either p q r)
    at_three =
        subst (Derived items) (cases_are p q r (typed_whole items p bool_type first) (typed_whole items q bool_type second) (typed_whole items r bool_type third))
        (by_inst (general DisjCases).hyps (general DisjCases).concl ((p, boolean (codes "p")) ∷ (q, boolean (codes "q")) ∷ (r, boolean (codes "r")) ∷ [])
        (λ i. is_type_at (first i) bool_type && (is_type_at (second i) bool_type && (is_type_at (third i) bool_type && true))) (disj_cases_lemma items))

    pub cases_derived :
        (a : Sequent) (bs cs : Hyps) (s : Nameless) → a.concl ≡ disjunction p q → strip r ≡ strip s → Derived items a → Derives items bs r → Derives items cs s →
        Derives items (set.union (set.union a.hyps (set.remove bs (strip p))) (set.remove cs (strip q))) r
    cases_derived a bs cs s is same d e f =
        let fourth : HasType items s bool_type = formula items f in
        let one = implication p r in
        let rest = implication (implication q r) r in
        let ways : Derives items a.hyps (implication one rest) = from_one items (disjunction p q) (implication one rest) a at_three (ap strip (sym is)) d in
        let types = operands_typed items (codes "==>") one rest bool_type (formula items ways) in
        let inner = operands_typed items (codes "==>") (implication q r) r bool_type types.1 in
        let way : Derives items (set.remove bs (strip p)) one = disch_derived items p r first third bs e in
        let left : Derives items (set.union a.hyps (set.remove bs (strip p))) rest =
        mp_derived items one rest types.0 types.1 (sequent_of a.hyps (implication one rest)) (sequent_of (set.remove bs (strip p)) one) refl refl ways way in
        let other : Derives items (set.remove cs (strip q)) (implication q s) = disch_derived items q s second fourth cs f in
        mp_derived items (implication q r) r inner.0 third (sequent_of (set.union a.hyps (set.remove bs (strip p))) rest) (sequent_of (set.remove cs (strip q)) (implication q s)) refl (ap (λ (t : Nameless). implication (strip q) t) same) left other

  -- ---- EXISTS

  module _ (v : List ℕ × TypeTree) (n t : Nameless) (function : HasType items (bind v n) (fun_type v.1 bool_type)) (member : HasType items t v.1) where
    pub exists_derived : (a : Sequent) → strip (m_with t v n) ≡ strip a.concl → Derived items a → Derives items a.hyps (exists_in v.1 (bind v n))
    exists_derived a fits d =
        let f = bind v n in
        let back : Derives items no_hyps (equivalence (m_with t v n) (app f t)) = turned items (reduces items v n t function member) in
        let rule : Derives items (only_hyp (app f t)) (exists_in v.1 f) =
        subst (Derived items) (existence_is v.1 f t (typed_whole items f (fun_type v.1 bool_type) function) (typed_whole items t v.1 member))
        (at_member items v.1 f t Exists (stands items v n t function member) function member (exists_lemma items)) in
        from_one items (app f t) (exists_in v.1 f) (sequent_of a.hyps (app f t)) rule refl (from_equivalence items (m_with t v n) (app f t) a back fits d)
