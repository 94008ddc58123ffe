-- Derivations of the rules, from those of the general theorems.
use Rattle.std.specs.Prelude.{◌≡◌, ◌&&◌, true, [], ◌∷◌, codes, refl}
use Rattle.std.specs.FinSet as set
use Rattle.std.proofs.Common.{ap, sym, ◌∙◌, subst}
use Rattle.hol_terms.specs.Nameless.{Nameless}
use Rattle.hol_terms.specs.Alpha.{strip}
use Rattle.hol_formulas.specs.Equation.{bool_type}
use Rattle.hol_formulas.specs.Formula.{truth, falsity, negation, conjunction, implication, equivalence}
use Rattle.hol_formulas.specs.Prelude.{boolean}
use Rattle.hol_kernel.specs.Items.{Items}
use Rattle.hol_kernel.specs.Sequent.{Hyps, no_hyps, only_hyp, Sequent, sequent_of}
use Rattle.hol_kernel.specs.Typing.{HasType, is_type_at}
use Rattle.hol_kernel.specs.Derivation.{Derives, by_eq_mp, by_deduct_antisym, by_inst}
use Rattle.hol_kernel.proofs.Cuts.{cut_derived, one_removed}
use Rattle.hol_kernel.proofs.HypothesisLists.{hyps_total, hyps_same}
use Rattle.hol_kernel.proofs.SortedSets.{union_none_left}
use Rattle.hol_kernel.proofs.Sound.{Derived}
use Rattle.hol_equal.proofs.HypSets.{none_right}
use Rattle.hol_derived.specs.Lemmas.{lemma_at, general}
use Rattle.hol_derived.specs.Which.{Lemma, EqtIntro, Both, Conj, Conjunct1, Conjunct2, Mp, Disch, NotIntro}
use Rattle.hol_derived.proofs.OfConnectives.{eqt_intro_lemma, both_lemma, conj_lemma, conjunct1_lemma, conjunct2_lemma, mp_lemma, disch_lemma, not_intro_lemma}
use Rattle.hol_derived.proofs.Connected.{typed_whole}
use Rattle.hol_derived.proofs.HypLaws.{joined}
use Rattle.hol_derived.proofs.Instances.{instance_is}
use Rattle.hol_derived.proofs.LemmaHypotheses.{swapped}

module _ (items : Items) where
  -- PROVE_HYP with all that a theorem assumes
  pub from_one : (h c : Nameless) (b : Sequent) → Derives items (only_hyp h) c → strip h ≡ strip b.concl → Derived items b → Derives items b.hyps c
  from_one h c b rule fits d =
      let left : set.remove (only_hyp h) (strip b.concl) ≡ no_hyps = ap (λ k. set.remove (only_hyp h) k) (sym fits) ∙ one_removed h in
      let whole : set.union b.hyps (set.remove (only_hyp h) (strip b.concl)) ≡ b.hyps = ap (λ (hs : Hyps). set.union b.hyps hs) left ∙ none_right b.hyps in
      subst (λ (hs : Hyps). Derives items hs c) whole (cut_derived items b (sequent_of (only_hyp h) c) d rule)

  -- EQ_MP by an equivalence that assumes nothing
  pub from_equivalence : (l r : Nameless) (b : Sequent) → Derives items no_hyps (equivalence l r) → strip l ≡ strip b.concl → Derived items b → Derives items b.hyps r
  from_equivalence l r b rule fits d =
      subst (λ (hs : Hyps). Derives items hs r) (union_none_left hyps_total hyps_same b.hyps) (by_eq_mp no_hyps b.hyps bool_type l r b.concl rule d fits)

  -- EQ_MP of the equivalence and a theorem, whose hypotheses come first
  pub from_both : (ks : Hyps) (l r : Nameless) (a : Sequent) → Derives items ks (equivalence l r) → strip l ≡ strip a.concl → Derived items a → Derives items (set.union a.hyps ks) r
  from_both ks l r a rule fits d =
      subst (λ (hs : Hyps). Derives items hs r) (swapped ks a.hyps) (by_eq_mp ks a.hyps bool_type l r a.concl rule d fits)

  -- a general theorem has a derivation at each pair of formulas
  module _ (p q : Nameless) (first : HasType items p bool_type) (second : HasType items q bool_type) where
    pub at_formulas : (which : Lemma) → Derived items (general which) → Derived items (lemma_at which p q)
    at_formulas which d =
        subst (Derived items) (instance_is p q (typed_whole items p bool_type first) (typed_whole items q bool_type second) which)
        (by_inst (general which).hyps (general which).concl ((p, boolean (codes "p")) ∷ (q, boolean (codes "q")) ∷ [])
        (λ i. is_type_at (first i) bool_type && (is_type_at (second i) bool_type && true)) d)

    pub conj_derived : (a b : Sequent) → strip p ≡ strip a.concl → strip q ≡ strip b.concl → Derived items a → Derived items b → Derives items (set.union a.hyps b.hyps) (conjunction p q)
    conj_derived a b left right d e = from_both b.hyps p (conjunction p q) a (from_one q (equivalence p (conjunction p q)) b (at_formulas Conj (conj_lemma items)) right e) left d

    pub conjunct1_derived : (a : Sequent) → a.concl ≡ conjunction p q → Derived items a → Derives items a.hyps p
    conjunct1_derived a is d = from_one (conjunction p q) p a (at_formulas Conjunct1 (conjunct1_lemma items)) (ap strip (sym is)) d

    pub conjunct2_derived : (a : Sequent) → a.concl ≡ conjunction p q → Derived items a → Derives items a.hyps q
    conjunct2_derived a is d = from_one (conjunction p q) q a (at_formulas Conjunct2 (conjunct2_lemma items)) (ap strip (sym is)) d

    pub mp_derived : (a b : Sequent) → strip (implication p q) ≡ strip a.concl → strip p ≡ strip b.concl → Derived items a → Derived items b → Derives items (set.union a.hyps b.hyps) q
    mp_derived a b is fits d e = from_both b.hyps (implication p q) q a (from_one p (equivalence (implication p q) q) b (at_formulas Mp (mp_lemma items)) fits e) is d

    pub undisch_derived : (a : Sequent) → a.concl ≡ implication p q → Derived items a → Derives items (set.union a.hyps (only_hyp p)) q
    undisch_derived a is d = from_both (only_hyp p) (implication p q) q a (at_formulas Mp (mp_lemma items)) (ap strip (sym is)) d

    pub disch_derived : (hs : Hyps) → Derives items hs q → Derives items (set.remove hs (strip p)) (implication p q)
    disch_derived hs d =
        let two = conjunction p q in
        let under : Hyps = set.union hs (set.remove (set.insert (only_hyp q) (strip p)) (strip q)) in
        let with : Derives items under two = cut_derived items (sequent_of hs q) (lemma_at Both p q) d (at_formulas Both (both_lemma items)) in
        let equal : Derives items (set.remove hs (strip p)) (equivalence two p) =
        subst (λ (ks : Hyps). Derives items ks (equivalence two p)) (joined p q two hs) (by_deduct_antisym under (only_hyp two) two p with (at_formulas Conjunct1 (conjunct1_lemma items))) in
        from_equivalence (equivalence two p) (implication p q) (sequent_of (set.remove hs (strip p)) (equivalence two p)) (at_formulas Disch (disch_lemma items)) refl equal

    pub not_intro_derived : (a : Sequent) → a.concl ≡ implication p falsity → Derived items a → Derives items a.hyps (negation p)
    not_intro_derived a is d = from_equivalence (implication p falsity) (negation p) a (at_formulas NotIntro (not_intro_lemma items)) (ap strip (sym is)) d

    pub eqt_intro_derived : (a : Sequent) → a.concl ≡ p → Derived items a → Derives items a.hyps (equivalence p truth)
    eqt_intro_derived a is d = from_equivalence p (equivalence p truth) a (at_formulas EqtIntro (eqt_intro_lemma items)) (ap strip (sym is)) d
