-- The general theorems of truth, conjunction, implication, negation and universal quantification, of the variables p and q, or P and x.
use Rattle.std.specs.Prelude.{[], ◌∷◌, codes, refl}
use Rattle.std.specs.FinSet as set
use Rattle.std.proofs.Common.{subst}
use Rattle.hol_types.specs.Fun.{fun_type}
use Rattle.hol_terms.specs.Nameless.{Nameless, free, bound, fixed, app, lam, nameless}
use Rattle.hol_terms.specs.Alpha.{strip}
use Rattle.hol_formulas.specs.Equation.{bool_type, equation}
use Rattle.hol_formulas.specs.Formula.{negation_type, connective_type, quantifier_type, truth, negation, conjunction, implication, equivalence}
use Rattle.hol_formulas.specs.Constants.{var_a}
use Rattle.hol_formulas.specs.Prelude.{identity, boolean, property, element}
use Rattle.hol_formulas.specs.declared.postulate.Postulate.TheVariants.{TDef, AndDef, ImpDef, ForallDef, NotDef}
use Rattle.hol_kernel.specs.Items.{Items}
use Rattle.hol_kernel.specs.Sequent.{Hyps, no_hyps, only_hyp, sequent_of}
use Rattle.hol_kernel.specs.Typing.{HasType}
use Rattle.hol_kernel.specs.Derivation.{Derives, by_refl, by_mk_comb, by_assume, by_eq_mp, by_deduct_antisym, by_postulate}
use Rattle.hol_kernel.proofs.Cuts.{cut_derived}
use Rattle.hol_kernel.proofs.Sound.{Derived}
use Rattle.hol_equal.proofs.Beta.{image_derived}
use Rattle.hol_derived.specs.Applied.{constantly_true, both_true, pair, pair_type}
use Rattle.hol_derived.specs.Lemmas.{general}
use Rattle.hol_derived.specs.Unfolded.{letter, predicate}
use Rattle.hol_derived.specs.Which.{EqtIntro, Both, Conj, Conjunct1, Conjunct2, Mp, Disch, NotIntro, Gen, Spec}
use Rattle.hol_derived.proofs.Calculus.{formula, turned, onward, under, at, at_own, by_equal, to_equal, cut, both_ways, instance}
use Rattle.hol_derived.proofs.Connected.{typed_whole}
use Rattle.hol_derived.proofs.HypLaws.{nothing_left, joined, two}
use Rattle.hol_derived.proofs.LemmaHypotheses.{q_alone, rule_alone}

abbrev p : Nameless
p = letter (codes "p")

abbrev q : Nameless
q = letter (codes "q")

module _ (items : Items) where
  -- ---- truth

  -- |- T
  pub truth_derived : Derives items no_hyps truth
  truth_derived = by_equal items (turned items (by_postulate TDef)) (by_refl (nameless [] identity) negation_type refl)

  -- EQT_ELIM: from t <=> T, t
  pub eqt_elim : {hs : Hyps} {t : Nameless} → Derives items hs (equivalence t truth) → Derives items hs t
  eqt_elim d = to_equal items (turned items d) truth_derived

  -- EQT_INTRO: from t, t <=> T
  pub eqt_intro : {hs : Hyps} {t : Nameless} → Derives items hs t → Derives items hs (equivalence t truth)
  eqt_intro {hs} {t} d =
      subst (λ (ks : Hyps). Derives items ks (equivalence t truth)) (nothing_left t truth hs)
      (cut_derived items (sequent_of hs t) (sequent_of (set.union (set.remove (only_hyp t) (strip truth)) (set.remove no_hyps (strip t))) (equivalence t truth)) d
      (by_deduct_antisym (only_hyp t) no_hyps t truth (by_assume t (formula items d)) truth_derived))

  -- |- p <=> (p <=> T)
  pub eqt_intro_lemma : Derived items (general EqtIntro)
  eqt_intro_lemma = both_ways items (eqt_elim (by_assume (equivalence p truth) refl)) (eqt_intro (by_assume p refl))

  -- ---- conjunction

  -- |- p /\ q <=> (\f. f p q) = (\f. f T T)
  and_at : Derives items no_hyps (equivalence (conjunction p q) (both_true p q))
  and_at = at_own items (boolean (codes "q")) (at_own items (boolean (codes "p")) (by_postulate AndDef) refl refl) refl refl

  -- |- T /\ T
  truths : Derives items no_hyps (conjunction truth truth)
  truths =
      by_equal items (turned items (instance items ((truth, boolean (codes "p")) ∷ (truth, boolean (codes "q")) ∷ []) and_at refl))
      (by_refl (pair truth truth) pair_type refl)

  -- {p, q} |- p /\ q
  pub both_lemma : Derived items (general Both)
  both_lemma =
      let left : Derives items (only_hyp p) (equation negation_type (app (fixed (codes "/\\") connective_type) p) (app (fixed (codes "/\\") connective_type) truth)) =
      under items (fixed (codes "/\\") connective_type) (eqt_intro (by_assume p refl)) refl in
      let equal : Derives items (set.union (only_hyp p) (only_hyp q)) (equivalence (conjunction p q) (conjunction truth truth)) =
      by_mk_comb (only_hyp p) (only_hyp q) bool_type bool_type (app (fixed (codes "/\\") connective_type) p) (app (fixed (codes "/\\") connective_type) truth) q truth left (eqt_intro (by_assume q refl)) in
      subst (λ (hs : Hyps). Derives items hs (conjunction p q)) (two p q) (to_equal items (turned items equal) truths)

  -- \p q. p and \p q. q
  abbrev first_of : Nameless
  first_of = lam (codes "p") bool_type (lam (codes "q") bool_type (bound 1))

  abbrev second_of : Nameless
  second_of = lam (codes "p") bool_type (lam (codes "q") bool_type (bound 0))

  -- |- (\f. f p q) k <=> k p q
  pair_first : Derives items no_hyps (equivalence (app (pair p q) first_of) (app (app first_of p) q))
  pair_first = image_derived items (codes "f", connective_type) (app (app (free (codes "f", connective_type)) p) q) first_of bool_type (typed_whole items first_of connective_type refl) refl

  pair_second : Derives items no_hyps (equivalence (app (pair p q) second_of) (app (app second_of p) q))
  pair_second = image_derived items (codes "f", connective_type) (app (app (free (codes "f", connective_type)) p) q) second_of bool_type (typed_whole items second_of connective_type refl) refl

  -- |- (\f. f p q) k <=> p, or q
  first_value : Derives items no_hyps (equivalence (app (pair p q) first_of) p)
  first_value = onward items pair_first (at_own items (boolean (codes "q")) (at_own items (boolean (codes "p")) (by_refl first_of connective_type refl) refl refl) refl refl)

  second_value : Derives items no_hyps (equivalence (app (pair p q) second_of) q)
  second_value = onward items pair_second (at_own items (boolean (codes "q")) (at_own items (boolean (codes "p")) (by_refl second_of connective_type refl) refl refl) refl refl)

  -- {p /\ q} |- c, for a component c
  component : (k c : Nameless) → HasType items k connective_type → Derives items no_hyps (equivalence (app (pair p q) k) c) → Derives items no_hyps (equivalence (app (pair truth truth) k) truth) → Derives items (only_hyp (conjunction p q)) c
  component k c typed value holds =
      let equal : Derives items (only_hyp (conjunction p q)) (equivalence (app (pair p q) k) (app (pair truth truth) k)) =
      at items k (by_equal items and_at (by_assume (conjunction p q) refl)) typed in
      by_equal items value (eqt_elim (onward items equal holds))

  -- {p /\ q} |- p
  pub conjunct1_lemma : Derived items (general Conjunct1)
  conjunct1_lemma = component first_of p refl first_value (instance items ((truth, boolean (codes "p")) ∷ (truth, boolean (codes "q")) ∷ []) first_value refl)

  -- {p /\ q} |- q
  pub conjunct2_lemma : Derived items (general Conjunct2)
  conjunct2_lemma = component second_of q refl second_value (instance items ((truth, boolean (codes "p")) ∷ (truth, boolean (codes "q")) ∷ []) second_value refl)

  -- {q} |- p /\ q <=> p
  first_if : Derives items (set.remove (only_hyp q) (strip p)) (equivalence (conjunction p q) p)
  first_if =
      subst (λ (hs : Hyps). Derives items hs (equivalence (conjunction p q) p)) (joined p q (conjunction p q) (only_hyp q))
      (by_deduct_antisym (set.union (only_hyp q) (set.remove (set.insert (only_hyp q) (strip p)) (strip q))) (only_hyp (conjunction p q)) (conjunction p q) p
      (cut_derived items (sequent_of (only_hyp q) q) (general Both) (by_assume q refl) both_lemma) conjunct1_lemma)

  -- {q} |- p <=> p /\ q
  pub conj_lemma : Derived items (general Conj)
  conj_lemma = turned items (subst (λ (hs : Hyps). Derives items hs (equivalence (conjunction p q) p)) q_alone first_if)

  -- ---- implication

  -- |- p ==> q <=> (p /\ q <=> p)
  imp_at : Derives items no_hyps (equivalence (implication p q) (equivalence (conjunction p q) p))
  imp_at = at_own items (boolean (codes "q")) (at_own items (boolean (codes "p")) (by_postulate ImpDef) refl refl) refl refl

  -- |- (p /\ q <=> p) <=> (p ==> q)
  pub disch_lemma : Derived items (general Disch)
  disch_lemma = turned items imp_at

  -- {p} |- p ==> q <=> q
  pub mp_lemma : Derived items (general Mp)
  mp_lemma =
      let rule = implication p q in
      let assumed : Derives items (only_hyp rule) (equivalence p (conjunction p q)) = turned items (by_equal items imp_at (by_assume rule refl)) in
      let there : Derives items (set.union (only_hyp rule) (only_hyp p)) q =
      cut items conjunct2_lemma (by_eq_mp (only_hyp rule) (only_hyp p) bool_type p (conjunction p q) p assumed (by_assume p refl) refl) in
      subst (λ (hs : Hyps). Derives items hs (equivalence rule q)) rule_alone
      (by_deduct_antisym (set.remove (only_hyp q) (strip p)) (set.union (only_hyp rule) (only_hyp p)) rule q (by_equal items disch_lemma first_if) there)

  -- ---- negation

  -- |- p ==> F <=> ~p
  pub not_intro_lemma : Derived items (general NotIntro)
  not_intro_lemma = turned items (at_own items (boolean (codes "p")) (by_postulate NotDef) refl refl)

  -- ---- universal quantification

  -- |- (!) P <=> P = (\x. T)
  forall_at : Derives items no_hyps (equivalence (app (fixed (codes "!") (quantifier_type var_a)) predicate) (equation (fun_type var_a bool_type) predicate (constantly_true var_a)))
  forall_at = at_own items property (by_postulate ForallDef) refl refl

  -- |- P = (\x:A. T) <=> (!) P
  pub gen_lemma : Derived items (general Gen)
  gen_lemma = turned items forall_at

  -- {(!) P} |- P (x:A)
  pub spec_lemma : Derived items (general Spec)
  spec_lemma = eqt_elim (at_own items (element (codes "x")) (by_equal items forall_at (by_assume (app (fixed (codes "!") (quantifier_type var_a)) predicate) refl)) refl refl)
