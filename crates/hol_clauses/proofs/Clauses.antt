-- The basic rewrites, ONE_ONE and ONTO have derivations.
use Rattle.std.specs.Prelude.{◌≡◌, ◌||◌, true, false, Bool, ℕ, List, [], codes, refl}
use Rattle.std.specs.FinSet as set
use Rattle.std.proofs.Common.{◌∙◌, subst}
use Rattle.hol_types.specs.Tree.{TypeTree}
use Rattle.hol_terms.specs.Nameless.{Nameless, free, fixed, nameless}
use Rattle.hol_terms.specs.Alpha.{strip}
use Rattle.hol_formulas.specs.Equation.{bool_type}
use Rattle.hol_formulas.specs.Formula.{connective_type, truth, falsity, conjunction, disjunction, equivalence, negation, implication, universal}
use Rattle.hol_formulas.specs.Constants.{var_a}
use Rattle.hol_formulas.specs.Prelude.{boolean, element, function}
use Rattle.hol_formulas.specs.declared.postulate.Postulate.TheVariants.{OneOne, Onto}
use Rattle.hol_kernel.specs.Items.{Items}
use Rattle.hol_kernel.specs.Sequent.{Hyps, no_hyps, only_hyp, sequent_of}
use Rattle.hol_kernel.specs.Typing.{HasType, is_type}
use Rattle.hol_kernel.specs.Derivation.{Derives, by_assume, by_refl, by_postulate}
use Rattle.hol_kernel.proofs.Cuts.{same_hyps, one_removed}
use Rattle.hol_equal.proofs.HypSets.{none_left, none_right, none_without}
use Rattle.hol_derived.specs.Rules.{over_variable}
use Rattle.hol_clauses.specs.Statements.{refl_clause, eq_clauses, not_clauses_weak, and_clauses, or_clauses, imp_clauses, one_one, onto}
use Rattle.hol_derived.specs.Unfolded.{letter}
use Rattle.hol_derived.specs.Which.{NotIntro}
use Rattle.hol_derived.proofs.Calculus.{formula, turned, under, at, at_own, both_ways, by_equal, to_equal}
use Rattle.hol_derived.proofs.Connected.{operands_typed}
use Rattle.hol_derived.proofs.Derivations.{at_formulas, conj_derived, conjunct1_derived, conjunct2_derived, mp_derived, disch_derived}
use Rattle.hol_derived.proofs.Disjunctions.{free_in_none}
use Rattle.hol_derived.proofs.HypLaws.{has, in_union}
use Rattle.hol_derived.proofs.LemmaHypotheses.{kept}
use Rattle.hol_derived.proofs.MoreDerivations.{contr_derived, disj1_derived, disj2_derived, cases_derived, eqf_intro_derived}
use Rattle.hol_derived.proofs.OfConnectives.{truth_derived, eqt_intro, eqt_elim, not_intro_lemma}
use Rattle.hol_derived.proofs.QuantifierDerivations.{gen_derived}

twice_ways : (b : Bool) → (b || b) ≡ b
twice_ways true = refl
twice_ways false = refl

twice : (hs : Hyps) → set.union hs hs ≡ hs
twice hs = same_hyps _ _ (λ n. in_union hs hs n ∙ twice_ways (has hs n))

abbrev t : Nameless
t = letter (codes "t")

module _ (items : Items) where
  -- ---- rules where all premises assume the same, or nothing

  pair : {hs : Hyps} {p q : Nameless} → Derives items hs p → Derives items hs q → Derives items hs (conjunction p q)
  pair {hs} {p} {q} d e = subst (λ (ks : Hyps). Derives items ks (conjunction p q)) (twice hs) (conj_derived items p q (formula items d) (formula items e) (sequent_of hs p) (sequent_of hs q) refl refl d e)

  with_left : {hs : Hyps} {p q : Nameless} → Derives items no_hyps p → Derives items hs q → Derives items hs (conjunction p q)
  with_left {hs} {p} {q} d e = subst (λ (ks : Hyps). Derives items ks (conjunction p q)) (none_left hs) (conj_derived items p q (formula items d) (formula items e) (sequent_of no_hyps p) (sequent_of hs q) refl refl d e)

  with_right : {hs : Hyps} {p q : Nameless} → Derives items hs p → Derives items no_hyps q → Derives items hs (conjunction p q)
  with_right {hs} {p} {q} d e = subst (λ (ks : Hyps). Derives items ks (conjunction p q)) (none_right hs) (conj_derived items p q (formula items d) (formula items e) (sequent_of hs p) (sequent_of no_hyps q) refl refl d e)

  left : {hs : Hyps} {p q : Nameless} → Derives items hs (conjunction p q) → Derives items hs p
  left {hs} {p} {q} d = let types = operands_typed items (codes "/\\") p q bool_type (formula items d) in conjunct1_derived items p q types.0 types.1 (sequent_of hs (conjunction p q)) refl d

  right : {hs : Hyps} {p q : Nameless} → Derives items hs (conjunction p q) → Derives items hs q
  right {hs} {p} {q} d = let types = operands_typed items (codes "/\\") p q bool_type (formula items d) in conjunct2_derived items p q types.0 types.1 (sequent_of hs (conjunction p q)) refl d

  anything : {hs : Hyps} (p : Nameless) → HasType items p bool_type → Derives items hs falsity → Derives items hs p
  anything {hs} p typed d = contr_derived items p p typed typed (sequent_of hs falsity) refl d

  beside : {hs : Hyps} {p : Nameless} (q : Nameless) → HasType items q bool_type → Derives items hs p → Derives items hs (disjunction p q)
  beside {hs} {p} q typed d = disj1_derived items p q (formula items d) typed (sequent_of hs p) refl d

  behind : {hs : Hyps} {q : Nameless} (p : Nameless) → HasType items p bool_type → Derives items hs q → Derives items hs (disjunction p q)
  behind {hs} {q} p typed d = disj2_derived items p q typed (formula items d) (sequent_of hs q) refl d

  either : {hs : Hyps} {p q r : Nameless} → Derives items hs (disjunction p q) → Derives items (only_hyp p) r → Derives items (only_hyp q) r → Derives items hs r
  either {hs} {p} {q} {r} d e f =
      let types = operands_typed items (codes "\\/") p q bool_type (formula items d) in
      subst (λ (ks : Hyps). Derives items ks r) ((λ i. set.union (set.union hs (one_removed p i)) (one_removed q i)) ∙ none_right (set.union hs no_hyps) ∙ none_right hs)
      (cases_derived items p q r types.0 types.1 (formula items e) (sequent_of hs (disjunction p q)) (only_hyp p) (only_hyp q) r refl refl d e f)

  always : {q : Nameless} (p : Nameless) → HasType items p bool_type → Derives items (only_hyp p) q → Derives items no_hyps (implication p q)
  always {q} p typed d = subst (λ (ks : Hyps). Derives items ks (implication p q)) (one_removed p) (disch_derived items p q typed (formula items d) (only_hyp p) d)

  detached : {hs : Hyps} {p q : Nameless} → Derives items hs (implication p q) → Derives items no_hyps p → Derives items hs q
  detached {hs} {p} {q} d e =
      let types = operands_typed items (codes "==>") p q bool_type (formula items d) in
      subst (λ (ks : Hyps). Derives items ks q) (none_right hs) (mp_derived items p q types.0 types.1 (sequent_of hs (implication p q)) (sequent_of no_hyps p) refl refl d e)

  -- |- p ==> F <=> ~p
  denial : (p : Nameless) → HasType items p bool_type → Derives items no_hyps (equivalence (implication p falsity) (negation p))
  denial p typed = at_formulas items p p typed typed NotIntro (not_intro_lemma items)

  -- |- F ==> F
  itself : Derives items no_hyps (implication falsity falsity)
  itself = always falsity refl (by_assume falsity refl)

  -- from p <=> F, ~p
  denied : {hs : Hyps} {p : Nameless} → HasType items p bool_type → Derives items hs (equivalence p falsity) → Derives items hs (negation p)
  denied {hs} {p} typed d = by_equal items (denial p typed) (to_equal items (turned items (at items falsity (under items (fixed (codes "==>") connective_type) d refl) refl)) itself)

  refuted : {hs : Hyps} (p : Nameless) → HasType items p bool_type → Derives items hs (negation p) → Derives items hs (equivalence p falsity)
  refuted {hs} p typed d = eqf_intro_derived items p p typed typed (sequent_of hs (negation p)) refl d

  assumed : (p : Nameless) → HasType items p bool_type → Derives items (only_hyp p) p
  assumed p typed = by_assume p typed

  holds : Derives items no_hyps truth
  holds = truth_derived items

  -- GEN of what assumes nothing
  for_all : {p g : Nameless} (v : List ℕ × TypeTree) → is_type items v.1 ≡ true → Derives items no_hyps p → universal (over_variable v p) ≡ g → Derives items no_hyps g
  for_all {p} {g} v stands d is = subst (λ (u : Nameless). Derives items no_hyps u) is (gen_derived items v (sequent_of no_hyps p) stands (free_in_none v) d)

  -- ---- the rewrites

  pub refl_clause_derived : Derives items no_hyps (nameless [] refl_clause)
  refl_clause_derived =
      for_all (element (codes "x")) refl (eqt_intro items (by_refl (free (element (codes "x"))) var_a refl)) refl

  pub eq_clauses_derived : Derives items no_hyps (nameless [] eq_clauses)
  eq_clauses_derived =
      for_all (boolean (codes "t")) refl
      (pair (both_ways items (turned items (eqt_intro items (assumed t refl))) (to_equal items (assumed (equivalence truth t) refl) holds))
      (pair (both_ways items (eqt_intro items (assumed t refl)) (eqt_elim items (assumed (equivalence t truth) refl)))
      (pair (both_ways items (turned items (refuted t refl (assumed (negation t) refl))) (denied refl (turned items (assumed (equivalence falsity t) refl))))
      (both_ways items (refuted t refl (assumed (negation t) refl)) (denied refl (assumed (equivalence t falsity) refl))))))
      refl

  pub not_clauses_derived : Derives items no_hyps (nameless [] not_clauses_weak)
  not_clauses_derived =
      pair (both_ways items (anything (negation truth) refl (assumed falsity refl)) (detached (by_equal items (turned items (denial truth refl)) (assumed (negation truth) refl)) holds))
      (eqt_intro items (by_equal items (denial falsity refl) itself))

  pub and_clauses_derived : Derives items no_hyps (nameless [] and_clauses)
  and_clauses_derived =
      for_all (boolean (codes "t")) refl
      (pair (both_ways items (with_left holds (assumed t refl)) (right (assumed (conjunction truth t) refl)))
      (pair (both_ways items (with_right (assumed t refl) holds) (left (assumed (conjunction t truth) refl)))
      (pair (both_ways items (pair (assumed falsity refl) (anything t refl (assumed falsity refl))) (left (assumed (conjunction falsity t) refl)))
      (pair (both_ways items (pair (anything t refl (assumed falsity refl)) (assumed falsity refl)) (right (assumed (conjunction t falsity) refl)))
      (both_ways items (pair (assumed t refl) (assumed t refl)) (left (assumed (conjunction t t) refl)))))))
      refl

  pub or_clauses_derived : Derives items no_hyps (nameless [] or_clauses)
  or_clauses_derived =
      for_all (boolean (codes "t")) refl
      (pair (eqt_intro items (beside t refl holds))
      (pair (eqt_intro items (behind t refl holds))
      (pair (both_ways items (behind falsity refl (assumed t refl)) (either (assumed (disjunction falsity t) refl) (anything t refl (assumed falsity refl)) (assumed t refl)))
      (pair (both_ways items (beside falsity refl (assumed t refl)) (either (assumed (disjunction t falsity) refl) (assumed t refl) (anything t refl (assumed falsity refl))))
      (both_ways items (beside t refl (assumed t refl)) (either (assumed (disjunction t t) refl) (assumed t refl) (assumed t refl)))))))
      refl

  pub imp_clauses_derived : Derives items no_hyps (nameless [] imp_clauses)
  imp_clauses_derived =
      let under_truth : Derives items (only_hyp t) (implication truth t) = subst (λ (ks : Hyps). Derives items ks (implication truth t)) (kept t (strip truth) refl) (disch_derived items truth t refl refl (only_hyp t) (assumed t refl)) in
      let to_truth : Derives items no_hyps (implication t truth) = subst (λ (ks : Hyps). Derives items ks (implication t truth)) (none_without (strip t)) (disch_derived items t truth refl refl no_hyps holds) in
      for_all (boolean (codes "t")) refl
      (pair (both_ways items under_truth (detached (assumed (implication truth t) refl) holds))
      (pair (eqt_intro items to_truth)
      (pair (eqt_intro items (always falsity refl (anything t refl (assumed falsity refl))))
      (pair (eqt_intro items (always t refl (assumed t refl)))
      (denial t refl)))))
      refl

  -- ---- properties of functions

  pub one_one_derived : Derives items no_hyps (nameless [] one_one)
  one_one_derived = for_all function refl (at_own items function (by_postulate OneOne) refl refl) refl

  pub onto_derived : Derives items no_hyps (nameless [] onto)
  onto_derived = for_all function refl (at_own items function (by_postulate Onto) refl refl) refl
