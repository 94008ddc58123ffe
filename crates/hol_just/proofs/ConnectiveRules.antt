-- What the rules of the connectives make of sequents that achieve goals, and the justifications by them.
use Rattle.std.specs.Prelude.{cond, ◌&&◌, List, [], ◌∷◌, ◌++◌, codes, Some, None, refl}
use Rattle.std.specs.Option.{option_map, option_and_then}
use Rattle.std.specs.FinSet as set
use Rattle.std.proofs.Common.{ap, sym, ◌∙◌}
use Rattle.hol_terms.specs.Named.{Named}
use Rattle.hol_terms.specs.Nameless.{Nameless, fixed, nameless}
use Rattle.hol_terms.specs.Alpha.{strip, alpha_eq}
use Rattle.hol_terms.proofs.Alpha.{alpha_eq_decides}
use Rattle.hol_formulas.specs.Equation.{bool_type}
use Rattle.hol_formulas.specs.Formula.{connective_type, falsity, conjunction, disjunction, implication, negation, negation_type, is_falsity, dest_imp}
use Rattle.hol_kernel.specs.Items.{Items}
use Rattle.hol_kernel.specs.Sequent.{Hyps, only_hyp, Sequent, sequent_of}
use Rattle.hol_kernel.specs.Typing.{HasType}
use Rattle.hol_kernel.proofs.Declared.{has_type_is, has_type_of}
use Rattle.hol_derived.specs.Rules.{conj_of, disch_of, undisch_of, not_intro_of, mp_of, disj1_of, disj2_of, contr_of}
use Rattle.hol_goal.specs.Achieves.{assumed, Achieves}
use Rattle.hol_just.specs.Reasons.{conjoined, left_disjunct}
use Rattle.hol_just.specs.Justifies.{goal_at, always, holds_formula, SplitsConjunction, LeavesLeft, LeavesRight, LeavesConsequent, UnfoldsNegation, TakesOut, SplitsByImplication, LeavesFalsity}
use Rattle.hol_just.specs.declared.reason.Reason.TheVariants.{Conjunction, LeftDisjunct, RightDisjunct, Discharge, Undischarge, Negation, ModusPonens, Contradiction}
use Rattle.hol_just.proofs.Allowed.{assumed_there, assumed_still, allowed_union, allowed_less, allowed_more, allowed_only}
use Rattle.hol_just.proofs.Likeness.{like_binary, like_fixed}
use Rattle.hol_just.proofs.OneMove.{one, one_valid, by_one, by_two, IsAnswer, answer_by}
use Rattle.hol_just.proofs.Typings.{operands_typed, implication_typed, parts_at}
use Rattle.hol_just.proofs.Validity.{all_both, all_left, all_right}

-- ---- the rules

module _ (extra : Hyps) (assumptions : List Nameless) where
  conj_achieves : (p q : Nameless) (s t : Sequent) → Achieves extra s (goal_at assumptions p) → Achieves extra t (goal_at assumptions q) → Achieves extra (conj_of s t) (goal_at assumptions (conjunction p q))
  conj_achieves p q s t h k =
      record { concludes = λ i. conjunction (h.concludes i) (k.concludes i); allowed = allowed_union extra assumptions s.hyps t.hyps h.allowed k.allowed }

  disj1_achieves : (basis : Items) (p q : Nameless) (s : Sequent) → HasType basis q bool_type → Achieves extra s (goal_at assumptions p) → IsAnswer extra (disj1_of basis s q) (goal_at assumptions (disjunction p q))
  disj1_achieves basis p q s typed h =
      answer_by extra (disj1_of basis s q) (sequent_of s.hyps (disjunction s.concl q)) (goal_at assumptions (disjunction p q))
      (ap (λ b. cond b (Some (sequent_of s.hyps (disjunction s.concl q))) None) (has_type_of basis q bool_type typed))
      (record { concludes = λ i. disjunction (h.concludes i) (strip q); allowed = h.allowed })

  disj2_achieves : (basis : Items) (p q : Nameless) (s : Sequent) → HasType basis p bool_type → Achieves extra s (goal_at assumptions q) → IsAnswer extra (disj2_of basis p s) (goal_at assumptions (disjunction p q))
  disj2_achieves basis p q s typed h =
      answer_by extra (disj2_of basis p s) (sequent_of s.hyps (disjunction p s.concl)) (goal_at assumptions (disjunction p q))
      (ap (λ b. cond b (Some (sequent_of s.hyps (disjunction p s.concl))) None) (has_type_of basis p bool_type typed))
      (record { concludes = λ i. disjunction (strip p) (h.concludes i); allowed = h.allowed })

  disch_achieves : (basis : Items) (p q : Nameless) (s : Sequent) → HasType basis p bool_type → Achieves extra s (goal_at (p ∷ assumptions) q) → IsAnswer extra (disch_of basis p s) (goal_at assumptions (implication p q))
  disch_achieves basis p q s typed h =
      answer_by extra (disch_of basis p s) (sequent_of (set.remove s.hyps (strip p)) (implication p s.concl)) (goal_at assumptions (implication p q))
      (ap (λ b. cond b (Some (sequent_of (set.remove s.hyps (strip p)) (implication p s.concl))) None) (has_type_of basis p bool_type typed))
      (record { concludes = λ i. implication (strip p) (h.concludes i); allowed = allowed_less extra assumptions p p s.hyps refl h.allowed })

  mp_achieves : (p q : Nameless) (s t : Sequent) → Achieves extra s (goal_at assumptions (implication p q)) → Achieves extra t (goal_at assumptions p) → IsAnswer extra (mp_of s t) (goal_at assumptions q)
  mp_achieves p q s t h k =
      let b = like_binary s.concl (codes "==>") connective_type (strip p) (strip q) h.concludes in
      answer_by extra (mp_of s t) (sequent_of (set.union s.hyps t.hyps) b.second) (goal_at assumptions q)
      (ap (λ c. option_and_then (λ r. cond (alpha_eq r.0 t.concl) (Some (sequent_of (set.union s.hyps t.hyps) r.1)) None) (dest_imp c)) b.is
      ∙ ap (λ v. cond v (Some (sequent_of (set.union s.hyps t.hyps) b.second)) None) ((alpha_eq_decides b.first t.concl).1 (b.firsts ∙ sym k.concludes)))
      (record { concludes = b.seconds; allowed = allowed_union extra assumptions s.hyps t.hyps h.allowed k.allowed })

  not_intro_achieves : (p : Nameless) (s : Sequent) → Achieves extra s (goal_at assumptions (implication p falsity)) → IsAnswer extra (not_intro_of s) (goal_at assumptions (negation p))
  not_intro_achieves p s h =
      let b = like_binary s.concl (codes "==>") connective_type (strip p) falsity h.concludes in
      answer_by extra (not_intro_of s) (sequent_of s.hyps (negation b.first)) (goal_at assumptions (negation p))
      (ap (λ t. option_and_then (λ r. cond (is_falsity r.1) (Some (sequent_of s.hyps (negation r.0))) None) (dest_imp t)) b.is
      ∙ ap (λ t. cond (is_falsity t) (Some (sequent_of s.hyps (negation b.first))) None) (like_fixed b.second (codes "F") bool_type b.seconds))
      (record { concludes = ap negation b.firsts; allowed = h.allowed })

  contr_achieves : (basis : Items) (p : Nameless) (s : Sequent) → HasType basis p bool_type → Achieves extra s (goal_at assumptions falsity) → IsAnswer extra (contr_of basis p s) (goal_at assumptions p)
  contr_achieves basis p s typed h =
      answer_by extra (contr_of basis p s) (sequent_of s.hyps p) (goal_at assumptions p)
      (λ i. cond (is_falsity (like_fixed s.concl (codes "F") bool_type h.concludes i) && has_type_of basis p bool_type typed i) (Some (sequent_of s.hyps p)) None)
      (record { concludes = refl; allowed = h.allowed })

undisch_achieves :
    (extra : Hyps) (newer older : List Nameless) (p q : Nameless) (s : Sequent) → Achieves extra s (goal_at (newer ++ older) (implication p q)) →
    IsAnswer extra (undisch_of s) (goal_at (newer ++ (p ∷ older)) q)
undisch_achieves extra newer older p q s h =
    let b = like_binary s.concl (codes "==>") connective_type (strip p) (strip q) h.concludes in
    answer_by extra (undisch_of s) (sequent_of (set.union s.hyps (only_hyp b.first)) b.second) (goal_at (newer ++ (p ∷ older)) q)
    (ap (λ t. option_map (λ r. sequent_of (set.union s.hyps (only_hyp r.0)) r.1) (dest_imp t)) b.is)
    (record {
      concludes = b.seconds;
      allowed = allowed_union extra (newer ++ (p ∷ older)) s.hyps (only_hyp b.first)
          (allowed_more extra (newer ++ older) (newer ++ (p ∷ older)) s.hyps (assumed_still newer older p) h.allowed)
          (allowed_only extra (newer ++ (p ∷ older)) b.first (ap (set.contains (assumed (newer ++ (p ∷ older)))) b.firsts ∙ assumed_there newer older p));
    })

-- ---- the justifications

pub conjunction_splits : SplitsConjunction (one Conjunction)
conjunction_splits extra assumptions p q =
    one_valid always extra Conjunction (goal_at assumptions (conjunction p q)) (goal_at assumptions p ∷ goal_at assumptions q ∷ [])
    (λ basis suit typed.
    let parts = operands_typed basis (codes "/\\") p q bool_type typed.conclusion in
    record {
      typed = (
        record { assumptions = typed.assumptions; conclusion = parts.0 },
        (record { assumptions = typed.assumptions; conclusion = parts.1 }, tt),
      );
      fits = tt;
      justifies = by_two extra (goal_at assumptions (conjunction p q)) conjoined (goal_at assumptions p) (goal_at assumptions q) (conj_achieves extra assumptions p q);
    })

pub left_disjunct_leaves : (q : Named) → LeavesLeft (nameless [] q) (one (LeftDisjunct q))
left_disjunct_leaves q extra assumptions p =
    one_valid always extra (LeftDisjunct q) (goal_at assumptions (disjunction p (nameless [] q))) (goal_at assumptions p ∷ [])
    (λ basis suit typed.
    let parts = operands_typed basis (codes "\\/") p (nameless [] q) bool_type typed.conclusion in
    record {
      typed = (record { assumptions = typed.assumptions; conclusion = parts.0 }, tt);
      fits = tt;
      justifies = by_one extra (goal_at assumptions (disjunction p (nameless [] q))) (left_disjunct basis (nameless [] q)) (goal_at assumptions p)
          (λ s h. disj1_achieves extra assumptions basis p (nameless [] q) s parts.1 h);
    })

pub right_disjunct_leaves : (p : Named) → LeavesRight (nameless [] p) (one (RightDisjunct p))
right_disjunct_leaves p extra assumptions q =
    one_valid always extra (RightDisjunct p) (goal_at assumptions (disjunction (nameless [] p) q)) (goal_at assumptions q ∷ [])
    (λ basis suit typed.
    let parts = operands_typed basis (codes "\\/") (nameless [] p) q bool_type typed.conclusion in
    record {
      typed = (record { assumptions = typed.assumptions; conclusion = parts.1 }, tt);
      fits = tt;
      justifies = by_one extra (goal_at assumptions (disjunction (nameless [] p) q)) (disj2_of basis (nameless [] p)) (goal_at assumptions q)
          (λ s h. disj2_achieves extra assumptions basis (nameless [] p) q s parts.0 h);
    })

pub discharge_leaves : (p : Named) → LeavesConsequent (nameless [] p) (one (Discharge p))
discharge_leaves p extra assumptions q =
    one_valid always extra (Discharge p) (goal_at assumptions (implication (nameless [] p) q)) (goal_at (nameless [] p ∷ assumptions) q ∷ [])
    (λ basis suit typed.
    let parts = operands_typed basis (codes "==>") (nameless [] p) q bool_type typed.conclusion in
    record {
      typed = (record { assumptions = (parts.0, typed.assumptions); conclusion = parts.1 }, tt);
      fits = tt;
      justifies = by_one extra (goal_at assumptions (implication (nameless [] p) q)) (disch_of basis (nameless [] p)) (goal_at (nameless [] p ∷ assumptions) q)
          (λ s h. disch_achieves extra assumptions basis (nameless [] p) q s parts.0 h);
    })

pub negation_unfolds : UnfoldsNegation (one Negation)
negation_unfolds extra assumptions p =
    one_valid always extra Negation (goal_at assumptions (negation p)) (goal_at assumptions (implication p falsity) ∷ [])
    (λ basis suit typed.
    let denied = parts_at basis bool_type bool_type bool_type (fixed (codes "~") negation_type) p refl typed.conclusion in
    record {
      typed = (record { assumptions = typed.assumptions; conclusion = implication_typed basis p falsity denied.1 refl }, tt);
      fits = tt;
      justifies = by_one extra (goal_at assumptions (negation p)) not_intro_of (goal_at assumptions (implication p falsity)) (not_intro_achieves extra assumptions p);
    })

pub undischarge_takes_out : TakesOut (one Undischarge)
undischarge_takes_out extra newer older p q =
    one_valid always extra Undischarge (goal_at (newer ++ (p ∷ older)) q) (goal_at (newer ++ older) (implication p q) ∷ [])
    (λ basis suit typed.
    let rest = all_right (λ t. HasType basis t bool_type) newer (p ∷ older) typed.assumptions in
    record {
      typed = (
        record {
          assumptions = all_both (λ t. HasType basis t bool_type) newer older (all_left (λ t. HasType basis t bool_type) newer (p ∷ older) typed.assumptions) rest.1;
          conclusion = implication_typed basis p q rest.0 typed.conclusion;
        },
        tt,
      );
      fits = tt;
      justifies = by_one extra (goal_at (newer ++ (p ∷ older)) q) undisch_of (goal_at (newer ++ older) (implication p q)) (undisch_achieves extra newer older p q);
    })

pub modus_ponens_splits : SplitsByImplication (one ModusPonens)
modus_ponens_splits extra assumptions p q =
    one_valid (holds_formula p) extra ModusPonens (goal_at assumptions q) (goal_at assumptions (implication p q) ∷ goal_at assumptions p ∷ [])
    (λ basis suit typed.
    let formula = has_type_is basis p bool_type suit in
    record {
      typed = (
        record { assumptions = typed.assumptions; conclusion = implication_typed basis p q formula typed.conclusion },
        (record { assumptions = typed.assumptions; conclusion = formula }, tt),
      );
      fits = tt;
      justifies = by_two extra (goal_at assumptions q) mp_of (goal_at assumptions (implication p q)) (goal_at assumptions p) (mp_achieves extra assumptions p q);
    })

pub contradiction_leaves : (p : Named) → LeavesFalsity (nameless [] p) (one (Contradiction p))
contradiction_leaves p extra assumptions =
    one_valid always extra (Contradiction p) (goal_at assumptions (nameless [] p)) (goal_at assumptions falsity ∷ [])
    (λ basis suit typed. record {
      typed = (record { assumptions = typed.assumptions; conclusion = refl }, tt);
      fits = tt;
      justifies = by_one extra (goal_at assumptions (nameless [] p)) (contr_of basis (nameless [] p)) (goal_at assumptions falsity)
          (λ s h. contr_achieves extra assumptions basis (nameless [] p) s typed.conclusion h);
    })
