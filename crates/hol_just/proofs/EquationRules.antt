-- Reasons by the kernel's rules are valid.
use Rattle.std.specs.Prelude.{◌≡◌, true, cond, List, [], ◌∷◌, Some, None, refl}
use Rattle.std.specs.FinSet as set
use Rattle.std.specs.Option.{option_map}
use Rattle.std.proofs.Common.{ap, ◌∙◌}
use Rattle.hol_types.specs.Tree.{TypeTree}
use Rattle.hol_types.specs.Fun.{fun_type}
use Rattle.hol_terms.specs.Named.{Named}
use Rattle.hol_terms.specs.Nameless.{Nameless, app, nameless}
use Rattle.hol_terms.specs.Alpha.{strip}
use Rattle.hol_formulas.specs.Equation.{bool_type, equation}
use Rattle.hol_formulas.proofs.EquationTypes.{type_eq_itself}
use Rattle.hol_kernel.specs.Items.{Items}
use Rattle.hol_kernel.specs.Sequent.{Hyps, only_hyp, Sequent, sequent_of}
use Rattle.hol_kernel.specs.Given as premise
use Rattle.hol_kernel.specs.Theorem.{over}
use Rattle.hol_kernel.specs.Rules.{refl_of, reflexive, mk_comb_of, comb_sides, deduct_antisym_of}
use Rattle.hol_kernel.proofs.Variables.{refl_typed}
use Rattle.hol_kernel.proofs.WellTyped.{sides_typed, equation_of}
use Rattle.hol_goal.specs.Achieves.{Achieves}
use Rattle.hol_just.specs.Reasons.{premise_of, antisymmetric}
use Rattle.hol_just.specs.Justifies.{goal_at, always, holds_given, ClosesEquation, ClosesByGiven, SplitsApplications, SplitsEquivalence}
use Rattle.hol_just.specs.declared.reason.Reason.TheVariants.{Reflexivity, Premise, Combination, Antisymmetry}
use Rattle.hol_just.proofs.Allowed.{allowed_none, allowed_union, allowed_less}
use Rattle.hol_just.proofs.Likeness.{like_equation}
use Rattle.hol_just.proofs.Typings.{parts_at}
use Rattle.hol_just.proofs.OneMove.{one, one_valid, IsAnswer, by_none, by_two, answer_by}

-- ---- reflexivity

pub reflexivity_closes : (s : Named) → ClosesEquation (nameless [] s) (one (Reflexivity s))
reflexivity_closes s extra assumptions a t same =
    one_valid always extra (Reflexivity s) (goal_at assumptions (equation a (nameless [] s) t)) []
    (λ basis suit typed. record {
      typed = tt;
      fits = tt;
      justifies = by_none extra (goal_at assumptions (equation a (nameless [] s) t)) (refl_of basis (nameless [] s))
          (answer_by extra (refl_of basis (nameless [] s)) (reflexive (nameless [] s) a) (goal_at assumptions (equation a (nameless [] s) t)) (refl_typed basis (nameless [] s) a (sides_typed basis a bool_type (nameless [] s) t typed.conclusion).0)
          (record { concludes = λ i. equation a (strip (nameless [] s)) (same i); allowed = allowed_none extra assumptions }));
    })

-- ---- premises

pub holds_premise : (basis : Items) (th : premise.Given) → holds_given th basis ≡ true → (premise_of basis th ≡ Some (premise.given_sequent th)) × premise.IsOver th basis
holds_premise basis (premise.proved th) h = (refl, h)
holds_premise basis (premise.assumed p) h = (ap (λ b. option_map (λ th. th.sequent) (over basis (cond b (Some (sequent_of (only_hyp p) p)) None))) h, tt)

pub premise_closes : (th : premise.Given) → ClosesByGiven th (one (Premise th))
premise_closes th extra goal same allowed =
    one_valid (holds_given th) extra (Premise th) goal []
    (λ basis suit typed.
    let h = holds_premise basis th suit in
    record {
      typed = tt;
      fits = h.1;
      justifies = by_none extra goal (premise_of basis th) (answer_by extra (premise_of basis th) (premise.given_sequent th) goal h.0 (record { concludes = same; allowed = allowed }));
    })

-- ---- combination

combined :
    (extra : Hyps) (assumptions : List Nameless) (a b : TypeTree) (f g x y : Nameless) (s t : Sequent) → Achieves extra s (goal_at assumptions (equation (fun_type a b) f g)) →
    Achieves extra t (goal_at assumptions (equation a x y)) → IsAnswer extra (mk_comb_of s t) (goal_at assumptions (equation b (app f x) (app g y)))
combined extra assumptions a b f g x y s t h k =
    let p = like_equation s.concl (fun_type a b) f g h.concludes in
    let q = like_equation t.concl a x y k.concludes in
    answer_by extra (mk_comb_of s t) (sequent_of (set.union s.hyps t.hyps) (equation b (app p.left q.left) (app p.right q.right))) (goal_at assumptions (equation b (app f x) (app g y)))
    ((λ i. comb_sides (set.union s.hyps t.hyps) (p.is i) (q.is i))
    ∙ ap (λ v. cond v (Some (sequent_of (set.union s.hyps t.hyps) (equation b (app p.left q.left) (app p.right q.right)))) None) (type_eq_itself a))
    (record {
      concludes = λ i. equation b (app (p.lefts i) (q.lefts i)) (app (p.rights i) (q.rights i));
      allowed = allowed_union extra assumptions s.hyps t.hyps h.allowed k.allowed;
    })

pub combination_splits : SplitsApplications (one Combination)
combination_splits extra assumptions a b f g x y ft gt =
    one_valid always extra Combination (goal_at assumptions (equation b (app f x) (app g y))) (goal_at assumptions (equation (fun_type a b) f g) ∷ goal_at assumptions (equation a x y) ∷ [])
    (λ basis suit typed.
    let sides = sides_typed basis b bool_type (app f x) (app g y) typed.conclusion in
    let l = parts_at basis a b b f x ft sides.0 in
    let r = parts_at basis a b b g y gt sides.1 in
    record {
      typed = (
        record { assumptions = typed.assumptions; conclusion = equation_of basis (fun_type a b) f g l.0 r.0 },
        (record { assumptions = typed.assumptions; conclusion = equation_of basis a x y l.1 r.1 }, tt),
      );
      fits = tt;
      justifies = by_two extra (goal_at assumptions (equation b (app f x) (app g y))) mk_comb_of (goal_at assumptions (equation (fun_type a b) f g)) (goal_at assumptions (equation a x y))
          (combined extra assumptions a b f g x y);
    })

-- ---- antisymmetry

equated :
    (extra : Hyps) (assumptions : List Nameless) (p q : Nameless) (s t : Sequent) → Achieves extra s (goal_at (p ∷ assumptions) q) → Achieves extra t (goal_at (q ∷ assumptions) p) →
    Achieves extra (deduct_antisym_of t s) (goal_at assumptions (equation bool_type p q))
equated extra assumptions p q s t h k =
    record {
      concludes = λ i. equation bool_type (k.concludes i) (h.concludes i);
      allowed =
          allowed_union extra assumptions (set.remove t.hyps (strip s.concl)) (set.remove s.hyps (strip t.concl))
          (allowed_less extra assumptions q s.concl t.hyps h.concludes k.allowed)
          (allowed_less extra assumptions p t.concl s.hyps k.concludes h.allowed);
    }

pub antisymmetry_splits : SplitsEquivalence (one Antisymmetry)
antisymmetry_splits extra assumptions p q =
    one_valid always extra Antisymmetry (goal_at assumptions (equation bool_type p q)) (goal_at (p ∷ assumptions) q ∷ goal_at (q ∷ assumptions) p ∷ [])
    (λ basis suit typed.
    let sides = sides_typed basis bool_type bool_type p q typed.conclusion in
    record {
      typed = (
        record { assumptions = (sides.0, typed.assumptions); conclusion = sides.1 },
        (record { assumptions = (sides.1, typed.assumptions); conclusion = sides.0 }, tt),
      );
      fits = tt;
      justifies = by_two extra (goal_at assumptions (equation bool_type p q)) antisymmetric (goal_at (p ∷ assumptions) q) (goal_at (q ∷ assumptions) p) (equated extra assumptions p q);
    })
