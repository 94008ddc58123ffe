-- Taking an assumption out is justified.
use Rattle.std.specs.Prelude.{◌≡◌, Bool, true, false, cond, List, [], ◌∷◌, ◌++◌, Option, Some, None, refl}
use Rattle.std.specs.Option.{option_map}
use Rattle.std.proofs.Common.{sym, ◌∙◌, subst}
use Rattle.hol_terms.specs.Nameless.{Nameless}
use Rattle.hol_terms.specs.Alpha.{alpha_eq}
use Rattle.hol_formulas.specs.Formula.{implication}
use Rattle.hol_kernel.specs.Sequent.{no_hyps}
use Rattle.hol_goal.specs.Goal.{GoalValue}
use Rattle.hol_just.specs.ConnectiveTacs.{taken_out}
use Rattle.hol_just.specs.Valid.{IsValid}
use Rattle.hol_just.specs.Justifies.{goal_at, always, holds_term, TakesOut}
use Rattle.hol_just.specs.declared.reason.Move.{Move}
use Rattle.hol_just.proofs.Validity.{valid_under}

pub record IsSplit (ns : List Nameless) (p : Nameless) (rest : List Nameless) : Type 0 where
  pub newer : List Nameless
  pub older : List Nameless
  pub is : ns ≡ newer ++ (p ∷ older)
  pub rest_is : rest ≡ newer ++ older

taken_splits : (t : Nameless) (ns : List Nameless) (p : Nameless) (rest : List Nameless) → taken_out t ns ≡ Some (p, rest) → IsSplit ns p rest
taken_splits t [] p rest e = absurd cc
taken_splits t (n ∷ ns) p rest e = by (alpha_eq n t) (taken_out t ns) (λ q r h. taken_splits t ns q r h) e
  where
    by : (b : Bool) (o : Option (Nameless × List Nameless)) → ((q : Nameless) (r : List Nameless) → o ≡ Some (q, r) → IsSplit ns q r) → cond b (Some (n, ns)) (option_map {U = Nameless × List Nameless} (λ r. (r.0, n ∷ r.1)) o) ≡ Some (p, rest) → IsSplit (n ∷ ns) p rest
    by true o again h = let same : ◌≡◌ {A = Nameless × List Nameless} (n, ns) (p, rest) = cc in record { newer = []; older = ns; is = λ i. (same i).0 ∷ ns; rest_is = λ i. (sym same i).1 }
    by false (Some x) again h =
        let s = again x.0 x.1 refl in
        let same : ◌≡◌ {A = Nameless × List Nameless} (x.0, n ∷ x.1) (p, rest) = cc in
        record {
          newer = n ∷ s.newer;
          older = s.older;
          is = (λ i. n ∷ s.is i) ∙ (λ i. n ∷ (s.newer ++ ((same i).0 ∷ s.older)));
          rest_is = (λ i. (sym same i).1) ∙ (λ i. n ∷ s.rest_is i);
        }
    by false None again h = absurd cc

pub undisch_valid :
    (goal : GoalValue) (moves : List Move) (t p : Nameless) (terms rest : List Nameless) → terms ≡ goal.assumptions → taken_out t terms ≡ Some (p, rest) → TakesOut moves →
    IsValid (holds_term t) no_hyps moves (goal ∷ []) (goal_at rest (implication p goal.conclusion) ∷ [])
undisch_valid goal moves t p terms rest same taken takes =
    let s = taken_splits t terms p rest taken in
    let before : s.newer ++ (p ∷ s.older) ≡ goal.assumptions = sym s.is ∙ same in
    valid_under always (holds_term t) no_hyps moves (goal ∷ []) (goal_at rest (implication p goal.conclusion) ∷ []) (λ basis suit. refl)
    (subst (λ (ps : List Nameless). IsValid always no_hyps moves (goal_at ps goal.conclusion ∷ []) (goal_at rest (implication p goal.conclusion) ∷ [])) before
    (subst (λ (ps : List Nameless). IsValid always no_hyps moves (goal_at (s.newer ++ (p ∷ s.older)) goal.conclusion ∷ []) (goal_at ps (implication p goal.conclusion) ∷ [])) (sym s.rest_is)
    (takes no_hyps s.newer s.older p goal.conclusion)))
