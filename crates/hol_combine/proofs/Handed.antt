-- Theorems that are handed over: validity, used, and the tacticals by what they hand.
use Rattle.std.specs.Prelude.{◌≡◌, ◌≤◌, ◌<◌, ◌+◌, ℕ, zero, suc, true, IsTrue, codes, List, [], ◌∷◌, ◌++◌, map, length, Option, Some, None, Result, Ok, Err, IfOk, refl}
use Rattle.std.specs.FinSet as set
use Rattle.std.specs.FinSet.{contains-is_subset}
use Rattle.std.specs.Cmp.Derive.{both_true}
use Rattle.std.proofs.Common.{ap, sym, ◌∙◌, subst, arith, inl, inr, get_or, drop}
use Rattle.std.proofs.lemmas.Bool.{and_parts}
use Rattle.std.proofs.lemmas.List.{append-nil, drop_all, drop_more}
use Rattle.hol_terms.specs.Named.{Named}
use Rattle.hol_terms.specs.Nameless.{Nameless, nameless}
use Rattle.hol_formulas.specs.Equation.{bool_type}
use Rattle.hol_formulas.specs.Formula.{connective_type, negation_type, falsity, dest_imp, dest_neg}
use Rattle.hol_formulas.proofs.FormulaLaws.{dest_unary_is, dest_binary_is}
use Rattle.hol_kernel.specs.Items.{Items}
use Rattle.hol_kernel.specs.Sequent.{no_hyps, only_hyp}
use Rattle.hol_kernel.specs.Typing.{HasType}
use Rattle.hol_kernel.proofs.Declared.{has_type_of}
use Rattle.hol_kernel.proofs.HypothesisLists.{hyps_total, hyps_same, empty_in}
use Rattle.hol_kernel.proofs.Members.{Among, in_union_cases, in_union_left, in_union_right, not_in_empty}
use Rattle.hol_goal.specs.Goal.{GoalValue}
use Rattle.hol_goal.specs.Answer.{UsedValue}
use Rattle.hol_goal.specs.Achieves.{assumed, AreAllowed}
use Rattle.hol_just.specs.Answering.{suits, AreLeft, IsJustified}
use Rattle.hol_just.specs.Gives.{moved}
use Rattle.hol_just.specs.Justifies.{goal_at, always, holds_formula, LeavesConsequent, LeavesRefutation}
use Rattle.hol_just.specs.Leaving.{concluding, assuming}
use Rattle.hol_just.specs.Valid.{IsValid}
use Rattle.hol_just.specs.declared.reason.Move.{Move}
use Rattle.hol_just.specs.declared.tried.Step.{Step}
use Rattle.hol_just.proofs.Handed.{valid_from_assumption}
use Rattle.hol_just.proofs.Validity.{valid_at, valid_under}
use Rattle.hol_just.proofs.Weaker.{all_at, assumed_allowed}
use Rattle.hol_combine.specs.ExprValue.{TheoremTacValue, SubgoalThen}
use Rattle.hol_combine.specs.Runs.{KnownValue, RunValue, Refuses, DoesNotFit, otherwise, handed_args, handed, hand, first_assum}
use Rattle.hol_combine.specs.Suits.{written_args, suits_written, suits_expr}
use Rattle.hol_combine.specs.RunView.{IsValidRun}
use Rattle.hol_combine.specs.Going.{FollowsCut}
use Rattle.hol_combine.specs.declared.ran.Ran.{Ran}
use Rattle.hol_combine.specs.declared.ran.RunError.{RunError}

-- ---- what is asked of the basis

args_suit : (term : Option Nameless) (p : Nameless) (basis : Items) → suits (written_args term) basis ≡ true → HasType basis p bool_type → suits (handed_args term p) basis ≡ true
args_suit None p basis s h = has_type_of basis p bool_type h
args_suit (Some t) p basis s h = both_true s (has_type_of basis p bool_type h)

-- ---- hypotheses of the theorem

one_among : (p : Nameless) → set.is_subset (set.union no_hyps (only_hyp p)) (only_hyp p) ≡ true
one_among p =
    contains-is_subset hyps_total (set.union no_hyps (only_hyp p)) (only_hyp p)
    (λ q i. elim (in_union_cases hyps_total hyps_same no_hyps (only_hyp p) q i) [ inl j ↦ absurd (not_in_empty hyps_total hyps_same q j) | inr j ↦ j ])

one_allowed : (p : Nameless) (assumptions : List Nameless) → AreAllowed (set.union no_hyps (only_hyp p)) assumptions (only_hyp p)
one_allowed p assumptions q i =
    in_union_left hyps_total hyps_same (set.union no_hyps (only_hyp p)) (assumed assumptions) q (in_union_right hyps_total hyps_same no_hyps (only_hyp p) q i)

one_left : (term : Option Nameless) (p : Nameless) (goal : GoalValue) → AreLeft (set.union no_hyps (only_hyp p)) (handed_args term p) goal
one_left None p goal = record { among = one_among p; all = one_allowed p goal.assumptions }
one_left (Some t) p goal = record { among = one_among p; all = one_allowed p goal.assumptions }

none_left : (term : Option Nameless) (p : Nameless) (goal : GoalValue) → Among p goal.assumptions → AreLeft no_hyps (handed_args term p) goal
none_left None p goal here = record { among = empty_in (only_hyp p); all = assumed_allowed no_hyps goal.assumptions p here }
none_left (Some t) p goal here = record { among = empty_in (only_hyp p); all = assumed_allowed no_hyps goal.assumptions p here }

-- ---- validity

-- of what was handed an assumption that was taken out
pub valid_taken :
    (called : TheoremTacValue) (p : Nameless) (goal : GoalValue) (step : Step) → IsJustified (handed called p).args goal step →
    IsValid (suits_written called) no_hyps step.just (goal_at (p ∷ goal.assumptions) goal.conclusion ∷ []) step.goals.items
valid_taken called p goal step j basis suit typed =
    valid_from_assumption (suits (handed called p).args) no_hyps step.just goal.assumptions p goal.conclusion step.goals.items
    (j (set.union no_hyps (only_hyp p)) (one_left called.term p goal))
    basis (args_suit called.term p basis suit typed.0.assumptions.0) typed

-- of what was handed an assumption that stays
pub valid_staying :
    (called : TheoremTacValue) (p : Nameless) (goal : GoalValue) (step : Step) → Among p goal.assumptions → IsJustified (handed called p).args goal step →
    IsValid (suits_written called) no_hyps step.just (goal ∷ []) step.goals.items
valid_staying called p goal step here j basis suit typed =
    j no_hyps (none_left called.term p goal here)
    basis (args_suit called.term p basis suit (all_at (λ r. HasType basis r bool_type) goal.assumptions p here typed.0.assumptions)) typed

-- ---- DISCH_THEN

pub valid_after :
    (called : TheoremTacValue) (p : Nameless) (whole goal : GoalValue) (step : Step) (first all : List Move) → IsValid always no_hyps first (whole ∷ []) (assuming goal p goal.conclusion ∷ []) →
    IsJustified (handed called p).args goal step → all ≡ first ++ moved 0 step.just → IsValid (suits_written called) no_hyps all (whole ∷ []) step.goals.items
valid_after called p whole goal step first all v j is =
    subst (λ (moves : List Move). IsValid (suits_written called) no_hyps moves (whole ∷ []) step.goals.items) (sym is)
    (subst (λ (goals : List GoalValue). IsValid (suits_written called) no_hyps (first ++ moved 0 step.just) (whole ∷ []) goals) (append-nil step.goals.items)
    (valid_at (suits_written called) no_hyps first step.just (whole ∷ []) [] (assuming goal p goal.conclusion ∷ []) step.goals.items [] 0 refl
    (valid_under always (suits_written called) no_hyps first (whole ∷ []) (assuming goal p goal.conclusion ∷ []) (λ basis suit. refl) v)
    (valid_taken called p goal step j)))

pub after_valid :
    (called : TheoremTacValue) (p : Nameless) (whole goal : GoalValue) (old new : Ran) (first : List Move) → IsValid always no_hyps first (whole ∷ []) (assuming goal p goal.conclusion ∷ []) →
    IsJustified (handed called p).args goal old.step → new.step.goals.items ≡ old.step.goals.items → new.step.just ≡ first ++ moved 0 old.step.just → IsValidRun (suits_written called) (whole ∷ []) new
after_valid called p whole goal old new first v j goals just =
    subst (λ (gs : List GoalValue). IsValid (suits_written called) no_hyps new.step.just (whole ∷ []) gs) (sym goals)
    (valid_after called p whole goal old.step first new.step.just v j just)

-- from the goal that DISCH_THEN was given
pub disch_valid :
    (called : TheoremTacValue) (goal next : GoalValue) (p q : Nameless) (just : List Move) (result : Result Ran RunError) → next ≡ concluding goal q →
    IsValid always no_hyps just (goal ∷ []) (assuming (concluding goal q) p q ∷ []) →
    IfOk result (λ ran. (whole : GoalValue) → IsValid always no_hyps just (whole ∷ []) (assuming next p next.conclusion ∷ []) → IsValidRun (suits_written called) (whole ∷ []) ran) →
    IfOk result (IsValidRun (suits_written called) (goal ∷ []))
disch_valid called goal next p q just (Ok ran) same v h =
    h goal (subst (λ (g : GoalValue). IsValid always no_hyps just (goal ∷ []) (assuming g p g.conclusion ∷ [])) (sym same) v)
disch_valid called goal next p q just (Err e) same v h = tt

pub imp_leaves : (goal : GoalValue) (w p q : Nameless) (moves : List Move) → w ≡ goal.conclusion → dest_imp w ≡ Some (p, q) → LeavesConsequent p moves → IsValid always no_hyps moves (goal ∷ []) (assuming (concluding goal q) p q ∷ [])
imp_leaves goal w p q moves same is leaves =
    subst (λ (g : Nameless). IsValid always no_hyps moves (goal_at goal.assumptions g ∷ []) (assuming goal p q ∷ []))
    (sym (dest_binary_is (codes "==>") connective_type w (p, q) is) ∙ same)
    (leaves no_hyps goal.assumptions q)

pub neg_leaves : (goal : GoalValue) (w p : Nameless) (moves : List Move) → w ≡ goal.conclusion → dest_neg w ≡ Some p → LeavesRefutation p moves → IsValid always no_hyps moves (goal ∷ []) (assuming (concluding goal falsity) p falsity ∷ [])
neg_leaves goal w p moves same is leaves =
    subst (λ (g : Nameless). IsValid always no_hyps moves (goal_at goal.assumptions g ∷ []) (assuming goal p falsity ∷ []))
    (sym (dest_unary_is (codes "~") negation_type w p is) ∙ same)
    (leaves no_hyps goal.assumptions)

-- ---- POP_ASSUM

pub pop_valid :
    (called : TheoremTacValue) (goal : GoalValue) (terms older : List Named) (p : Named) (next : GoalValue) (result : Result Ran RunError) → terms ≡ p ∷ older → map (nameless []) terms ≡ goal.assumptions →
    next ≡ goal_at (map (nameless []) older) goal.conclusion → IfOk result (λ ran. IsJustified (handed called (nameless [] p)).args next ran.step) → IfOk result (IsValidRun (suits_written called) (goal ∷ []))
pop_valid called goal terms older p next (Ok ran) is same left j =
    subst (λ (ps : List Nameless). IsValid (suits_written called) no_hyps ran.step.just (goal_at ps goal.conclusion ∷ []) ran.step.goals.items) (ap (map (nameless [])) (sym is) ∙ same)
    (valid_taken called (nameless [] p) (goal_at (map (nameless []) older) goal.conclusion) ran.step (subst (λ (g : GoalValue). IsJustified (handed called (nameless [] p)).args g ran.step) left j))
pop_valid called goal terms older p next (Err e) is same left j = tt

-- ---- FIRST_ASSUM

pub among_at : (terms : List Named) (i : ℕ) (t : Named) → i < length terms → t ≡ get_or terms i t → Among (nameless [] t) (map (nameless []) terms)
among_at [] i t h e = absurd (omega (arith, h))
among_at (x ∷ terms) zero t h e = inl (ap (nameless []) e)
among_at (x ∷ terms) (suc i) t h e = inr (among_at terms i t (omega (arith, h)) e)

module _ (known : KnownValue) (called : TheoremTacValue) (goal : GoalValue) where
  first_at : (terms : List Named) (i : ℕ) (t : Named) (used : UsedValue) → i < length terms → t ≡ get_or terms i t →
      first_assum known called (map (nameless []) (drop i terms)) goal used ≡ otherwise (hand known called (nameless [] t) goal used) (first_assum known called (map (nameless []) (drop (i + 1) terms)) goal)
  first_at terms i t used h e =
      ap (λ (ts : List Named). first_assum known called (map (nameless []) ts) goal used) (drop_more terms i t h)
      ∙ ap (λ x. otherwise (hand known called (nameless [] x) goal used) (first_assum known called (map (nameless []) (drop (i + 1) terms)) goal)) (sym e)

  -- what is answered of an assumption, where those before it were refused
  pub first_answers : (whole answer : RunValue) (terms : List Named) (i : ℕ) (t : Named) (used : UsedValue) → i < length terms → t ≡ get_or terms i t → first_assum known called (map (nameless []) (drop i terms)) goal used ≡ whole →
      hand known called (nameless [] t) goal used ≡ answer → whole ≡ otherwise answer (first_assum known called (map (nameless []) (drop (i + 1) terms)) goal)
  first_answers whole answer terms i t used h e before is =
      sym before ∙ first_at terms i t used h e ∙ ap (λ a. otherwise a (first_assum known called (map (nameless []) (drop (i + 1) terms)) goal)) is

  -- where all were refused
  pub first_ends : (whole : RunValue) (terms : List Named) (i : ℕ) (used : UsedValue) → length terms ≤ i → first_assum known called (map (nameless []) (drop i terms)) goal used ≡ whole → whole ≡ Refuses (DoesNotFit (codes "FIRST_ASSUM")) used
  first_ends whole terms i used h before = sym before ∙ ap (λ (ts : List Named). first_assum known called (map (nameless []) ts) goal used) (drop_all i terms h)

-- ---- SUBGOAL_THEN

pub valid_subgoal :
    (p : Nameless) (called : TheoremTacValue) (goal : GoalValue) (step : Step) (all : List Move) (goals : List GoalValue) → IsJustified (handed called p).args goal step → FollowsCut step.just all →
    goals ≡ concluding goal p ∷ step.goals.items → IsValid (suits_expr (SubgoalThen p called)) no_hyps all (goal ∷ []) goals
valid_subgoal p called goal step all goals j (cutting, cuts, is) leaves =
    subst (λ (moves : List Move). IsValid (suits_expr (SubgoalThen p called)) no_hyps moves (goal ∷ []) goals) (sym is)
    (subst (λ (gs : List GoalValue). IsValid (suits_expr (SubgoalThen p called)) no_hyps (cutting ++ moved 1 step.just) (goal ∷ []) gs) (ap (λ (gs : List GoalValue). concluding goal p ∷ gs) (append-nil step.goals.items) ∙ sym leaves)
    (valid_at (suits_expr (SubgoalThen p called)) no_hyps cutting step.just (goal ∷ []) (concluding goal p ∷ []) (goal_at (p ∷ goal.assumptions) goal.conclusion ∷ []) step.goals.items [] 1 refl
    (valid_under (holds_formula p) (suits_expr (SubgoalThen p called)) no_hyps cutting (goal ∷ []) (concluding goal p ∷ goal_at (p ∷ goal.assumptions) goal.conclusion ∷ []) (λ basis suit. (parts basis suit).0) (cuts no_hyps goal.assumptions p goal.conclusion))
    (valid_under (suits_written called) (suits_expr (SubgoalThen p called)) no_hyps step.just (goal_at (p ∷ goal.assumptions) goal.conclusion ∷ []) step.goals.items (λ basis suit. (parts basis suit).1) (valid_taken called p goal step j))))
  where
    parts : (basis : Items) → IsTrue (suits_expr (SubgoalThen p called) basis) → (holds_formula p basis ≡ true) × (suits_written called basis ≡ true)
    parts basis suit = and_parts (holds_formula p basis) (suits_written called basis) suit
