-- Theorems on the way back: of a statement from one of it up to bound names, of goals before they were turned, and of the first goal.
use Rattle.std.specs.Prelude.{◌≡◌, ℕ, ◌≤◌, ◌-◌, List, [], ◌∷◌, ◌++◌, length, drop, take, reverse, Some}
use Rattle.std.proofs.Common.{ap, sym, ◌∙◌, subst, arith}
use Rattle.hol_types.specs.Tree.{TypeTree}
use Rattle.hol_terms.specs.Nameless.{Nameless}
use Rattle.hol_terms.specs.Alpha.{strip}
use Rattle.hol_formulas.specs.Equation.{bool_type}
use Rattle.hol_kernel.specs.Items.{Items}
use Rattle.hol_kernel.specs.Sequent.{no_hyps}
use Rattle.hol_kernel.specs.Theorem.{Theorem, theorem_on, theorem_over}
use Rattle.hol_kernel.specs.Rules.{reflexive, eq_mp_of}
use Rattle.hol_kernel.specs.Typing.{HasType}
use Rattle.hol_kernel.proofs.Subsets.{within_itself}
use Rattle.hol_kernel.proofs.HypothesisLists.{hyps_total, hyps_same}
use Rattle.hol_kernel.proofs.SortedSets.{union_none_left}
use Rattle.hol_equal.specs.Applied.{concluded}
use Rattle.hol_equal.proofs.Applies.{eq_mp_yes}
use Rattle.hol_goal.specs.Goal.{GoalValue}
use Rattle.hol_just.specs.Over.{AreOver, sequents}
use Rattle.hol_just.specs.Valid.{AchieveAll}
use Rattle.hol_stack.specs.StackValue.{StepValue}
use Rattle.hol_stack.specs.Sound.{IsChange, AchievesNext, AreSound}
use Rattle.hol_stack.specs.declared.element.Change.{Change}
use Rattle.hol_stack.specs.declared.element.Change.TheVariants.{Turned}
use Rattle.hol_stack.specs.declared.element.Earlier.{Earlier}
use Rattle.hol_stack.proofs.Histories.{IsBack, back_ends, goal_typed, goal_plain}
use Rattle.hol_stack.proofs.Achieving.{as_many, turned_back, no_hypotheses}

pub exact_applies : (same thm : Theorem) (basis : Items) (s : Nameless) (a : TypeTree) → same ≡ theorem_on basis (reflexive s a) → strip thm.sequent.concl ≡ strip s → eq_mp_of same.sequent thm.sequent ≡ Some (concluded same.sequent thm.sequent)
exact_applies same thm basis s a is alike =
    subst (λ (t : Theorem). eq_mp_of t.sequent thm.sequent ≡ Some (concluded t.sequent thm.sequent)) (sym is)
    (eq_mp_yes no_hyps thm.sequent.hyps a s s thm.sequent.concl (sym alike))

pub exact_is :
    (same thm th : Theorem) (basis : Items) (s : Nameless) (a : TypeTree) → same ≡ theorem_on basis (reflexive s a) → basis ≡ thm.basis → thm.sequent.hyps ≡ no_hyps →
    th ≡ theorem_on same.basis (concluded same.sequent thm.sequent) → th ≡ theorem_over thm.basis no_hyps s
exact_is same thm th basis s a is over free made =
    made
    ∙ ap (λ (t : Theorem). theorem_on t.basis (concluded t.sequent thm.sequent)) is
    ∙ (λ i. theorem_over (over i) ((union_none_left hyps_total hyps_same thm.sequent.hyps ∙ free) i) s)

-- ---- theorems turned back

turned_goals : (basis : Items) (change : Change) (n : ℕ) (before after : List GoalValue) → change ≡ Turned n → IsChange basis change before after → (n ≤ length before) × (after ≡ drop n before ++ take n before)
turned_goals basis change n before after is c = subst (λ (k : Change). IsChange basis k before after) is c

pub turn_within : (basis : Items) (one : Earlier) (n : ℕ) (thms : List Theorem) → AchievesNext basis one (sequents thms) → one.change ≡ Turned n → n ≤ length thms
turn_within basis one n thms a is =
    let t = turned_goals a.next.basis one.change n one.step.goals a.next.goals is a.follows.changed in
    let same : length thms ≡ length one.step.goals = as_many _ n one.step.goals thms (subst (AchieveAll _ (sequents thms)) t.1 a.achieved) in
    omega (arith, t.0, same)

pub turn_achieves :
    (basis : Items) (one : Earlier) (n count : ℕ) (thms out : List Theorem) → AchievesNext basis one (sequents thms) → one.change ≡ Turned n → count ≡ length thms →
    out ≡ drop (count - n) thms ++ take (count - n) thms → AchieveAll no_hyps (sequents out) one.step.goals
turn_achieves basis one n count thms out a is counts made =
    let t = turned_goals a.next.basis one.change n one.step.goals a.next.goals is a.follows.changed in
    turned_back no_hyps n one.step.goals thms out (subst (AchieveAll no_hyps (sequents thms)) t.1 a.achieved)
    (made ∙ ap (λ k. drop (k - n) thms ++ take (k - n) thms) counts)

-- ---- the one theorem left

pub record IsLast (basis : Items) (goal : GoalValue) (th : Theorem) : Type 0 where
  pub over : th.basis ≡ basis
  pub alike : strip th.sequent.concl ≡ strip goal.conclusion
  pub free : th.sequent.hyps ≡ no_hyps

last_is : (basis : Items) (goal : GoalValue) (thms rest : List Theorem) (th : Theorem) → goal.assumptions ≡ [] → AchieveAll no_hyps (sequents thms) (goal ∷ []) → AreOver basis thms → thms ≡ rest ++ (th ∷ []) → IsLast basis goal th
last_is basis goal thms rest th plain a over is =
    go rest (subst (λ ts. AchieveAll no_hyps (sequents ts) (goal ∷ [])) is a) (subst (AreOver basis) is over)
  where
    go : (rest : List Theorem) → AchieveAll no_hyps (sequents (rest ++ (th ∷ []))) (goal ∷ []) → AreOver basis (rest ++ (th ∷ [])) → IsLast basis goal th
    go [] a over = record { over = over.0; alike = a.0.concludes; free = no_hypotheses th.sequent goal plain a.0 }
    go (t ∷ []) a over = absurd a.1
    go (t ∷ u ∷ rest) a over = absurd a.1

-- What is left where every change was taken back.
pub last_left :
    (goal : GoalValue) (newest : StepValue) (earlier : List Earlier) (left : ℕ) (thms rest : List Theorem) (th : Theorem) → AreSound goal newest (reverse earlier) → left ≡ 0 →
    IsBack goal newest.basis (reverse (take left earlier)) (sequents thms) → AreOver newest.basis thms → thms ≡ rest ++ (th ∷ []) → IsLast newest.basis goal th
last_left goal newest earlier left thms rest th sound none back over is =
    last_is newest.basis goal thms rest th (goal_plain goal newest (reverse earlier) sound) (back_ends goal newest.basis earlier left (sequents thms) none back) over is

pub last_typed : (goal : GoalValue) (newest : StepValue) (earlier : List Earlier) (th : Theorem) → AreSound goal newest (reverse earlier) → IsLast newest.basis goal th → HasType th.basis goal.conclusion bool_type
last_typed goal newest earlier th sound last =
    subst (λ (b : Items). HasType b goal.conclusion bool_type) (sym last.over)
    (goal_typed goal newest (reverse earlier) newest.basis sound (within_itself newest.basis)).conclusion
