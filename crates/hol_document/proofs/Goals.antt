-- What a `qed` makes is the goal of the last `g` that was accepted before it.
use Rattle.std.proofs.Common.{◌≡◌, ℕ, List, [], ◌∷◌, ◌++◌, length, Bool, true, false, cond, nat_eq, refl, ap, sym, ◌∙◌}
use Rattle.std.specs.Prelude.{Option, Some, None}
use Rattle.hol_terms.specs.Nameless.{Nameless}
use Rattle.hol_kernel.specs.Items.{Items}
use Rattle.hol_exec.specs.declared.reports.refusal.RefusalKind.TheVariants as refusal
use Rattle.hol_exec.specs.Tested.{TestedValue}
use Rattle.hol_exec.specs.Local.{LocalValue}
use Rattle.hol_exec.specs.At.{IsOutcome}
use Rattle.hol_goal.specs.Goal.{GoalValue}
use Rattle.hol_stack.specs.StackValue.{StepValue}
use Rattle.hol_exec.specs.Local.{finished, finishes}
use Rattle.hol_exec.specs.OutcomeValue.{OutcomeValue, Opens, Leaves, Undoes, Rotates, Makes, Refuses, stepped_in, without_newest, undone_in, rotated_in, after}
use Rattle.hol_exec.specs.Reading.{ReadText, Reads, Breaks}
use Rattle.hol_exec.specs.CommandText.{Local, Direct, Goal, Apply, Qed, DefineTac, Make}
use Rattle.hol_exec.specs.ReadsValue.{ReadsValue, ClosingValue, closing_of, reads_of, AreReads}
use Rattle.hol_exec.specs.Setup.{SetupValue}
use Rattle.hol_exec.specs.StateValue.{ProofValue, StateValue, EndedTheory, start}
use Rattle.hol_document.specs.Afresh.{Row, IsRow, AreRows}
use Rattle.hol_document.specs.Shown.{goal_after, open_goal, MakesFinished, FinishesBy, EachFinishes}

-- the name and the statement of an open proof
abbrev goal_of : Option ProofValue → Option (List ℕ × Nameless)
goal_of None = None
goal_of (Some p) = Some (p.name, p.statement)

step_keeps_goal : (goals : List GoalValue) (basis : Items) (p : Option ProofValue) → goal_of (stepped_in goals basis p) ≡ goal_of p
step_keeps_goal goals basis None = refl
step_keeps_goal goals basis (Some p) = refl

undoing_keeps_goal : (p : Option ProofValue) → goal_of (undone_in p) ≡ goal_of p
undoing_keeps_goal None = refl
undoing_keeps_goal (Some p) = by p.earlier
  where
    by : (steps : List StepValue) → goal_of (Some (without_newest p steps)) ≡ goal_of (Some p)
    by [] = refl
    by (step ∷ steps) = refl

rotating_keeps_goal : (times : ℕ) (p : Option ProofValue) → goal_of (rotated_in times p) ≡ goal_of p
rotating_keeps_goal times None = refl
rotating_keeps_goal times (Some p) = refl

goal_next : (s : StateValue) (o : OutcomeValue) → goal_of (after s o).proof ≡ goal_after (goal_of s.proof) o
goal_next s (Opens name statement basis) = refl
goal_next s (Leaves goal goals basis) = step_keeps_goal goals basis s.proof
goal_next s Undoes = undoing_keeps_goal s.proof
goal_next s (Rotates times) = rotating_keeps_goal times s.proof
goal_next s (Makes entries) = refl
goal_next s (Refuses kind arg) = refl

open_goal_more : (goal : Option (List ℕ × Nameless)) (rows : List Row) (row : Row) → open_goal goal (rows ++ row ∷ []) ≡ goal_after (open_goal goal rows) row.outcome
open_goal_more goal [] row = refl
open_goal_more goal (r ∷ rows) row = open_goal_more (goal_after goal r.outcome) rows row

qed_finishes : (before : List Row) (p : Option ProofValue) → goal_of p ≡ open_goal None before → MakesFinished before (finishes (closing_of p))
qed_finishes before None k = tt
qed_finishes before (Some p) k =
    let c : ClosingValue = record { name = p.name; statement = p.statement; basis = p.newest.basis; open_goals = length p.newest.goals } in
    elim (nat_eq (length p.newest.goals) 0) as (λ (t : Bool). MakesFinished before (cond t (finished c) (Refuses refusal.GoalsRemain [])))
    [ true ↦ (record { name = p.name; under = refl; goal = sym k; without_hypotheses = refl }, tt) | false ↦ tt ]

row_finishes : (setup : SetupValue) (earlier : List EndedTheory) (before : List Row) (s : StateValue) (value : ReadText) (reads : Option ReadsValue) (tested : TestedValue) (outcome : OutcomeValue)
    → AreReads value s reads → IsOutcome setup earlier s value reads tested outcome → goal_of s.proof ≡ open_goal None before → FinishesBy before value outcome
row_finishes setup earlier before s (Reads (Local (Goal name quotation))) reads tested outcome are h k = tt
row_finishes setup earlier before s (Reads (Local (Apply call))) reads tested outcome are h k = tt
row_finishes setup earlier before s (Reads (Local Qed)) None tested outcome are h k = absurd h
row_finishes setup earlier before s (Reads (Local Qed)) (Some reads) tested outcome are h k =
    let same : reads ≡ reads_of Qed s = cc in
    let is : outcome ≡ finishes (closing_of s.proof) = ap (λ (l : LocalValue). l.outcome) (rw same at h) in
    rw is (qed_finishes before s.proof k)
row_finishes setup earlier before s (Reads (Local (DefineTac name tactic))) reads tested outcome are h k = tt
row_finishes setup earlier before s (Reads (Local (Make making))) reads tested outcome are h k = tt
row_finishes setup earlier before s (Reads (Direct command)) reads tested outcome are h k = tt
row_finishes setup earlier before s (Breaks place) reads tested outcome are h k = tt

-- the state that rows lead to has their open goal
leads_goal : (setup : SetupValue) (earlier : List EndedTheory) (goal : Option (List ℕ × Nameless)) (s : StateValue) (texts : List (List ℕ)) (rows : List Row) (last : StateValue)
    → AreRows setup earlier s texts rows last → goal_of s.proof ≡ goal → goal_of last.proof ≡ open_goal goal rows
leads_goal setup earlier goal s [] [] last h k = rw h k
leads_goal setup earlier goal s [] (row ∷ rows) last h k = absurd h
leads_goal setup earlier goal s (text ∷ texts) [] last h k = absurd h
leads_goal setup earlier goal s (text ∷ texts) (row ∷ rows) last h k =
    leads_goal setup earlier (goal_after goal row.outcome) (after s row.outcome) texts rows last h.1 (goal_next s row.outcome ∙ ap (λ g. goal_after g row.outcome) k)

-- what a `qed` makes after rows
pub next_finishes : (setup : SetupValue) (earlier : List EndedTheory) (texts : List (List ℕ)) (rows : List Row) (s : StateValue) (text : List ℕ) (row : Row)
    → AreRows setup earlier start texts rows s → IsRow setup earlier s text row → FinishesBy rows row.value row.outcome
next_finishes setup earlier texts rows s text row leads is =
    row_finishes setup earlier rows s row.value row.reads row.tested row.outcome is.read is.gets (leads_goal setup earlier None start texts rows s leads refl)

rows_finish : (setup : SetupValue) (earlier : List EndedTheory) (before : List Row) (s : StateValue) (texts : List (List ℕ)) (rows : List Row) (last : StateValue)
    → AreRows setup earlier s texts rows last → goal_of s.proof ≡ open_goal None before → EachFinishes before rows
rows_finish setup earlier before s [] [] last h k = tt
rows_finish setup earlier before s [] (row ∷ rows) last h k = absurd h
rows_finish setup earlier before s (text ∷ texts) [] last h k = absurd h
rows_finish setup earlier before s (text ∷ texts) (row ∷ rows) last h k = (
  row_finishes setup earlier before s row.value row.reads row.tested row.outcome h.0.read h.0.gets k,
  rows_finish setup earlier (before ++ row ∷ []) (after s row.outcome) texts rows last h.1
      (goal_next s row.outcome ∙ (ap (λ g. goal_after g row.outcome) k ∙ sym (open_goal_more None before row))),
)

pub finished_goals : (setup : SetupValue) (earlier : List EndedTheory) (texts : List (List ℕ)) (rows : List Row) (last : StateValue)
    → AreRows setup earlier start texts rows last → EachFinishes [] rows
finished_goals setup earlier texts rows last h = rows_finish setup earlier [] start texts rows last h refl
