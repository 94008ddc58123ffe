-- An outcome depends on the names of constants by those that were tested for it.
use Rattle.std.specs.Prelude.{◌≡◌, ◌&&◌, ℕ, Bool, true, false, List, [], ◌∷◌, Option, Some, None, refl}
use Rattle.std.specs.Bool.{beq}
use Rattle.std.specs.List.{list_all}
use Rattle.std.proofs.Common.{ap, sym, ◌∙◌, subst}
use Rattle.std.proofs.lemmas.Bool.{and_parts}
use Rattle.hol_kernel.specs.Items.{Items}
use Rattle.hol_goal.specs.Goal.{GoalValue}
use Rattle.hol_goal.specs.Answer.{starting}
use Rattle.hol_goal.specs.Names.{stands, AgreeOn}
use Rattle.hol_combine.specs.ExprValue.{ExprValue}
use Rattle.hol_combine.specs.Runs.{RunValue, run}
use Rattle.hol_combine.specs.Runs as runs
use Rattle.hol_combine.specs.Agreeing.{known, tested_of}
use Rattle.hol_combine.proofs.Agreement.{needs_tested}
use Rattle.hol_notation_commands.specs.Text.{LocalText, Goal, Apply, Qed, DefineTac, Make}
use Rattle.hol_notation_tactics.specs.Text.{TacText}
use Rattle.hol_exec.specs.Setup.{SetupValue}
use Rattle.hol_exec.specs.ReadsValue.{ReadsValue}
use Rattle.hol_exec.specs.Expr.{ResolutionValue, Resolved, Unresolved}
use Rattle.hol_exec.specs.Tested.{TestedValue, marked, is_marked}
use Rattle.hol_exec.specs.Local.{LocalValue, untested, run_outcome, applied, resolved_outcome, IsApplying, IsLocalOutcome}

same_bool : (a b : Bool) → beq a b ≡ true → a ≡ b
same_bool true true e = refl
same_bool true false e = sym e
same_bool false true e = e
same_bool false false e = refl

module _ (names more : List (List ℕ)) where
  -- where all are marked rightly, the names agree on them
  agree_of : (tested : List (List ℕ)) → list_all (is_marked more) (marked names tested) ≡ true → AgreeOn names more tested
  agree_of [] h = tt
  agree_of (a ∷ tested) h =
      let p = and_parts (beq (stands more a) (stands names a)) (list_all (is_marked more) (marked names tested)) h in
      (same_bool (stands more a) (stands names a) p.0, agree_of tested p.1)

  same_marks : (tested : List (List ℕ)) → AgreeOn names more tested → marked more tested ≡ marked names tested
  same_marks [] h = refl
  same_marks (a ∷ tested) h = λ i. (a, h.0 i) ∷ same_marks tested h.1 i

  same_run : (goal : GoalValue) (basis : Items) (r : RunValue) → AgreeOn names more (tested_of r) → run_outcome more goal basis r ≡ run_outcome names goal basis r
  same_run goal basis (runs.Leaves goals used) h = λ i. record { outcome = (run_outcome names goal basis (runs.Leaves goals used)).outcome; tested = same_marks used.tested h i }
  same_run goal basis (runs.Refuses why used) h = λ i. record { outcome = (run_outcome names goal basis (runs.Refuses why used)).outcome; tested = same_marks used.tested h i }
  same_run goal basis (runs.Stops why tested) h = λ i. record { outcome = (run_outcome names goal basis (runs.Stops why tested)).outcome; tested = same_marks tested h i }

  -- what a run tested is marked
  run_marked : (goal : GoalValue) (basis : Items) (r : RunValue) → (run_outcome names goal basis r).tested ≡ marked names (tested_of r)
  run_marked goal basis (runs.Leaves goals used) = refl
  run_marked goal basis (runs.Refuses why used) = refl
  run_marked goal basis (runs.Stops why tested) = refl

  applied_needs : (setup : SetupValue) (o : Option GoalValue) (x : ExprValue) (basis : Items) → list_all (is_marked more) (applied setup names o x basis).tested ≡ true → applied setup names o x basis ≡ applied setup more o x basis
  applied_needs setup None x basis h = refl
  applied_needs setup (Some goal) x basis h =
      let r : RunValue = run (known setup.table names) x goal (starting setup.turns) in
      let agree : AgreeOn names more (tested_of (run (known setup.table names) x goal (starting setup.turns))) =
      agree_of (tested_of r) (subst (λ (t : TestedValue). list_all (is_marked more) t ≡ true) (run_marked goal basis r) h) in
      sym (same_run goal basis r agree) ∙ ap (run_outcome more goal basis) (sym (needs_tested setup.table names more x goal setup.turns agree))

  resolved_needs : (setup : SetupValue) (o : Option GoalValue) (r : ResolutionValue) → list_all (is_marked more) (resolved_outcome setup names o r).tested ≡ true → resolved_outcome setup names o r ≡ resolved_outcome setup more o r
  resolved_needs setup o (Resolved x basis readings) h = applied_needs setup o x basis h
  resolved_needs setup o (Unresolved kind arg) h = refl

  applying_needs : (in_proof : Bool) (setup : SetupValue) (tactic : TacText) (reads : ReadsValue) (given : LocalValue) → IsApplying in_proof setup names tactic reads given → list_all (is_marked more) given.tested ≡ true →
      IsApplying in_proof setup more tactic reads given
  applying_needs false setup tactic reads given h all = h
  applying_needs true setup tactic reads given h all =
      (h.0, h.1, h.2 ∙ resolved_needs setup reads.goal h.0 (subst (λ (l : LocalValue). list_all (is_marked more) l.tested ≡ true) h.2 all))

-- what was tested is marked as constants have it
own_marks : (names : List (List ℕ)) (tested : List (List ℕ)) → list_all (is_marked names) (marked names tested) ≡ true
own_marks names [] = refl
own_marks names (a ∷ tested) = λ i. same_itself (stands names a) i && own_marks names tested i
  where
    same_itself : (b : Bool) → beq b b ≡ true
    same_itself true = refl
    same_itself false = refl

run_told : (names : List (List ℕ)) (goal : GoalValue) (basis : Items) (r : RunValue) → list_all (is_marked names) (run_outcome names goal basis r).tested ≡ true
run_told names goal basis (runs.Leaves goals used) = own_marks names used.tested
run_told names goal basis (runs.Refuses why used) = own_marks names used.tested
run_told names goal basis (runs.Stops why tested) = own_marks names tested

applied_told : (setup : SetupValue) (names : List (List ℕ)) (o : Option GoalValue) (x : ExprValue) (basis : Items) → list_all (is_marked names) (applied setup names o x basis).tested ≡ true
applied_told setup names None x basis = refl
applied_told setup names (Some goal) x basis = run_told names goal basis (run (known setup.table names) x goal (starting setup.turns))

resolved_told : (setup : SetupValue) (names : List (List ℕ)) (o : Option GoalValue) (r : ResolutionValue) → list_all (is_marked names) (resolved_outcome setup names o r).tested ≡ true
resolved_told setup names o (Resolved x basis readings) = applied_told setup names o x basis
resolved_told setup names o (Unresolved kind arg) = refl

applying_told : (in_proof : Bool) (setup : SetupValue) (names : List (List ℕ)) (tactic : TacText) (reads : ReadsValue) (given : LocalValue) → IsApplying in_proof setup names tactic reads given → list_all (is_marked names) given.tested ≡ true
applying_told false setup names tactic reads given h = ap (λ (l : LocalValue). list_all (is_marked names) l.tested) h
applying_told true setup names tactic reads given h = ap (λ (l : LocalValue). list_all (is_marked names) l.tested) h.2 ∙ resolved_told setup names reads.goal h.0

pub local_told : (setup : SetupValue) (names : List (List ℕ)) (command : LocalText) (reads : ReadsValue) (given : LocalValue) → IsLocalOutcome setup names command reads given → list_all (is_marked names) given.tested ≡ true
local_told setup names (Goal name quotation) reads given h = ap (list_all (is_marked names)) h.1
local_told setup names (Apply tactic) reads given h = applying_told reads.in_proof setup names tactic reads given h
local_told setup names Qed reads given h = ap (λ (l : LocalValue). list_all (is_marked names) l.tested) h
local_told setup names (DefineTac name tactic) reads given h = ap (list_all (is_marked names)) h.1
local_told setup names (Make making) reads given h = ap (list_all (is_marked names)) h.1

pub local_needs : (setup : SetupValue) (names more : List (List ℕ)) (command : LocalText) (reads : ReadsValue) (given : LocalValue) → IsLocalOutcome setup names command reads given → list_all (is_marked more) given.tested ≡ true →
    IsLocalOutcome setup more command reads given
local_needs setup names more (Goal name quotation) reads given h all = h
local_needs setup names more (Apply tactic) reads given h all = applying_needs names more reads.in_proof setup tactic reads given h all
local_needs setup names more Qed reads given h all = h
local_needs setup names more (DefineTac name tactic) reads given h all = h
local_needs setup names more (Make making) reads given h all = h
