-- The report on a command: what it made, why it was refused, or all goals that are open after it.
use Rattle.std.specs.Prelude.{ℕ, List, ◌++◌, codes, decimal, map}
use Rattle.hol_terms.specs.Nameless.{Nameless}
use Rattle.hol_goal.specs.Goal.{GoalValue}
use Rattle.hol_theory.specs.Key.{KeyValue}
use Rattle.hol_theory.specs.Entry.{EntryValue, AType, AConstant, ATheorem, ATac}
use Rattle.hol_exec.specs.StateValue.{StateValue, open_goals}
use Rattle.hol_exec.specs.OutcomeValue.{OutcomeValue, Opens, Leaves, Undoes, Rotates, Makes, Refuses}
use Rattle.hol_exec.specs.ReportValue.{ReportValue, ShowsGoals, HasMade, WasRefused}
use Rattle.hol_print.specs.ShowTerm.{show}
use Rattle.hol_print.specs.ShowType.{show_type}
use Rattle.hol_print.specs.ShowGoal.{GoalText, show_goal}

-- a goal's texts
abbrev pub shown_goal : GoalValue → GoalText
shown_goal goal = show_goal goal.assumptions goal.conclusion

-- `|- p`
abbrev pub theorem_text : Nameless → List ℕ
theorem_text p = codes "|- " ++ show p

-- an entry as clients see it: `type N/k`, `const N:ty`, `thm N |- p` or `tac N`
abbrev pub entry_text_at : KeyValue → EntryValue → List ℕ
entry_text_at key (AType arity item basis) = codes "type " ++ key.name ++ codes "/" ++ decimal arity
entry_text_at key (AConstant ty item basis) = codes "const " ++ key.name ++ codes ":" ++ show_type ty
entry_text_at key (ATheorem th) = codes "thm " ++ key.name ++ codes " " ++ theorem_text th.sequent.concl
entry_text_at key (ATac e bases basis) = codes "tac " ++ key.name

abbrev pub entry_text : KeyValue × EntryValue → List ℕ
entry_text e = entry_text_at e.0 e.1

-- the report on an outcome, after which these goals are open
abbrev pub report_with : OutcomeValue → List GoalValue → ReportValue
report_with (Opens name statement basis) goals = ShowsGoals (map shown_goal goals)
report_with (Leaves goal left basis) goals = ShowsGoals (map shown_goal goals)
report_with Undoes goals = ShowsGoals (map shown_goal goals)
report_with (Rotates times) goals = ShowsGoals (map shown_goal goals)
report_with (Makes entries) goals = HasMade (map entry_text entries)
report_with (Refuses kind arg) goals = WasRefused kind arg

-- the same, `s` being the state after it
abbrev pub report_of : OutcomeValue → StateValue → ReportValue
report_of outcome s = report_with outcome (open_goals s.proof)
