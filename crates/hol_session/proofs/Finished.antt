-- What the report on a `qed` tells.
use Rattle.std.proofs.Common.{◌≡◌, ℕ, List, [], ◌∷◌, ◌++◌, map, Bool, true, false, cond, nat_eq, sym, ◌∙◌, ap, subst}
use Rattle.std.specs.Prelude.{codes, Option, Some, None}
use Rattle.std.proofs.lemmas.Option.{same_Some}
use Rattle.hol_terms.specs.Nameless.{Nameless}
use Rattle.hol_theory.specs.Key.{KeyValue}
use Rattle.hol_notation_commands.specs.Text.{Local, Qed}
use Rattle.hol_notation_reader.specs.Reading.{Reads}
use Rattle.hol_exec.specs.declared.reports.refusal.RefusalKind.TheVariants as refusal
use Rattle.hol_exec.specs.At.{IsOutcome}
use Rattle.hol_exec.specs.Local.{LocalValue, finished, finishes}
use Rattle.hol_exec.specs.OutcomeValue.{OutcomeValue, Refuses, after}
use Rattle.hol_exec.specs.ReadsValue.{ReadsValue, ClosingValue}
use Rattle.hol_exec.specs.ReportOf.{theorem_text, report_of}
use Rattle.hol_exec.specs.ReportValue.{ReportValue, ShowsGoals, HasMade, WasRefused}
use Rattle.hol_exec.specs.Setup.{SetupValue}
use Rattle.hol_exec.specs.StateValue.{StateValue, EndedTheory}
use Rattle.hol_exec.specs.Tested.{TestedValue}
use Rattle.hol_document.specs.Documents.{Documents}
use Rattle.hol_document.specs.Afresh.{Row, ended}
use Rattle.hol_document.specs.Shown.{open_goal, MakesFinished, FinishesBy, IsProvedReport}

-- the texts tell the goal that is open after the rows
abbrev TellGoal : List Row → List (List ℕ) → Type 0
TellGoal rows texts =
    (name : List ℕ) × (statement : Nameless) × (open_goal None rows ≡ Some (name, statement)) × (texts ≡ (codes "thm " ++ name ++ codes " " ++ theorem_text statement) ∷ [])

abbrev made_texts : ReportValue → Option (List (List ℕ))
made_texts (ShowsGoals goals) = None
made_texts (HasMade texts) = Some texts
made_texts (WasRefused kind arg) = None

-- a `qed` makes one theorem, or is refused
closed_tells : (rows : List Row) (o : OutcomeValue) (s : StateValue) (texts : List (List ℕ)) (closing : Option ClosingValue) → o ≡ finishes closing → MakesFinished rows o
    → report_of o s ≡ HasMade texts → TellGoal rows texts
closed_tells rows o s texts None e h is = (let f : None ≡ Some texts = ap (λ o. made_texts (report_of o s)) (sym e) ∙ ap made_texts is in absurd (cc))
closed_tells rows o s texts (Some c) e h is = by (nat_eq c.open_goals 0) e
  where
    by : (b : Bool) → o ≡ cond b (finished c) (Refuses refusal.GoalsRemain []) → TellGoal rows texts
    by true e =
        let one : MakesFinished rows (finished c) = subst (MakesFinished rows) e h in
        let own : c.name ≡ one.0.name = ap (λ (k : KeyValue). k.name) one.0.under in
        let told : (codes "thm " ++ c.name ++ codes " " ++ theorem_text c.statement) ∷ [] ≡ texts = same_Some _ texts (ap (λ o. made_texts (report_of o s)) (sym e) ∙ ap made_texts is) in
        (c.name, c.statement, one.0.goal ∙ ap (λ n. Some (n, c.statement)) (sym own), sym told)
    by false e = (let f : None ≡ Some texts = ap (λ o. made_texts (report_of o s)) (sym e) ∙ ap made_texts is in absurd (cc))

qed_tells : (setup : SetupValue) (earlier : List EndedTheory) (rows : List Row) (s t : StateValue) (o : OutcomeValue) (tested : TestedValue) (texts : List (List ℕ)) (reads : Option ReadsValue)
    → IsOutcome setup earlier s (Reads (Local Qed)) reads tested o → MakesFinished rows o → report_of o t ≡ HasMade texts → TellGoal rows texts
qed_tells setup earlier rows s t o tested texts None h made is = absurd h
qed_tells setup earlier rows s t o tested texts (Some reads) h made is = closed_tells rows o t texts reads.closing (ap (λ (l : LocalValue). l.outcome) h) made is

pub goals_told : (docs : Documents) (i at : ℕ) (report : ReportValue) (proved : IsProvedReport docs i at report) (texts : List (List ℕ)) → proved.is.row.value ≡ Reads (Local Qed)
    → report ≡ HasMade texts → TellGoal proved.is.rows texts
goals_told docs i at report proved texts qed is =
    let row : Row = proved.is.row in
    qed_tells docs.setup (map ended proved.is.before) proved.is.rows proved.is.state (after proved.is.state row.outcome) row.outcome row.tested texts row.reads
    (subst (λ v. IsOutcome docs.setup (map ended proved.is.before) proved.is.state v row.reads row.tested row.outcome) qed proved.is.here.gets)
    (subst (λ v. FinishesBy proved.is.rows v row.outcome) qed proved.finished)
    (sym proved.is.says ∙ is)
