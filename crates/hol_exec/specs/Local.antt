-- The outcome of a command from what it reads, with its refusals in their order: of one number the whole command is tested, from left to
-- right, before the next one is; and what is resolved comes before what is run.
-- Source: this project; `g` and `e` are after HOL Light's tactics.ml. What makes types, constants, axioms and definitions is apart (Making), and what names
-- expressions (Naming).
use Rattle.std.specs.Prelude.{◌≡◌, ℕ, List, [], ◌∷◌, Bool, true, false, cond, decimal, nat_eq, Option, Some, None}
use Rattle.hol_terms.specs.Nameless.{Nameless, nameless_type}
use Rattle.hol_formulas.specs.Equation.{bool_type}
use Rattle.hol_kernel.specs.Items.{Items}
use Rattle.hol_kernel.specs.Sequent.{no_hyps}
use Rattle.hol_kernel.specs.Theorem.{theorem_over}
use Rattle.hol_kernel.specs.Typing.{is_type_at}
use Rattle.hol_notation_terms.specs.Text.{QuotationText}
use Rattle.hol_notation_tactics.specs.Text.{TacText}
use Rattle.hol_goal.specs.Goal.{GoalValue}
use Rattle.hol_goal.specs.Answer.{starting}
use Rattle.hol_combine.specs.ExprValue.{ExprValue}
use Rattle.hol_combine.specs.Runs.{RefusalValue, DoesNotFit, LacksHyps, StopValue, TurnLimit, LargeGoal, RunValue, run}
use Rattle.hol_combine.specs.Runs as runs
use Rattle.hol_combine.specs.Agreeing.{known}
use Rattle.hol_exec.specs.declared.reports.refusal.RefusalKind.TheVariants as refusal
use Rattle.hol_theory.specs.Key.{KeyValue, theorem_key, key_text}
use Rattle.hol_theory.specs.Entry.{ATheorem}
use Rattle.hol_exec.specs.Setup.{SetupValue}
use Rattle.hol_notation_commands.specs.Text.{LocalText, Goal, Apply, Qed, DefineTac, Make}
use Rattle.hol_exec.specs.ReadsValue.{ReadsValue, ClosingValue}
use Rattle.hol_exec.specs.Signature.{signature_of}
use Rattle.hol_exec.specs.Resolved.{resolved_basis}
use Rattle.hol_resolve.specs.Readings.{ATerm}
use Rattle.hol_resolve.specs.Reading.{ReadingValue, WrongArity, NoTyping, LargeReading, ReadsAs, IsTermReadAs}
use Rattle.hol_exec.specs.Standing.{first_taken}
use Rattle.hol_exec.specs.Expr.{ResolutionValue, Resolved, Unresolved, IsResolution}
use Rattle.hol_exec.specs.OutcomeValue.{OutcomeValue, Opens, Leaves, Makes, Refuses}
use Rattle.hol_exec.specs.Making.{IsMaking}
use Rattle.hol_exec.specs.Naming.{IsNaming}
use Rattle.hol_exec.specs.Tested.{TestedValue, marked}

-- an outcome, with the names that were tested for it
pub record LocalValue : Type 0 where
  pub outcome : OutcomeValue
  pub tested : TestedValue

abbrev pub untested : OutcomeValue → LocalValue
untested outcome = record { outcome = outcome; tested = [] }

-- with the names that were tested, where constants have these
abbrev pub given_by : List (List ℕ) → OutcomeValue → List (List ℕ) → LocalValue
given_by names outcome tested = record { outcome = outcome; tested = marked names tested }

-- ---- `g`: in a proof; arity; untypable; too large; not bool; name taken

abbrev pub opens : List ℕ → Nameless → Items → Option KeyValue → OutcomeValue
opens name statement basis None = Opens name statement basis
opens name statement basis (Some key) = Refuses refusal.NameTaken (key_text key)

-- a term that leaves its type open, as `x` does, is of another type than bool
abbrev pub opens_term : List ℕ → ℕ → ReadsValue → Nameless → OutcomeValue
opens_term name place reads p =
    cond (is_type_at (nameless_type [] p) bool_type) (opens name p (resolved_basis reads.cited ((place, ATerm p) ∷ [])) (first_taken [] reads.made)) (Refuses refusal.NotBool (decimal place))

abbrev pub opens_read : List ℕ → ℕ → ReadsValue → ReadingValue Nameless → OutcomeValue
opens_read name place reads WrongArity = Refuses refusal.Arity (decimal place)
opens_read name place reads NoTyping = Refuses refusal.Untypable (decimal place)
opens_read name place reads LargeReading = Refuses refusal.TooLarge []
opens_read name place reads (ReadsAs p) = opens_term name place reads p

-- it is in a proof, or the quotation has a reading, and the outcome is by that
abbrev pub IsOpening : Bool → List ℕ → QuotationText → ReadsValue → OutcomeValue → Type 0
IsOpening true name quotation reads outcome = outcome ≡ Refuses refusal.InProof []
IsOpening false name quotation reads outcome =
    (reading : ReadingValue Nameless) × IsTermReadAs (signature_of reads.cited) quotation.term reading × (outcome ≡ opens_read name quotation.place reads reading)

-- ---- `e`: no proof open; then what resolving refuses; no goal open; then the run

abbrev pub refused_outcome : RefusalValue → OutcomeValue
refused_outcome (DoesNotFit name) = Refuses refusal.Refused name
refused_outcome (LacksHyps name) = Refuses refusal.HypsNotAssumed name

abbrev pub stopped_outcome : StopValue → OutcomeValue
stopped_outcome TurnLimit = Refuses refusal.TurnLimit []
stopped_outcome LargeGoal = Refuses refusal.TooLarge []

abbrev pub run_outcome : List (List ℕ) → GoalValue → Items → RunValue → LocalValue
run_outcome names goal basis (runs.Leaves goals used) = given_by names (Leaves goal goals basis) used.tested
run_outcome names goal basis (runs.Refuses why used) = given_by names (refused_outcome why) used.tested
run_outcome names goal basis (runs.Stops why tested) = given_by names (stopped_outcome why) tested

-- a command's run starts with all of its turns
abbrev pub applied : SetupValue → List (List ℕ) → Option GoalValue → ExprValue → Items → LocalValue
applied setup names None expr basis = untested (Refuses refusal.NoGoalOpen [])
applied setup names (Some goal) expr basis = run_outcome names goal basis (run (known setup.table names) expr goal (starting setup.turns))

abbrev pub resolved_outcome : SetupValue → List (List ℕ) → Option GoalValue → ResolutionValue → LocalValue
resolved_outcome setup names goal (Resolved expr basis readings) = applied setup names goal expr basis
resolved_outcome setup names goal (Unresolved kind arg) = untested (Refuses kind arg)

-- no proof is open, or what is written resolves to something, and the outcome is by that
abbrev pub IsApplying : Bool → SetupValue → List (List ℕ) → TacText → ReadsValue → LocalValue → Type 0
IsApplying false setup names tactic reads given = given ≡ untested (Refuses refusal.NoProofOpen [])
IsApplying true setup names tactic reads given =
    (resolution : ResolutionValue) × IsResolution setup None None tactic reads.cited resolution × (given ≡ resolved_outcome setup names reads.goal resolution)

-- ---- `qed`: no proof open; goals remain

-- the theorem is the statement of the `g`, without hypotheses, on the proof's basis
abbrev pub finished : ClosingValue → OutcomeValue
finished c = Makes ((theorem_key c.name, ATheorem (theorem_over c.basis no_hyps c.statement)) ∷ [])

abbrev pub finishes : Option ClosingValue → OutcomeValue
finishes None = Refuses refusal.NoProofOpen []
finishes (Some c) = cond (nat_eq c.open_goals 0) (finished c) (Refuses refusal.GoalsRemain [])

-- ---- the outcome of a command from what it reads, where constants have these names

abbrev pub IsLocalOutcome : SetupValue → List (List ℕ) → LocalText → ReadsValue → LocalValue → Type 0
IsLocalOutcome setup names (Goal name quotation) reads given = IsOpening reads.in_proof name quotation reads given.outcome × (given.tested ≡ [])
IsLocalOutcome setup names (Apply tactic) reads given = IsApplying reads.in_proof setup names tactic reads given
IsLocalOutcome setup names Qed reads given = given ≡ untested (finishes reads.closing)
IsLocalOutcome setup names (DefineTac name tactic) reads given = IsNaming reads.in_proof setup name tactic reads given.outcome × (given.tested ≡ [])
IsLocalOutcome setup names (Make making) reads given = IsMaking reads.in_proof making reads given.outcome × (given.tested ≡ [])
