-- Where theorems come from, row by row.
use Rattle.std.proofs.Common.{◌≡◌, ◌⊎◌, ℕ, List, [], ◌∷◌, ◌++◌, map, Bool, true, false, cond, nat_lt, refl, sym, ◌∙◌, ap, subst, append_assoc, arith, inl, inr}
use Rattle.std.proofs.lemmas.Grind.{common_steps}
use Rattle.std.proofs.lemmas.Option.{same_Some}
use Rattle.std.specs.Prelude.{bytes_eq, is_none, is_some, Option, Some, None}
use Rattle.std.specs.List.{All, Contains}
use Rattle.std.proofs.lemmas.List.Elements.{All-nil, All-cons, All-append, All-weaker, All-filter, All-contains, All-contains_itself}
use Rattle.std.proofs.lemmas.Slice.Eq.{bytes_eq-Decides}
use Rattle.hol_terms.specs.Nameless.{Nameless, nameless_type}
use Rattle.hol_kernel.specs.Theorem.{Theorem}
use Rattle.hol_types.specs.Tree.{TypeTree}
use Rattle.hol_kernel.specs.Items.{Items, no_items}
use Rattle.hol_goal.specs.Goal.{GoalValue}
use Rattle.hol_stack.specs.StackValue.{StepValue}
use Rattle.hol_combine.specs.Runs.{DoesNotFit, LacksHyps, TurnLimit, LargeGoal, RunValue, run}
use Rattle.hol_combine.specs.Runs as runs
use Rattle.hol_combine.specs.Agreeing.{known}
use Rattle.hol_combine.specs.ExprSize.{expr_size}
use Rattle.hol_goal.specs.Answer.{starting}
use Rattle.hol_formulas.specs.Equation.{bool_type}
use Rattle.hol_kernel.specs.Typing.{is_type_at}
use Rattle.hol_notation_tactics.specs.Text.{TacText}
use Rattle.hol_notation_terms.specs.Text.{QuotationText}
use Rattle.hol_notation_commands.specs.Text.{MakingText, NewType, NewConstant, NewAxiom, NewDefinition, NewBasicTypeDefinition, Local, Direct, Goal, Apply, Qed, DefineTac, Make, Back, Rotate, Oops, Import}
use Rattle.hol_notation_reader.specs.Reading.{ReadText, Reads, Breaks}
use Rattle.hol_resolve.specs.Reading.{ReadingValue, WrongArity, NoTyping, LargeReading, ReadsAs, type_reading}
use Rattle.hol_theory.specs.Key.{KeyValue}
use Rattle.hol_theory.specs.Adding.{missing, first_clash}
use Rattle.hol_theory.specs.Constants.{constant_names}
use Rattle.hol_theory.specs.Entry.{EntryValue, AType, AConstant, ATheorem, ATac, Entries, entry_at}
use Rattle.hol_theory.specs.Making.{IsNewType, IsNewConstant}
use Rattle.hol_exec.specs.declared.reports.refusal.RefusalKind.TheVariants as refusal
use Rattle.hol_exec.specs.At.{undoes_to, undoes, rotates_goals, rotates, drops, imports_theory, imports_from, entries_named, direct, IsOutcome}
use Rattle.hol_exec.specs.Expr.{ResolutionValue, Resolved, Unresolved}
use Rattle.hol_exec.specs.Local.{LocalValue, IsOpening, IsApplying, opens, opens_read, run_outcome, resolved_outcome}
use Rattle.hol_exec.specs.Making.{UnlessTaken, MakesOne, MakesConstantOf, IsMaking, taken, constant_basis}
use Rattle.hol_exec.specs.Naming.{names_resolved, IsNaming}
use Rattle.hol_exec.specs.OutcomeValue.{OutcomeValue, Opens, Leaves, Undoes, Rotates, Makes, Refuses, after}
use Rattle.hol_exec.specs.ReadsValue.{ReadsValue}
use Rattle.hol_exec.specs.Setup.{SetupValue}
use Rattle.hol_exec.specs.StateValue.{ProofValue, StateValue, EndedTheory, start}
use Rattle.hol_exec.specs.Signature.{signature_of}
use Rattle.hol_document.specs.Documents.{Documents, TheoryText}
use Rattle.hol_document.specs.Afresh.{Row, AreRows, TheoryRun, AreRuns, AreRunsOf, ended}
use Rattle.hol_document.specs.Shown.{IsMadeIn}
use Rattle.hol_document.proofs.Made.{made_more}
use Rattle.hol_session.specs.Origins.{StatesTheorem, MakesTheorem, ComesFrom, by_command, by_import, HasOrigin}

-- ---- what an outcome makes

abbrev made_by : OutcomeValue → Option Entries
made_by (Opens name statement basis) = None
made_by (Leaves goal goals basis) = None
made_by Undoes = None
made_by (Rotates times) = None
made_by (Makes entries) = Some entries
made_by (Refuses kind arg) = None

-- an outcome that makes nothing isn't one that makes these
makes_none : (P : Type 0) (o : OutcomeValue) (entries : Entries) → made_by o ≡ None → o ≡ Makes entries → P
makes_none P o entries none is = (let e : None ≡ Some entries = sym none ∙ ap made_by is in absurd (cc))

-- ---- no theorem

-- the entry is no theorem
abbrev IsNoTheorem : KeyValue × EntryValue → Type 0
IsNoTheorem (key, AType arity item basis) = Unit {0}
IsNoTheorem (key, AConstant ty item basis) = Unit {0}
IsNoTheorem (key, ATheorem th) = ⊥
IsNoTheorem (key, ATac e bases basis) = Unit {0}

without_theorem : (earlier : List TheoryRun) (rows : List Row) (e : KeyValue × EntryValue) → IsNoTheorem e → HasOrigin earlier rows e
without_theorem earlier rows (key, AType arity item basis) h = tt
without_theorem earlier rows (key, AConstant ty item basis) h = tt
without_theorem earlier rows (key, ATheorem th) h = absurd h
without_theorem earlier rows (key, ATac e bases basis) h = tt

-- what the outcome makes, if anything, is no theorem
abbrev MakesNoTheorem : OutcomeValue → Type 0
MakesNoTheorem o = (entries : Entries) → o ≡ Makes entries → All IsNoTheorem entries

nothing_made : (o : OutcomeValue) → made_by o ≡ None → MakesNoTheorem o
nothing_made o none = λ entries is. makes_none (All IsNoTheorem entries) o entries none is

refused_is : (o q : OutcomeValue) → o ≡ q → made_by q ≡ None → MakesNoTheorem o
refused_is o q is none = nothing_made o (ap made_by is ∙ none)

one_made : (o : OutcomeValue) (e : KeyValue × EntryValue) → o ≡ Makes (e ∷ []) → IsNoTheorem e → MakesNoTheorem o
one_made o e is h = λ entries made.
    subst (All IsNoTheorem) (same_Some (e ∷ []) entries (sym (ap made_by is) ∙ ap made_by made)) (All-cons IsNoTheorem e [] h (All-nil IsNoTheorem))

opening_makes : (in_proof : Bool) (name : List ℕ) (quotation : QuotationText) (reads : ReadsValue) (o : OutcomeValue) → IsOpening in_proof name quotation reads o → MakesNoTheorem o
opening_makes true name quotation reads o h = refused_is o _ h refl
opening_makes false name quotation reads o (reading, is, e) = nothing_made o (ap made_by e ∙ read reading)
  where
    unless_taken : (p : Nameless) (basis : Items) (key : Option KeyValue) → made_by (opens name p basis key) ≡ None
    unless_taken p basis None = refl
    unless_taken p basis (Some key) = refl

    if_bool : (p : Nameless) (b : Bool) (x y : OutcomeValue) → made_by x ≡ None → made_by y ≡ None → made_by (cond b x y) ≡ None
    if_bool p true x y f g = f
    if_bool p false x y f g = g

    read : (reading : ReadingValue Nameless) → made_by (opens_read name quotation.place reads reading) ≡ None
    read WrongArity = refl
    read NoTyping = refl
    read LargeReading = refl
    read (ReadsAs p) = if_bool p (is_type_at (nameless_type [] p) bool_type) _ _ (unless_taken p _ _) refl

applying_makes : (in_proof : Bool) (setup : SetupValue) (names : List (List ℕ)) (tactic : TacText) (reads : ReadsValue) (given : LocalValue)
    → IsApplying in_proof setup names tactic reads given → MakesNoTheorem given.outcome
applying_makes false setup names tactic reads given h = refused_is given.outcome _ (ap (λ (l : LocalValue). l.outcome) h) refl
applying_makes true setup names tactic reads given (resolution, is, e) = nothing_made given.outcome (ap (λ (l : LocalValue). made_by l.outcome) e ∙ by resolution reads.goal)
  where
    ran : (goal : GoalValue) (basis : Items) (value : RunValue) → made_by (run_outcome names goal basis value).outcome ≡ None
    ran goal basis (runs.Leaves goals used) = refl
    ran goal basis (runs.Refuses (DoesNotFit name) used) = refl
    ran goal basis (runs.Refuses (LacksHyps name) used) = refl
    ran goal basis (runs.Stops TurnLimit tested) = refl
    ran goal basis (runs.Stops LargeGoal tested) = refl

    by : (resolution : ResolutionValue) (goal : Option GoalValue) → made_by (resolved_outcome setup names goal resolution).outcome ≡ None
    by (Resolved expr basis readings) None = refl
    by (Resolved expr basis readings) (Some goal) = ran goal basis (run (known setup.table names) expr goal (starting setup.turns))
    by (Unresolved kind arg) goal = refl

naming_makes : (in_proof : Bool) (setup : SetupValue) (name : List ℕ) (tactic : TacText) (reads : ReadsValue) (o : OutcomeValue) → IsNaming in_proof setup name tactic reads o → MakesNoTheorem o
naming_makes true setup name tactic reads o h = refused_is o _ h refl
naming_makes false setup name tactic reads o (resolution, is, e) = by resolution e
  where
    sized : (large : Bool) (x y : OutcomeValue) → o ≡ cond large x y → (o ≡ x → MakesNoTheorem o) → (o ≡ y → MakesNoTheorem o) → MakesNoTheorem o
    sized true x y e f g = f e
    sized false x y e f g = g e

    by : (resolution : ResolutionValue) → o ≡ names_resolved setup name tactic reads.cited resolution → MakesNoTheorem o
    by (Resolved expr basis readings) e = sized (nat_lt 20000 (expr_size expr)) _ _ e (λ q. refused_is o _ q refl) (λ q. one_made o _ q tt)
    by (Unresolved kind arg) e = refused_is o _ e refl

unless_taken_makes : (key : Option KeyValue) (Made : OutcomeValue → Type 0) (o : OutcomeValue) → UnlessTaken key Made o → (Made o → MakesNoTheorem o) → MakesNoTheorem o
unless_taken_makes None Made o h f = f h
unless_taken_makes (Some key) Made o h f = refused_is o _ h refl

-- a type or a constant
making_makes : (in_proof : Bool) (making : MakingText) (reads : ReadsValue) (o : OutcomeValue) → IsMaking in_proof making reads o → StatesTheorem making ⊎ MakesNoTheorem o
making_makes true making reads o h = inr (refused_is o _ h refl)
making_makes false (NewType name arity) reads o h =
    inr (unless_taken_makes (taken reads) (MakesOne (IsNewType no_items name arity)) o h (λ (entry, is, e). one_made o entry e (subst IsNoTheorem (sym is.entry_is) tt)))
making_makes false (NewConstant name quotation) reads o h = inr (by (type_reading (signature_of reads.cited) quotation.ty) h)
  where
    by : (reading : ReadingValue TypeTree) → MakesConstantOf name quotation.place reads reading o → MakesNoTheorem o
    by WrongArity h = refused_is o _ h refl
    by NoTyping h = refused_is o _ h refl
    by LargeReading h = refused_is o _ h refl
    by (ReadsAs a) h =
        unless_taken_makes (taken reads) (MakesOne (IsNewConstant (constant_basis reads quotation.place a) name a)) o h (λ (entry, is, e). one_made o entry e (subst IsNoTheorem (sym is.entry_is) tt))
making_makes false (NewAxiom name quotation) reads o h = inl tt
making_makes false (NewDefinition name definition) reads o h = inl tt
making_makes false (NewBasicTypeDefinition definition) reads o h = inl tt

-- ---- one row

-- of each of the runs, which come after others, each theorem has an origin in it and in those before it
abbrev OriginsAfter : List TheoryRun → List TheoryRun → Type 0
OriginsAfter front [] = Unit {0}
OriginsAfter front (run ∷ runs) = All (HasOrigin front run.rows) run.last.entries × OriginsAfter (front ++ run ∷ []) runs

abbrev RunsHaveOrigins : List TheoryRun → Type 0
RunsHaveOrigins runs = OriginsAfter [] runs

abbrev pub made_here : (before : List Row) (row : Row) (entries : Entries) (e : KeyValue × EntryValue) → row.outcome ≡ Makes entries → Contains entries e → IsMadeIn (before ++ row ∷ []) e
made_here before row entries e made among = record { before = before; row = row; later = []; splits = refl; entries = entries; made = made; among = among }

-- each of them, where each theorem among them has one
each_origin : (earlier : List TheoryRun) (rows : List Row) (entries : Entries) → ((key : KeyValue) (th : Theorem) → Contains entries (key, ATheorem th) → ComesFrom earlier rows key th)
    → All (HasOrigin earlier rows) entries
each_origin earlier rows entries f = All-weaker (Contains entries) (HasOrigin earlier rows) by entries (All-contains_itself entries)
  where
    by : (e : KeyValue × EntryValue) → Contains entries e → HasOrigin earlier rows e
    by (key, AType arity item basis) among = tt
    by (key, AConstant ty item basis) among = tt
    by (key, ATheorem th) among = f key th among
    by (key, ATac e bases basis) among = tt

command_origins : (earlier : List TheoryRun) (before : List Row) (row : Row) (entries : Entries) → row.outcome ≡ Makes entries → MakesTheorem row.value → All (HasOrigin earlier (before ++ row ∷ [])) entries
command_origins earlier before row entries made by =
    each_origin earlier (before ++ row ∷ []) entries (λ key th among. by_command earlier (before ++ row ∷ []) key th (made_here before row entries (key, ATheorem th) made among) by)

no_theorem_origins : (earlier : List TheoryRun) (rows : List Row) (o : OutcomeValue) (entries : Entries) → o ≡ Makes entries → MakesNoTheorem o → All (HasOrigin earlier rows) entries
no_theorem_origins earlier rows o entries made none = All-weaker IsNoTheorem (HasOrigin earlier rows) (without_theorem earlier rows) entries (none entries made)

-- the run whose theory is imported, among those that come after others
abbrev Found : List TheoryRun → List ℕ → Entries → Type 0
Found runs name theory =
    (before : List TheoryRun) × (run : TheoryRun) × (later : List TheoryRun) × (runs ≡ before ++ run ∷ later) × (run.name ≡ name) × (run.last.entries ≡ theory)
    × All (HasOrigin before run.rows) run.last.entries

found_run : (front runs : List TheoryRun) (name : List ℕ) (theory : Entries) → OriginsAfter front runs → entries_named name (map ended runs) ≡ Some theory → Found (front ++ runs) name theory
found_run front [] name theory origins h = absurd (cc)
found_run front (run ∷ runs) name theory origins h =
    by (bytes_eq run.name name) refl h
    (λ k. subst (λ all. Found all name theory) (append_assoc front (run ∷ []) runs) (found_run (front ++ run ∷ []) runs name theory origins.1 k))
  where
    by : (b : Bool) → bytes_eq run.name name ≡ b → cond b (Some run.last.entries) (entries_named name (map ended runs)) ≡ Some theory
        → (entries_named name (map ended runs) ≡ Some theory → Found (front ++ run ∷ runs) name theory) → Found (front ++ run ∷ runs) name theory
    by true e h more = (front, run, runs, refl, (bytes_eq-Decides run.name name).0 e, same_Some run.last.entries theory h, origins.0)
    by false e h more = more h

import_origins : (earlier : List TheoryRun) (before : List Row) (s : StateValue) (row : Row) (name : List ℕ) (entries : Entries) → RunsHaveOrigins earlier → row.value ≡ Reads (Direct (Import name))
    → row.outcome ≡ direct (Import name) s (map ended earlier) → row.outcome ≡ Makes entries → All (HasOrigin earlier (before ++ row ∷ [])) entries
import_origins earlier before s row name entries origins is imports made = in_proof (is_some s.proof) imports
  where
    taken : (theory : Entries) → Found earlier name theory → (clash : Option KeyValue) → row.outcome ≡ imports_from s.entries theory clash → All (HasOrigin earlier (before ++ row ∷ [])) entries
    taken theory found (Some key) e = makes_none _ row.outcome entries (ap made_by e) made
    taken theory (front, run, later, splits, named, last, own) None e =
        let theirs : missing s.entries theory ≡ entries = same_Some _ _ (sym (ap made_by e) ∙ ap made_by made) in
        let kept : All (HasOrigin front run.rows) (missing s.entries theory) =
        All-filter (λ x. is_none (entry_at x.0 s.entries)) (HasOrigin front run.rows) theory (subst (All (HasOrigin front run.rows)) last own) in
        each_origin earlier (before ++ row ∷ []) entries (λ key th among.
        by_import earlier (before ++ row ∷ []) key th (made_here before row entries (key, ATheorem th) made among) front run later splits
        (is ∙ ap (λ n. Reads (Direct (Import n))) (sym named))
        (All-contains (HasOrigin front run.rows) entries (key, ATheorem th) (subst (All (HasOrigin front run.rows)) theirs kept) among))

    from : (theory : Option Entries) → entries_named name (map ended earlier) ≡ theory → row.outcome ≡ imports_theory name s.entries theory → All (HasOrigin earlier (before ++ row ∷ [])) entries
    from None named e = makes_none _ row.outcome entries (ap made_by e) made
    from (Some theory) named e = taken theory (found_run [] earlier name theory origins named) (first_clash s.entries theory) e

    in_proof : (b : Bool) → row.outcome ≡ cond b (Refuses refusal.InProof []) (imports_theory name s.entries (entries_named name (map ended earlier))) → All (HasOrigin earlier (before ++ row ∷ [])) entries
    in_proof true e = makes_none _ row.outcome entries (ap made_by e) made
    in_proof false e = from (entries_named name (map ended earlier)) refl e

undone_none : (s : StateValue) (earlier : List EndedTheory) → made_by (direct Back s earlier) ≡ None
undone_none s earlier = by s.proof
  where
    steps : (older : List StepValue) → made_by (undoes_to older) ≡ None
    steps [] = refl
    steps (step ∷ older) = refl

    by : (p : Option ProofValue) → made_by (undoes p) ≡ None
    by None = refl
    by (Some p) = steps p.earlier

rotated_none : (times : ℕ) (s : StateValue) (earlier : List EndedTheory) → made_by (direct (Rotate times) s earlier) ≡ None
rotated_none times s earlier = by s.proof
  where
    goals : (left : List GoalValue) → made_by (rotates_goals times left) ≡ None
    goals [] = refl
    goals (goal ∷ left) = refl

    by : (p : Option ProofValue) → made_by (rotates times p) ≡ None
    by None = refl
    by (Some p) = goals p.newest.goals

dropped_makes : (s : StateValue) (earlier : List EndedTheory) (o : OutcomeValue) → o ≡ direct Oops s earlier → MakesNoTheorem o
dropped_makes s earlier o is = by s.proof is
  where
    by : (p : Option ProofValue) → o ≡ drops p → MakesNoTheorem o
    by None e = refused_is o _ e refl
    by (Some p) e = λ entries made. subst (All IsNoTheorem) (same_Some [] entries (sym (ap made_by e) ∙ ap made_by made)) (All-nil IsNoTheorem)

row_origins : (setup : SetupValue) (earlier : List TheoryRun) (before : List Row) (s : StateValue) (row : Row) (entries : Entries) → RunsHaveOrigins earlier
    → (value : ReadText) (reads : Option ReadsValue) → row.value ≡ value → IsOutcome setup (map ended earlier) s value reads row.tested row.outcome → row.outcome ≡ Makes entries
    → All (HasOrigin earlier (before ++ row ∷ [])) entries
row_origins setup earlier before s row entries origins (Reads (Local command)) None is h made = absurd h
row_origins setup earlier before s row entries origins (Reads (Local (Goal name quotation))) (Some reads) is h made =
    no_theorem_origins earlier (before ++ row ∷ []) row.outcome entries made (opening_makes reads.in_proof name quotation reads row.outcome h.0)
row_origins setup earlier before s row entries origins (Reads (Local (Apply tactic))) (Some reads) is h made =
    no_theorem_origins earlier (before ++ row ∷ []) row.outcome entries made (applying_makes reads.in_proof setup (constant_names s.entries) tactic reads (record { outcome = row.outcome; tested = row.tested }) h)
row_origins setup earlier before s row entries origins (Reads (Local Qed)) (Some reads) is h made =
    command_origins earlier before row entries made (subst MakesTheorem (sym is) tt)
row_origins setup earlier before s row entries origins (Reads (Local (DefineTac name tactic))) (Some reads) is h made =
    no_theorem_origins earlier (before ++ row ∷ []) row.outcome entries made (naming_makes reads.in_proof setup name tactic reads row.outcome h.0)
row_origins setup earlier before s row entries origins (Reads (Local (Make making))) (Some reads) is h made = by (making_makes reads.in_proof making reads row.outcome h.0)
  where
    by : StatesTheorem making ⊎ MakesNoTheorem row.outcome → All (HasOrigin earlier (before ++ row ∷ [])) entries
    by (inl states) = command_origins earlier before row entries made (subst MakesTheorem (sym is) states)
    by (inr none) = no_theorem_origins earlier (before ++ row ∷ []) row.outcome entries made none
row_origins setup earlier before s row entries origins (Reads (Direct command)) (Some reads) is h made = absurd h
row_origins setup earlier before s row entries origins (Reads (Direct Back)) None is h made = makes_none _ row.outcome entries (ap made_by h.0 ∙ undone_none s (map ended earlier)) made
row_origins setup earlier before s row entries origins (Reads (Direct (Rotate times))) None is h made = makes_none _ row.outcome entries (ap made_by h.0 ∙ rotated_none times s (map ended earlier)) made
row_origins setup earlier before s row entries origins (Reads (Direct Oops)) None is h made =
    no_theorem_origins earlier (before ++ row ∷ []) row.outcome entries made (dropped_makes s (map ended earlier) row.outcome h.0)
row_origins setup earlier before s row entries origins (Reads (Direct (Import name))) None is h made = import_origins earlier before s row name entries origins is h.0 made
row_origins setup earlier before s row entries origins (Breaks place) None is h made = makes_none _ row.outcome entries (ap made_by h.0) made
row_origins setup earlier before s row entries origins (Breaks place) (Some reads) is h made = absurd h

-- ---- rows and runs

-- a row more takes no origin away
origin_more : (earlier : List TheoryRun) (rows : List Row) (row : Row) (e : KeyValue × EntryValue) → HasOrigin earlier rows e → HasOrigin earlier (rows ++ row ∷ []) e
origin_more earlier rows row (key, AType arity item basis) h = tt
origin_more earlier rows row (key, AConstant ty item basis) h = tt
origin_more earlier rows row (key, ATheorem th) (by_command _ _ _ _ made by) = by_command earlier (rows ++ row ∷ []) key th (made_more rows row (key, ATheorem th) made) by
origin_more earlier rows row (key, ATheorem th) (by_import _ _ _ _ made before run later splits is from) =
    by_import earlier (rows ++ row ∷ []) key th (made_more rows row (key, ATheorem th) made) before run later splits is from
origin_more earlier rows row (key, ATac e bases basis) h = tt

next_origins : (earlier : List TheoryRun) (before : List Row) (row : Row) (s : StateValue) (o : OutcomeValue) → ((entries : Entries) → o ≡ Makes entries → All (HasOrigin earlier (before ++ row ∷ [])) entries)
    → All (HasOrigin earlier before) s.entries → All (HasOrigin earlier (before ++ row ∷ [])) (after s o).entries
next_origins earlier before row s o makes h =
    let kept : All (HasOrigin earlier (before ++ row ∷ [])) s.entries =
    All-weaker (HasOrigin earlier before) (HasOrigin earlier (before ++ row ∷ [])) (origin_more earlier before row) s.entries h in
    by o makes kept
  where
    by : (o : OutcomeValue) → ((entries : Entries) → o ≡ Makes entries → All (HasOrigin earlier (before ++ row ∷ [])) entries) → All (HasOrigin earlier (before ++ row ∷ [])) s.entries
        → All (HasOrigin earlier (before ++ row ∷ [])) (after s o).entries
    by (Opens name statement basis) makes kept = kept
    by (Leaves goal goals basis) makes kept = kept
    by Undoes makes kept = kept
    by (Rotates times) makes kept = kept
    by (Makes entries) makes kept = All-append (HasOrigin earlier (before ++ row ∷ [])) s.entries entries kept (makes entries refl)
    by (Refuses kind arg) makes kept = kept

rows_origins : (setup : SetupValue) (earlier : List TheoryRun) (before : List Row) (s : StateValue) (texts : List (List ℕ)) (rows : List Row) (last : StateValue) → RunsHaveOrigins earlier
    → AreRows setup (map ended earlier) s texts rows last → All (HasOrigin earlier before) s.entries → All (HasOrigin earlier (before ++ rows)) last.entries
rows_origins setup earlier before s [] [] last origins h m =
    let none : before ++ [] ≡ before = grind (arith, common_steps) in
    rw (none, h) m
rows_origins setup earlier before s [] (row ∷ rows) last origins h m = absurd h
rows_origins setup earlier before s (text ∷ texts) [] last origins h m = absurd h
rows_origins setup earlier before s (text ∷ texts) (row ∷ rows) last origins h m =
    subst (λ done. All (HasOrigin earlier done) last.entries) (append_assoc before (row ∷ []) rows)
    (rows_origins setup earlier (before ++ row ∷ []) (after s row.outcome) texts rows last origins h.1
    (next_origins earlier before row s row.outcome (λ entries made. row_origins setup earlier before s row entries origins row.value row.reads refl h.0.gets made) m))

-- one run more
run_more : (front runs : List TheoryRun) (run : TheoryRun) → OriginsAfter front runs → All (HasOrigin (front ++ runs) run.rows) run.last.entries → OriginsAfter front (runs ++ run ∷ [])
run_more front [] run origins own =
    let none : front ++ [] ≡ front = grind (arith, common_steps) in
    (subst (λ l. All (HasOrigin l run.rows) run.last.entries) none own, tt)
run_more front (first ∷ runs) run origins own =
    (origins.0, run_more (front ++ first ∷ []) runs run origins.1 (subst (λ l. All (HasOrigin l run.rows) run.last.entries) (sym (append_assoc front (first ∷ []) runs)) own))

names_more : (runs : List TheoryRun) (run : TheoryRun) → map ended (runs ++ run ∷ []) ≡ map ended runs ++ ended run ∷ []
names_more [] run = refl
names_more (first ∷ runs) run = ap (λ l. ended first ∷ l) (names_more runs run)

runs_origins : (setup : SetupValue) (done : List TheoryRun) (theories : List TheoryText) (runs : List TheoryRun) → AreRuns setup (map ended done) theories runs → RunsHaveOrigins done
    → RunsHaveOrigins (done ++ runs)
runs_origins setup done [] [] h origins = let none : done ++ [] ≡ done = grind (arith, common_steps) in subst RunsHaveOrigins (sym none) origins
runs_origins setup done [] (run ∷ runs) h origins = absurd h
runs_origins setup done (theory ∷ theories) [] h origins = absurd h
runs_origins setup done (theory ∷ theories) (run ∷ runs) h origins =
    let own : All (HasOrigin done run.rows) run.last.entries = rows_origins setup done [] start theory.commands run.rows run.last origins h.0.are (All-nil (HasOrigin done [])) in
    subst RunsHaveOrigins (append_assoc done (run ∷ []) runs)
    (runs_origins setup (done ++ run ∷ []) theories runs (subst (λ l. AreRuns setup l theories runs) (sym (names_more done run)) h.1) (run_more [] done run origins own))

of_run : (front before : List TheoryRun) (run : TheoryRun) (later : List TheoryRun) → OriginsAfter front (before ++ run ∷ later) → All (HasOrigin (front ++ before) run.rows) run.last.entries
of_run front [] run later origins =
    let none : front ++ [] ≡ front = grind (arith, common_steps) in
    subst (λ l. All (HasOrigin l run.rows) run.last.entries) (sym none) origins.0
of_run front (first ∷ before) run later origins =
    subst (λ l. All (HasOrigin l run.rows) run.last.entries) (append_assoc front (first ∷ []) before) (of_run (front ++ first ∷ []) before run later origins.1)

pub have_origins : (docs : Documents) (before : List TheoryRun) (run : TheoryRun) (later : List TheoryRun) → AreRunsOf docs (before ++ run ∷ later) → All (HasOrigin before run.rows) run.last.entries
have_origins docs before run later h = of_run [] before run later (runs_origins docs.setup [] docs.theories (before ++ run ∷ later) h tt)
