-- What the outcomes that a state may get say of it: a step runs on the first goal.
use Rattle.std.proofs.Common.{◌≡◌, ◌∙◌, ℕ, List, [], ◌∷◌, refl, ap, subst, Bool, true, false, cond, decimal, nat_eq, nat_lt}
use Rattle.std.specs.Prelude.{Option, Some, None, IfSome, is_some}
use Rattle.hol_terms.specs.Nameless.{Nameless, nameless_type}
use Rattle.hol_notation_terms.specs.Text.{QuotationText, DefinitionText}
use Rattle.hol_notation_tactics.specs.Text.{TacText}
use Rattle.hol_kernel.specs.Items.{Items}
use Rattle.hol_formulas.specs.Equation.{bool_type, dest_comb}
use Rattle.hol_kernel.specs.Typing.{is_type_at}
use Rattle.hol_goal.specs.Answer.{starting}
use Rattle.hol_goal.specs.Goal.{GoalValue}
use Rattle.hol_just.specs.declared.reason.Move.{Move}
use Rattle.hol_stack.specs.StackValue.{StepValue}
use Rattle.hol_theory.specs.Adding.{first_clash}
use Rattle.hol_theory.specs.Constants.{constant_names}
use Rattle.hol_theory.specs.Entry.{Entries, EntryValue}
use Rattle.hol_theory.specs.Key.{KeyValue}
use Rattle.hol_exec.specs.Setup.{SetupValue}
use Rattle.hol_notation_commands.specs.Text.{MakingText, NewType, NewConstant, NewAxiom, NewDefinition, NewBasicTypeDefinition, LocalText, Goal, Apply, Qed, DefineTac, Make, DirectText, Back, Rotate, Oops, Import, Local, Direct, TypeDefinitionText}
use Rattle.hol_notation_reader.specs.Reading.{ReadText, Reads, Breaks}
use Rattle.hol_resolve.specs.Reading.{ReadingValue, WrongArity, NoTyping, LargeReading, ReadsAs, type_reading}
use Rattle.hol_exec.specs.StateValue.{ProofValue, StateValue, EndedTheory}
use Rattle.hol_exec.specs.ReadsValue.{ReadsValue, ClosingValue, reads_of, AreReads, first_goal}
use Rattle.hol_exec.specs.OutcomeValue.{OutcomeValue, Leaves, Makes, Refuses, MakesTheorems}
use Rattle.hol_exec.specs.OutcomeView.{outcome_of}
use Rattle.hol_exec.specs.declared.running.outcome.Change.{Change}
use Rattle.hol_exec.specs.declared.running.outcome.Change.TheVariants as changes
use Rattle.hol_exec.specs.Tested.{TestedValue}
use Rattle.hol_exec.specs.Local.{LocalValue, opens, opens_read, IsOpening, refused_outcome, stopped_outcome, run_outcome, applied, resolved_outcome, IsApplying, finishes, IsLocalOutcome}
use Rattle.hol_exec.specs.Resolved.{cited_theorem, resolved_basis}
use Rattle.hol_exec.specs.Signature.{signature_of}
use Rattle.hol_exec.specs.Defining.{first_free, first_unreflected}
use Rattle.hol_equal.specs.Applied.{rand}
use Rattle.hol_exec.specs.Making.{UnlessTaken, taken, MakesOne, MakesConstantOf, StatesAxiom, MakesAxiomOf, MakesDefined, UnlessOpen, MakesDefinitionOf, UnlessFree, MakesTypeBy, MakesTypeOf, MakesTypeFrom, IsMade, IsMaking, formula_basis}
use Rattle.hol_kernel.specs.Theorem.{Theorem}
use Rattle.hol_types.specs.Tree.{TypeTree}
use Rattle.hol_resolve.specs.Readings.{ATerm, ReadingsValue}
use Rattle.hol_theory.proofs.Theories.{items_agree}
use Rattle.hol_exec.specs.Standing.{first_taken}
use Rattle.hol_combine.specs.ExprSize.{expr_size}
use Rattle.hol_combine.specs.ExprValue.{ExprValue}
use Rattle.hol_exec.specs.Naming.{names_expr, names_resolved, IsNaming}
use Rattle.hol_combine.specs.Runs.{RefusalValue, DoesNotFit, LacksHyps, StopValue, TurnLimit, LargeGoal, RunValue, run}
use Rattle.hol_combine.specs.Runs as runs
use Rattle.hol_combine.specs.Agreeing.{known}
use Rattle.hol_exec.specs.Expr.{ResolutionValue, Resolved, Unresolved}
use Rattle.hol_exec.specs.declared.reports.refusal.RefusalKind.TheVariants as refusal
use Rattle.hol_exec.specs.At.{undoes_to, undoes, rotates_goals, rotates, drops, imports, imports_theory, imports_from, entries_named, direct, IsOutcome, IsOutcomeAt}
use Rattle.hol_exec.specs.Valid.{IsLeft, IsValidChange, CanStep}
use Rattle.hol_theory.specs.Theory.{items_in}
use Rattle.hol_exec.proofs.Entries.{newest_within}
use Rattle.hol_exec.proofs.Free.{IsKept, leaves_within}
use Rattle.hol_exec.proofs.Steps.{steps}

module _ (goal : GoalValue) (goals : List GoalValue) (basis : Items) where
  opening_none : (in_proof : Bool) (name : List ℕ) (q : QuotationText) (reads : ReadsValue) → IsOpening in_proof name q reads (Leaves goal goals basis) → ⊥
  opening_none true name q reads h = absurd (cc)
  opening_none false name q reads h = by h.0 h.2
    where
      stated : (p : Nameless) (b : Items) (k : Option KeyValue) → Leaves goal goals basis ≡ opens name p b k → ⊥
      stated p b None e = absurd (cc)
      stated p b (Some key) e = absurd (cc)

      typed : (p : Nameless) (is_bool : Bool) → Leaves goal goals basis ≡ cond is_bool (opens name p (resolved_basis reads.cited ((q.place, ATerm p) ∷ [])) (first_taken [] reads.made)) (Refuses refusal.NotBool (decimal q.place)) → ⊥
      typed p true e = stated p _ (first_taken [] reads.made) e
      typed p false e = absurd (cc)

      by : (r : ReadingValue Nameless) → Leaves goal goals basis ≡ opens_read name q.place reads r → ⊥
      by WrongArity e = absurd (cc)
      by NoTyping e = absurd (cc)
      by LargeReading e = absurd (cc)
      by (ReadsAs p) e = typed p (is_type_at (nameless_type [] p) bool_type) e

  finish_none : (o : Option ClosingValue) → Leaves goal goals basis ≡ finishes o → ⊥
  finish_none None e = absurd (cc)
  finish_none (Some c) e = by (nat_eq c.open_goals 0) refl
    where
      by : (w : Bool) → nat_eq c.open_goals 0 ≡ w → ⊥
      by true z = let g : Leaves goal goals basis ≡ Makes _ = rw z at e in absurd (cc)
      by false z = let g : Leaves goal goals basis ≡ Refuses _ _ = rw z at e in absurd (cc)

  refused_none : (why : RefusalValue) → Leaves goal goals basis ≡ refused_outcome why → ⊥
  refused_none (DoesNotFit name) e = absurd (cc)
  refused_none (LacksHyps name) e = absurd (cc)

  stopped_none : (why : StopValue) → Leaves goal goals basis ≡ stopped_outcome why → ⊥
  stopped_none TurnLimit e = absurd (cc)
  stopped_none LargeGoal e = absurd (cc)

  run_first : (names : List (List ℕ)) (g : GoalValue) (b : Items) (r : RunValue) → Leaves goal goals basis ≡ (run_outcome names g b r).outcome → g ≡ goal
  run_first names g b (runs.Leaves more used) e = cc
  run_first names g b (runs.Refuses why used) e = absurd (refused_none why e)
  run_first names g b (runs.Stops why tested) e = absurd (stopped_none why e)

  applied_first : (setup : SetupValue) (names : List (List ℕ)) (o : Option GoalValue) (x : ExprValue) (b : Items) → Leaves goal goals basis ≡ (applied setup names o x b).outcome → o ≡ Some goal
  applied_first setup names None x b e = absurd (cc)
  applied_first setup names (Some g) x b e = ap Some (run_first names g b (run (known setup.table names) x g (starting setup.turns)) e)

  resolved_first : (setup : SetupValue) (names : List (List ℕ)) (o : Option GoalValue) (r : ResolutionValue) → Leaves goal goals basis ≡ (resolved_outcome setup names o r).outcome → o ≡ Some goal
  resolved_first setup names o (Resolved x b readings) e = applied_first setup names o x b e
  resolved_first setup names o (Unresolved kind arg) e = absurd (cc)

  applying_first : (in_proof : Bool) (setup : SetupValue) (names : List (List ℕ)) (tactic : TacText) (reads : ReadsValue) (given : LocalValue) → Leaves goal goals basis ≡ given.outcome → IsApplying in_proof setup names tactic reads given → reads.goal ≡ Some goal
  applying_first false setup names tactic reads given e h =
      let refused : Leaves goal goals basis ≡ Refuses refusal.NoProofOpen [] = e ∙ ap (λ (l : LocalValue). l.outcome) h in
      absurd (cc)
  applying_first true setup names tactic reads given e h = resolved_first setup names reads.goal h.0 (e ∙ ap (λ (l : LocalValue). l.outcome) h.2)

  -- what names an expression takes no step
  naming_none : (in_proof : Bool) (setup : SetupValue) (name : List ℕ) (tactic : TacText) (reads : ReadsValue) → IsNaming in_proof setup name tactic reads (Leaves goal goals basis) → ⊥
  naming_none true setup name tactic reads h = absurd (cc)
  naming_none false setup name tactic reads h = by h.0 h.2
    where
      sized : (e : ExprValue) (own : Items) (readings : ReadingsValue) (b : Bool)
          → Leaves goal goals basis ≡ cond b (Refuses refusal.TooLarge []) (names_expr setup name tactic reads.cited readings e own) → ⊥
      sized e own readings true k = absurd (cc)
      sized e own readings false k = absurd (cc)

      by : (r : ResolutionValue) → Leaves goal goals basis ≡ names_resolved setup name tactic reads.cited r → ⊥
      by (Resolved e own readings) k = sized e own readings (nat_lt 20000 (expr_size e)) k
      by (Unresolved kind arg) k = absurd (cc)

  -- what makes types, constants, axioms and definitions takes no step
  abbrev Leaving : OutcomeValue
  Leaving = Leaves goal goals basis

  untaken_none : (o : Option KeyValue) (Made : OutcomeValue → Type 0) → UnlessTaken o Made Leaving → (Made Leaving → ⊥) → ⊥
  untaken_none None Made h f = f h
  untaken_none (Some key) Made h f = absurd (cc)

  one_none : (Is : KeyValue × EntryValue → Type 0) → MakesOne Is Leaving → ⊥
  one_none Is h = let e : Leaves goal goals basis ≡ Makes (h.0 ∷ []) = h.2 in absurd (cc)

  constant_none : (name : List ℕ) (place : ℕ) (reads : ReadsValue) (r : ReadingValue TypeTree) → MakesConstantOf name place reads r Leaving → ⊥
  constant_none name place reads WrongArity h = absurd (cc)
  constant_none name place reads NoTyping h = absurd (cc)
  constant_none name place reads LargeReading h = absurd (cc)
  constant_none name place reads (ReadsAs a) h = untaken_none (taken reads) _ h (one_none _)

  axiom_none : (name : List ℕ) (place : ℕ) (reads : ReadsValue) (r : ReadingValue Nameless) → MakesAxiomOf name place reads r Leaving → ⊥
  axiom_none name place reads WrongArity h = absurd (cc)
  axiom_none name place reads NoTyping h = absurd (cc)
  axiom_none name place reads LargeReading h = absurd (cc)
  axiom_none name place reads (ReadsAs p) h = by (is_type_at (nameless_type [] p) bool_type) h
    where
      by : (b : Bool) → StatesAxiom name place reads p b Leaving → ⊥
      by true h = untaken_none (taken reads) _ h (one_none _)
      by false h = absurd (cc)

  open_none : (o u : Option (List ℕ)) (Made : OutcomeValue → Type 0) → UnlessOpen o u Made Leaving → (Made Leaving → ⊥) → ⊥
  open_none (Some x) u Made h f = absurd (cc)
  open_none None (Some a) Made h f = absurd (cc)
  open_none None None Made h f = f h

  defined_none : (basis' : Items) (name : List ℕ) (d : DefinitionText) (r : Nameless) → MakesDefined basis' name d r Leaving → ⊥
  defined_none basis' name d r h = let e : Leaves goal goals basis ≡ Makes _ = h.makes in absurd (cc)

  definition_none : (name : List ℕ) (d : DefinitionText) (reads : ReadsValue) (r : ReadingValue Nameless) → MakesDefinitionOf name d reads r Leaving → ⊥
  definition_none name d reads WrongArity h = absurd (cc)
  definition_none name d reads NoTyping h = absurd (cc)
  definition_none name d reads LargeReading h = absurd (cc)
  definition_none name d reads (ReadsAs p) h =
      untaken_none (taken reads) (UnlessOpen (first_free (rand p)) (first_unreflected (rand p)) (MakesDefined (formula_basis reads d.place p) name d (rand p))) h
      (λ m. open_none (first_free (rand p)) (first_unreflected (rand p)) (MakesDefined (formula_basis reads d.place p) name d (rand p)) m (defined_none (formula_basis reads d.place p) name d (rand p)))

  type_of_none : (d : TypeDefinitionText) (member : Theorem) (o : Option (Nameless × Nameless)) → MakesTypeOf d member o Leaving → ⊥
  type_of_none d member None h = absurd (cc)
  type_of_none d member (Some parts) h = by (first_free parts.0) h
    where
      by : (o : Option (List ℕ)) → UnlessFree o (MakesTypeBy d member) Leaving → ⊥
      by None h = let e : Leaves goal goals basis ≡ Makes h.0 = h.2 in absurd (cc)
      by (Some x) h = absurd (cc)

  type_none : (d : TypeDefinitionText) (reads : ReadsValue) (o : Option Theorem) → MakesTypeFrom d reads o Leaving → ⊥
  type_none d reads None h = absurd (cc)
  type_none d reads (Some member) h =
      untaken_none (taken reads) (MakesTypeOf d member (dest_comb member.sequent.concl)) h (type_of_none d member (dest_comb member.sequent.concl))

  made_none : (making : MakingText) (reads : ReadsValue) → IsMade making reads Leaving → ⊥
  made_none (NewType name arity) reads h = untaken_none (taken reads) _ h (one_none _)
  made_none (NewConstant name q) reads h = constant_none name q.place reads (type_reading (signature_of reads.cited) q.ty) h
  made_none (NewAxiom name q) reads h = axiom_none name q.place reads h.0 h.2
  made_none (NewDefinition name d) reads h = definition_none name d reads h.0 h.2
  made_none (NewBasicTypeDefinition d) reads h = type_none d reads (cited_theorem reads.cited) h

  making_none : (in_proof : Bool) (making : MakingText) (reads : ReadsValue) → IsMaking in_proof making reads Leaving → ⊥
  making_none true making reads h = absurd (cc)
  making_none false making reads h = made_none making reads h

  local_first : (setup : SetupValue) (names : List (List ℕ)) (command : LocalText) (s : StateValue) (tested : TestedValue) → IsLocalOutcome setup names command (reads_of command s) (record { outcome = Leaves goal goals basis; tested = tested }) → first_goal s.proof ≡ Some goal
  local_first setup names (Goal name q) s tested h = absurd (opening_none _ name q _ h.0)
  local_first setup names (Apply tactic) s tested h = applying_first _ setup names tactic (reads_of (Apply tactic) s) (record { outcome = Leaves goal goals basis; tested = tested }) refl h
  local_first setup names Qed s tested h = absurd (finish_none (reads_of Qed s).closing (ap (λ (l : LocalValue). l.outcome) h))
  local_first setup names (DefineTac name tactic) s tested h = absurd (naming_none _ setup name tactic _ h.0)
  local_first setup names (Make making) s tested h = absurd (making_none _ making (reads_of (Make making) s) h.0)

  -- nothing that is answered from the state takes a step
  undoing_none : (o : Option ProofValue) → Leaves goal goals basis ≡ undoes o → ⊥
  undoing_none None e = absurd (cc)
  undoing_none (Some p) e = by p.earlier e
    where
      by : (steps : List StepValue) → Leaves goal goals basis ≡ undoes_to steps → ⊥
      by [] e = absurd (cc)
      by (step ∷ steps) e = absurd (cc)

  rotating_none : (times : ℕ) (o : Option ProofValue) → Leaves goal goals basis ≡ rotates times o → ⊥
  rotating_none times None e = absurd (cc)
  rotating_none times (Some p) e = by p.newest.goals e
    where
      by : (gs : List GoalValue) → Leaves goal goals basis ≡ rotates_goals times gs → ⊥
      by [] e = absurd (cc)
      by (g ∷ gs) e = absurd (cc)

  dropping_none : (o : Option ProofValue) → Leaves goal goals basis ≡ drops o → ⊥
  dropping_none None e = absurd (cc)
  dropping_none (Some p) e = absurd (cc)

  importing_none : (name : List ℕ) (s : StateValue) (earlier : List EndedTheory) → Leaves goal goals basis ≡ imports name s earlier → ⊥
  importing_none name s earlier e = by (is_some s.proof) e
    where
      clash : (theory : Entries) (o : Option KeyValue) → Leaves goal goals basis ≡ imports_from s.entries theory o → ⊥
      clash theory None e = absurd (cc)
      clash theory (Some key) e = absurd (cc)

      found : (o : Option Entries) → Leaves goal goals basis ≡ imports_theory name s.entries o → ⊥
      found None e = absurd (cc)
      found (Some theory) e = clash theory (first_clash s.entries theory) e

      by : (b : Bool) → Leaves goal goals basis ≡ cond b (Refuses refusal.InProof []) (imports_theory name s.entries (entries_named name earlier)) → ⊥
      by true e = absurd (cc)
      by false e = found (entries_named name earlier) e

  direct_none : (command : DirectText) (s : StateValue) (earlier : List EndedTheory) → Leaves goal goals basis ≡ direct command s earlier → ⊥
  direct_none Back s earlier e = undoing_none s.proof e
  direct_none (Rotate times) s earlier e = rotating_none times s.proof e
  direct_none Oops s earlier e = dropping_none s.proof e
  direct_none (Import name) s earlier e = importing_none name s earlier e

  outcome_first : (setup : SetupValue) (earlier : List EndedTheory) (s : StateValue) (value : ReadText) (reads : Option ReadsValue) (tested : TestedValue) →
      AreReads value s reads → IsOutcome setup earlier s value reads tested (Leaves goal goals basis) → first_goal s.proof ≡ Some goal
  outcome_first setup earlier s (Reads (Local command)) None tested are h = absurd h
  outcome_first setup earlier s (Reads (Local command)) (Some reads) tested are h = let same : reads ≡ reads_of command s = cc in local_first setup (constant_names s.entries) command s tested (rw same at h)
  outcome_first setup earlier s (Reads (Direct command)) None tested are h = absurd (direct_none command s earlier h.0)
  outcome_first setup earlier s (Reads (Direct command)) (Some reads) tested are h = absurd h
  outcome_first setup earlier s (Breaks place) None tested are h = let e = h.0 in absurd (cc)
  outcome_first setup earlier s (Breaks place) (Some reads) tested are h = absurd h

pub can_step : (s : StateValue) (outcome : OutcomeValue) → IsKept s → IsOutcomeAt s outcome → (goal : GoalValue) (goals : List GoalValue) (basis : Items) (moves : List Move) → outcome ≡ Leaves goal goals basis → IsLeft basis moves goal goals → IfSome s.proof (CanStep basis moves goals)
can_step s outcome kept h goal goals basis moves e left = by s.proof refl
  where
    first : first_goal s.proof ≡ Some goal
    first = outcome_first goal goals basis h.setup h.earlier s h.value h.reads h.tested h.read (rw e at h.gets)

    by : (o : Option ProofValue) → s.proof ≡ o → IfSome o (CanStep basis moves goals)
    by None z = tt
    by (Some p) z =
        let own = newest_within (items_in s.entries) p.newest p.earlier (rw z at kept.2) in
        steps basis moves goal goals left p (items_agree s.entries p.newest.basis basis kept.0 own (leaves_within s outcome kept h goal goals basis e)) (rw z at first)

-- ---- what is made

pub makes_theorems : (change : Change) (o : OutcomeValue) → outcome_of change ≡ o → IsValidChange change → MakesTheorems o
makes_theorems change o e h = subst MakesTheorems e (by change h)
  where
    by : (c : Change) → IsValidChange c → MakesTheorems (outcome_of c)
    by (changes.Opens name statement basis) h = tt
    by (changes.Leaves goal step basis) h = tt
    by changes.Undoes h = tt
    by (changes.Rotates times) h = tt
    by (changes.Makes entries) h = h.0
    by (changes.Refuses kind arg) h = tt
