-- Each axiom on which something rests was stated by a `new_axiom`, row by row.
use Rattle.std.proofs.Common.{◌≡◌, ◌⊎◌, ℕ, suc, length, List, [], ◌∷◌, ◌++◌, map, Bool, true, false, cond, nat_eq, nat_lt, refl, sym, ◌∙◌, ap, subst, append_assoc, arith, inl, inr}
use Rattle.std.proofs.lemmas.Grind.{common_steps}
use Rattle.std.proofs.lemmas.Option.{same_Some}
use Rattle.std.specs.Prelude.{bytes_eq, codes, decimal, is_none, is_some, slice_index_or, take, Option, Some, None, Result, Ok, Err}
use Rattle.std.specs.FinSet as set
use Rattle.std.specs.List.{All, Contains}
use Rattle.std.proofs.lemmas.List.Elements.{All-nil, All-cons, All-weaker, All-filter, All-contains, All-contains_itself}
use Rattle.std.proofs.lemmas.Slice.Eq.{bytes_eq-Decides}
use Rattle.hol_types.specs.Tree.{TypeTree}
use Rattle.hol_terms.specs.Nameless.{Nameless, fixed, nameless_type}
use Rattle.hol_formulas.specs.Equation.{bool_type, dest_comb}
use Rattle.hol_kernel.specs.Item.{Item, declared_axiom, declared_constant, declared_type, defined_constant, defined_type}
use Rattle.hol_kernel.specs.Items.{Items, no_items, Holds, IsSubset}
use Rattle.hol_kernel.specs.Sequent.{no_hyps}
use Rattle.hol_kernel.specs.Signature.{item_types, item_constants}
use Rattle.hol_kernel.specs.Theorem.{Theorem, theorem_over}
use Rattle.hol_kernel.specs.Typing.{is_type_at}
use Rattle.hol_kernel.proofs.ItemOrder.{total, only}
use Rattle.hol_kernel.proofs.Members.{in_insert_cases, in_union_cases, not_in_empty}
use Rattle.hol_kernel.proofs.Subsets.{within_of_subset}
use Rattle.hol_equal.specs.Applied.{rand}
use Rattle.hol_definition.specs.ForAll.{for_all}
use Rattle.hol_goal.specs.Answer.{starting}
use Rattle.hol_goal.specs.Goal.{GoalValue}
use Rattle.hol_stack.specs.StackValue.{StepValue}
use Rattle.hol_combine.specs.Agreeing.{known}
use Rattle.hol_combine.specs.ExprSize.{expr_size}
use Rattle.hol_combine.specs.ExprValue.{ExprValue}
use Rattle.hol_combine.specs.Runs.{RefusalValue, DoesNotFit, LacksHyps, StopValue, TurnLimit, LargeGoal, RunValue, run}
use Rattle.hol_combine.specs.Runs as runs
use Rattle.hol_notation_tactics.specs.Parts.{parts_of}
use Rattle.hol_notation_tactics.specs.Text.{TacText}
use Rattle.hol_notation_terms.specs.Text.{QuotationText, DefinitionText}
use Rattle.hol_notation_commands.specs.Text.{TypeDefinitionText, MakingText, NewType, NewConstant, NewAxiom, NewDefinition, NewBasicTypeDefinition, LocalText, Goal, Apply, Qed, DefineTac, Make, Back, Rotate, Oops, Import, Local, Direct}
use Rattle.hol_notation_reader.specs.Reading.{ReadText, Reads, Breaks}
use Rattle.hol_resolve.specs.Reading.{ReadingValue, WrongArity, NoTyping, LargeReading, ReadsAs, type_reading}
use Rattle.hol_resolve.specs.Readings.{ReadingsValue}
use Rattle.hol_resolve.specs.Readings as quoting
use Rattle.hol_resolve.specs.declared.refusal.Refusal.{Refusal}
use Rattle.hol_theory.specs.Adding.{missing, first_clash}
use Rattle.hol_theory.specs.Constants.{constant_names}
use Rattle.hol_theory.specs.Entry.{EntryValue, AType, AConstant, ATheorem, ATac, Entries, entry_at, entry_basis}
use Rattle.hol_theory.specs.Key.{KeyValue, key_eq, key_text, theorem_key}
use Rattle.hol_theory.specs.Making.{type_entry, constant_entry, item_entries, IsNewType, IsNewConstant, IsNewAxiom}
use Rattle.hol_exec.specs.declared.reports.refusal.RefusalKind.{RefusalKind}
use Rattle.hol_exec.specs.declared.reports.refusal.RefusalKind.TheVariants as refusal
use Rattle.hol_exec.specs.At.{undoes_to, undoes, rotates_goals, rotates, drops, imports_theory, imports_from, entries_named, direct, IsOutcome}
use Rattle.hol_exec.specs.Defining.{first_free, first_unreflected}
use Rattle.hol_exec.specs.Expr.{RefusedValue, ResolutionValue, Resolved, Unresolved, first_not_bool, first_refusal, named_refusals, formulas_in, resolution_of, resolved_expr, resolved_formulas, resolved_read, resolved_untaken, IsResolvedPast}
use Rattle.hol_exec.specs.Keys.{keys_in, keys_of_definition, keys_of_term, keys_of_type}
use Rattle.hol_exec.specs.Local.{LocalValue, applied, finished, finishes, opens, opens_read, refused_outcome, resolved_outcome, run_outcome, stopped_outcome, IsApplying, IsLocalOutcome, IsOpening}
use Rattle.hol_exec.specs.Making.{MakesAxiomOf, MakesConstantOf, MakesDefined, MakesDefinitionOf, MakesOne, MakesTypeBy, MakesTypeFrom, MakesTypeOf, StatesAxiom, UnlessFree, UnlessOpen, UnlessTaken, IsMaking, taken}
use Rattle.hol_exec.specs.Naming.{names_expr, names_resolved, taken_tac, IsNaming}
use Rattle.hol_exec.specs.OutcomeValue.{OutcomeValue, Opens, Leaves, Undoes, Rotates, Makes, Refuses, after, rotated_in, stepped_in, undone_in, without_newest}
use Rattle.hol_exec.specs.ReadsValue.{ReadsValue, Values, AreReads, closing_of, reads_of, values_of}
use Rattle.hol_exec.specs.Resolved.{resolved_basis, theorem_at, with_value, with_values, occurs_in}
use Rattle.hol_exec.specs.Setup.{SetupValue}
use Rattle.hol_exec.specs.StateValue.{ProofValue, StateValue, start}
use Rattle.hol_exec.specs.Signature.{signature_of}
use Rattle.hol_exec.specs.Standing.{first_taken}
use Rattle.hol_exec.proofs.ReadOver.{prelude_within}
use Rattle.hol_document.specs.Documents.{Documents, TheoryText}
use Rattle.hol_document.specs.Afresh.{Row, IsRow, AreRows, TheoryRun, AreRuns, AreRunsOf, ended}
use Rattle.hol_document.specs.Asked.{commands_at, IsRunUpTo}
use Rattle.hol_document.proofs.Made.{made_more}
use Rattle.hol_session.specs.Origins.{IsStated, by_new_axiom, with_import, RestsOnStated, IsStatedIn, up_to}
use Rattle.hol_session.specs.Origins as stated
use Rattle.hol_session.specs.Theorems.{Stands, at_command, at_end, TellsOfTheorem}
use Rattle.hol_session.proofs.Origins.{made_here}

-- ---- what rests on axioms that rows stated

module _ (earlier : List TheoryRun) (rows : List Row) where
  -- each axiom among the items was stated
  abbrev Rests : Items → Type 0
  Rests items = (name : List ℕ) (p : Nameless) → Holds items (declared_axiom name p) → IsStated earlier rows name p

  -- so is each on which an entry rests, or an element of a proof's history
  abbrev EachRests : Entries → Type 0
  EachRests [] = Unit {0}
  EachRests (e ∷ entries) = Rests (entry_basis e.1) × EachRests entries

  abbrev HistoryRests : List StepValue → Type 0
  HistoryRests [] = Unit {0}
  HistoryRests (step ∷ steps) = Rests step.basis × HistoryRests steps

  abbrev ProofRests : Option ProofValue → Type 0
  ProofRests None = Unit {0}
  ProofRests (Some p) = HistoryRests (p.newest ∷ p.earlier)

  -- what an outcome makes, opens or leaves
  abbrev OutcomeRests : OutcomeValue → Type 0
  OutcomeRests (Opens name statement basis) = Rests basis
  OutcomeRests (Leaves goal goals basis) = Rests basis
  OutcomeRests Undoes = Unit {0}
  OutcomeRests (Rotates times) = Unit {0}
  OutcomeRests (Makes entries) = EachRests entries
  OutcomeRests (Refuses kind arg) = Unit {0}

  none_rests : Rests no_items
  none_rests name p h = absurd (not_in_empty total only (declared_axiom name p) h)

  within_rests : (few items : Items) → IsSubset few items → Rests items → Rests few
  within_rests few items within rests name p h = rests name p (within_of_subset few items within (declared_axiom name p) h)

  union_rests : (a b : Items) → Rests a → Rests b → Rests (set.union a b)
  union_rests a b f g name p h = by (in_union_cases total only a b (declared_axiom name p) h)
    where
      by : Holds a (declared_axiom name p) ⊎ Holds b (declared_axiom name p) → IsStated earlier rows name p
      by (inl i) = f name p i
      by (inr i) = g name p i

  -- one item more, which is no axiom or was stated
  insert_rests : (items : Items) (x : Item) → Rests items → ((name : List ℕ) (p : Nameless) → declared_axiom name p ≡ x → IsStated earlier rows name p) → Rests (set.insert items x)
  insert_rests items x rests own name p h = by (in_insert_cases total only items x (declared_axiom name p) h)
    where
      by : (declared_axiom name p ≡ x) ⊎ Holds items (declared_axiom name p) → IsStated earlier rows name p
      by (inl is) = own name p is
      by (inr i) = rests name p i

  each_append : (es more : Entries) → EachRests es → EachRests more → EachRests (es ++ more)
  each_append [] more h k = k
  each_append (e ∷ es) more h k = (h.0, each_append es more h.1 k)

  entry_rests : (es : Entries) (key : KeyValue) (value : EntryValue) → EachRests es → entry_at key es ≡ Some value → Rests (entry_basis value)
  entry_rests [] key value h e = absurd (cc)
  entry_rests (f ∷ es) key value h e = by (key_eq key f.0) e (λ later. entry_rests es key value h.1 later)
    where
      by : (b : Bool) → cond b (Some f.1) (entry_at key es) ≡ Some value → (entry_at key es ≡ Some value → Rests (entry_basis value)) → Rests (entry_basis value)
      by true found others = subst (λ (v : EntryValue). Rests (entry_basis v)) (same_Some f.1 value found) h.0
      by false found others = others found

  -- ---- what is resolved

  module _ (s : StateValue) (h : EachRests s.entries) where
    value_rests : (readings : ReadingsValue) (items : Items) (key : KeyValue) (value : Option EntryValue) → entry_at key s.entries ≡ value → Rests items → Rests (with_value readings items key value)
    value_rests readings items key None e rests = rests
    value_rests readings items key (Some (AType arity item basis)) e rests = union_rests items basis rests (entry_rests s.entries key (AType arity item basis) h e)
    value_rests readings items key (Some (AConstant ty item basis)) e rests = by (occurs_in key.name readings)
      where
        by : (b : Bool) → Rests (cond b (set.union items basis) items)
        by true = union_rests items basis rests (entry_rests s.entries key (AConstant ty item basis) h e)
        by false = rests
    value_rests readings items key (Some (ATheorem th)) e rests = union_rests items th.basis rests (entry_rests s.entries key (ATheorem th) h e)
    value_rests readings items key (Some (ATac x bases basis)) e rests = union_rests items basis rests (entry_rests s.entries key (ATac x bases basis) h e)

    values_rest : (readings : ReadingsValue) (items : Items) (keys : List KeyValue) → Rests items → Rests (with_values readings items (values_of s.entries keys))
    values_rest readings items [] rests = rests
    values_rest readings items (key ∷ keys) rests =
        values_rest readings (with_value readings items key (entry_at key s.entries)) keys (value_rests readings items key (entry_at key s.entries) refl rests)

    resolved_rests : (keys : List KeyValue) (readings : ReadingsValue) → Rests (resolved_basis (values_of s.entries keys) readings)
    resolved_rests keys readings = values_rest readings no_items keys none_rests

    member_rests : (key : KeyValue) (th : Theorem) → theorem_at key (entry_at key s.entries) ≡ Some th → Rests th.basis
    member_rests key th e = by (entry_at key s.entries) refl e
      where
        by : (o : Option EntryValue) → entry_at key s.entries ≡ o → theorem_at key o ≡ Some th → Rests th.basis
        by None is f = within_rests th.basis no_items (prelude_within no_items key.kind key.name th f) none_rests
        by (Some (AType arity item basis)) is f = absurd (cc)
        by (Some (AConstant ty item basis)) is f = absurd (cc)
        by (Some (ATac x bases basis)) is f = absurd (cc)
        by (Some (ATheorem own)) is f = subst (λ (t : Theorem). Rests t.basis) (same_Some own th f) (entry_rests s.entries key (ATheorem own) h is)

    -- ---- `g`

    opened_rests : (name : List ℕ) (p : Nameless) (basis : Items) (key : Option KeyValue) → Rests basis → OutcomeRests (opens name p basis key)
    opened_rests name p basis None rests = rests
    opened_rests name p basis (Some key) rests = tt

    if_rests : (b : Bool) (x y : OutcomeValue) → OutcomeRests x → OutcomeRests y → OutcomeRests (cond b x y)
    if_rests true x y f g = f
    if_rests false x y f g = g

    is_rests : (o x : OutcomeValue) → o ≡ x → OutcomeRests x → OutcomeRests o
    is_rests o x e rests = subst OutcomeRests (sym e) rests

    opening_rests : (in_proof : Bool) (name : List ℕ) (q : QuotationText) (o : OutcomeValue) → IsOpening in_proof name q (reads_of (Goal name q) s) o → OutcomeRests o
    opening_rests true name q o given = is_rests o (Refuses refusal.InProof []) given tt
    opening_rests false name q o (reading, is, e) = is_rests o (opens_read name q.place (reads_of (Goal name q) s) reading) e (by reading)
      where
        by : (reading : ReadingValue Nameless) → OutcomeRests (opens_read name q.place (reads_of (Goal name q) s) reading)
        by WrongArity = tt
        by NoTyping = tt
        by LargeReading = tt
        by (ReadsAs p) =
            let basis : Items = resolved_basis (values_of s.entries (keys_of_term q.term)) ((q.place, quoting.ATerm p) ∷ []) in
            let key : Option KeyValue = first_taken [] (reads_of (Goal name q) s).made in
            if_rests (is_type_at (nameless_type [] p) bool_type) (opens name p basis key) (Refuses refusal.NotBool (decimal q.place))
            (opened_rests name p basis key (resolved_rests (keys_of_term q.term) ((q.place, quoting.ATerm p) ∷ []))) tt

    -- ---- `e` and `deftac`

    -- what is resolved
    abbrev ResolutionRests : ResolutionValue → Type 0
    ResolutionRests (Resolved e basis readings) = Rests basis
    ResolutionRests (Unresolved kind arg) = Unit {0}

    resolution_rests : (basis : Items) (readings : ReadingsValue) (r : Result ExprValue RefusedValue) → Rests basis → ResolutionRests (resolution_of basis readings r)
    resolution_rests basis readings (Ok e) rests = rests
    resolution_rests basis readings (Err refused) rests = tt

    untaken_rests : (setup : SetupValue) (key : Option KeyValue) (tactic : TacText) (keys : List KeyValue) (readings : ReadingsValue) → ResolutionRests (resolved_untaken setup key tactic (values_of s.entries keys) readings)
    untaken_rests setup (Some key) tactic keys readings = tt
    untaken_rests setup None tactic keys readings =
        let cited : Values = values_of s.entries keys in
        let basis : Items = resolved_basis cited readings in
        resolution_rests basis readings (resolved_expr (record { table = setup.table; cited = cited; readings = readings; basis = basis }) tactic) (resolved_rests keys readings)

    formulas_rest : (setup : SetupValue) (key : Option KeyValue) (tactic : TacText) (keys : List KeyValue) (readings : ReadingsValue) (place : Option ℕ)
        → ResolutionRests (resolved_formulas setup key tactic (values_of s.entries keys) readings place)
    formulas_rest setup key tactic keys readings (Some place) = tt
    formulas_rest setup key tactic keys readings None = untaken_rests setup key tactic keys readings

    read_rests : (setup : SetupValue) (key : Option KeyValue) (tactic : TacText) (keys : List KeyValue) (r : Result ReadingsValue Refusal) → ResolutionRests (resolved_read setup key tactic (values_of s.entries keys) r)
    read_rests setup key tactic keys (Ok readings) = formulas_rest setup key tactic keys readings (first_not_bool readings (formulas_in (parts_of tactic)))
    read_rests setup key tactic keys (Err r) = tt

    past_rests : (setup : SetupValue) (key : Option KeyValue) (tactic : TacText) (keys : List KeyValue) (refused : Option (RefusalKind × List ℕ)) (r : ResolutionValue)
        → IsResolvedPast setup key tactic (values_of s.entries keys) refused r → ResolutionRests r
    past_rests setup key tactic keys (Some refused) r past = subst ResolutionRests (sym past) tt
    past_rests setup key tactic keys None r past = subst ResolutionRests (sym past.2) (read_rests setup key tactic keys past.0)

    refused_rests : (why : RefusalValue) → OutcomeRests (refused_outcome why)
    refused_rests (DoesNotFit name) = tt
    refused_rests (LacksHyps name) = tt

    stopped_rests : (why : StopValue) → OutcomeRests (stopped_outcome why)
    stopped_rests TurnLimit = tt
    stopped_rests LargeGoal = tt

    run_rests : (names : List (List ℕ)) (goal : GoalValue) (basis : Items) (value : RunValue) → Rests basis → OutcomeRests (run_outcome names goal basis value).outcome
    run_rests names goal basis (runs.Leaves goals used) rests = rests
    run_rests names goal basis (runs.Refuses why used) rests = refused_rests why
    run_rests names goal basis (runs.Stops why tested) rests = stopped_rests why

    applied_rests : (setup : SetupValue) (names : List (List ℕ)) (goal : Option GoalValue) (e : ExprValue) (basis : Items) → Rests basis → OutcomeRests (applied setup names goal e basis).outcome
    applied_rests setup names None e basis rests = tt
    applied_rests setup names (Some goal) e basis rests = run_rests names goal basis (run (known setup.table names) e goal (starting setup.turns)) rests

    outcome_resolved_rests : (setup : SetupValue) (names : List (List ℕ)) (goal : Option GoalValue) (r : ResolutionValue) → ResolutionRests r → OutcomeRests (resolved_outcome setup names goal r).outcome
    outcome_resolved_rests setup names goal (Resolved e basis readings) rests = applied_rests setup names goal e basis rests
    outcome_resolved_rests setup names goal (Unresolved kind arg) rests = tt

    applying_rests : (in_proof : Bool) (setup : SetupValue) (names : List (List ℕ)) (tactic : TacText) (given : LocalValue) → IsApplying in_proof setup names tactic (reads_of (Apply tactic) s) given
        → OutcomeRests given.outcome
    applying_rests false setup names tactic given is = subst (λ (l : LocalValue). OutcomeRests l.outcome) (sym is) tt
    applying_rests true setup names tactic given (resolution, is, e) =
        subst (λ (l : LocalValue). OutcomeRests l.outcome) (sym e)
        (outcome_resolved_rests setup names (reads_of (Apply tactic) s).goal resolution
        (past_rests setup None tactic (keys_in (parts_of tactic)) (first_refusal (named_refusals setup None tactic (values_of s.entries (keys_in (parts_of tactic))))) resolution is))

    naming_rests : (in_proof : Bool) (setup : SetupValue) (name : List ℕ) (tactic : TacText) (o : OutcomeValue) → IsNaming in_proof setup name tactic (reads_of (DefineTac name tactic) s) o → OutcomeRests o
    naming_rests true setup name tactic o given = is_rests o (Refuses refusal.InProof []) given tt
    naming_rests false setup name tactic o (resolution, is, e) =
        is_rests o (names_resolved setup name tactic reads.cited resolution) e
        (by resolution (past_rests setup (taken_tac setup name reads) tactic (keys_in (parts_of tactic)) (first_refusal (named_refusals setup (Some name) tactic reads.cited)) resolution is))
      where
        reads : ReadsValue
        reads = reads_of (DefineTac name tactic) s

        by : (r : ResolutionValue) → ResolutionRests r → OutcomeRests (names_resolved setup name tactic (values_of s.entries (keys_in (parts_of tactic))) r)
        by (Resolved expr basis readings) rests =
            if_rests (nat_lt 20000 (expr_size expr)) (Refuses refusal.TooLarge []) (names_expr setup name tactic (values_of s.entries (keys_in (parts_of tactic))) readings expr basis) tt (rests, tt)
        by (Unresolved kind arg) rests = tt

    -- ---- `qed`

    closing_rests : (proof : Option ProofValue) → ProofRests proof → OutcomeRests (finishes (closing_of proof))
    closing_rests None k = tt
    closing_rests (Some p) k =
        if_rests (nat_eq (length p.newest.goals) 0) (finished (record { name = p.name; statement = p.statement; basis = p.newest.basis; open_goals = length p.newest.goals }))
        (Refuses refusal.GoalsRemain []) (k.0, tt) tt

    -- ---- what makes types, constants, axioms and definitions

    unless_taken_rests : (key : Option KeyValue) (Made : OutcomeValue → Type 0) (o : OutcomeValue) → UnlessTaken key Made o → (Made o → OutcomeRests o) → OutcomeRests o
    unless_taken_rests None Made o made f = f made
    unless_taken_rests (Some key) Made o made f = is_rests o (Refuses refusal.NameTaken (key_text key)) made tt

    one_rests : (Is : KeyValue × EntryValue → Type 0) (o : OutcomeValue) → MakesOne Is o → ((e : KeyValue × EntryValue) → Is e → o ≡ Makes (e ∷ []) → Rests (entry_basis e.1)) → OutcomeRests o
    one_rests Is o (entry, is, e) f = is_rests o (Makes (entry ∷ [])) e (f entry is e, tt)

    -- each entry of an item rests on the basis
    map_rests : {A : Type 0} (f : A → KeyValue × EntryValue) (xs : List A) → ((x : A) → Rests (entry_basis (f x).1)) → EachRests (map f xs)
    map_rests f [] each = tt
    map_rests f (x ∷ xs) each = (each x, map_rests f xs each)

    item_rests : (x : Item) (basis : Items) → Rests basis → EachRests (item_entries x basis)
    item_rests x basis rests =
        each_append (map (type_entry x basis) (item_types x)) (map (constant_entry x basis) (item_constants x))
        (map_rests (type_entry x basis) (item_types x) (λ made. rests)) (map_rests (constant_entry x basis) (item_constants x) (λ made. rests))

    defined_rests : (basis : Items) (name : List ℕ) (d : DefinitionText) (r : Nameless) (o : OutcomeValue) → Rests basis → MakesDefined basis name d r o → OutcomeRests o
    defined_rests basis name d r o rests made =
        let larger : Rests made.definition.basis =
        subst Rests (sym made.new.defined.larger) (insert_rests basis (defined_constant d.name r) rests (λ n p e. absurd (cc))) in
        let th : Theorem = theorem_over made.definition.basis no_hyps (for_all (length d.parameters) made.of_type (fixed d.name made.of_type) r) in
        is_rests o (Makes (made.entries ++ (theorem_key name, ATheorem th) ∷ [])) made.makes
        (each_append made.entries ((theorem_key name, ATheorem th) ∷ [])
        (subst EachRests (sym made.new.entries_are) (item_rests (defined_constant d.name r) made.definition.basis larger)) (larger, tt))

    unless_open_rests : (x u : Option (List ℕ)) (Made : OutcomeValue → Type 0) (o : OutcomeValue) → UnlessOpen x u Made o → (Made o → OutcomeRests o) → OutcomeRests o
    unless_open_rests (Some x) u Made o made f = is_rests o (Refuses refusal.NotClosed x) made tt
    unless_open_rests None (Some a) Made o made f = is_rests o (Refuses refusal.NotReflected a) made tt
    unless_open_rests None None Made o made f = f made

    type_by_rests : (d : TypeDefinitionText) (member : Theorem) (o : OutcomeValue) → Rests member.basis → MakesTypeBy d member o → OutcomeRests o
    type_by_rests d member o rests (entries, new, e) =
        let item : Item = defined_type d.ty d.abs d.rep new.defined.predicate in
        let larger : Rests new.larger = subst Rests (sym new.defined.larger) (insert_rests member.basis item rests (λ n p f. absurd (cc))) in
        let first : Rests new.abs_rep.basis = subst (λ (t : Theorem). Rests t.basis) (sym new.defined.gives_first) larger in
        let second : Rests new.rep_abs.basis = subst (λ (t : Theorem). Rests t.basis) (sym new.defined.gives_second) larger in
        is_rests o (Makes entries) e (subst EachRests (sym new.entries_are)
        (each_append (item_entries item new.larger) ((theorem_key d.abs_rep, ATheorem new.abs_rep) ∷ (theorem_key d.rep_abs, ATheorem new.rep_abs) ∷ [])
        (item_rests item new.larger larger) (first, (second, tt))))

    type_of_rests : (d : TypeDefinitionText) (member : Theorem) (parts : Option (Nameless × Nameless)) (o : OutcomeValue) → Rests member.basis → MakesTypeOf d member parts o → OutcomeRests o
    type_of_rests d member None o rests made = is_rests o (Refuses refusal.BadRule (codes "new_basic_type_definition")) made tt
    type_of_rests d member (Some parts) o rests made = by (first_free parts.0) made
      where
        by : (x : Option (List ℕ)) → UnlessFree x (MakesTypeBy d member) o → OutcomeRests o
        by None m = type_by_rests d member o rests m
        by (Some x) m = is_rests o (Refuses refusal.NotClosed x) m tt

    type_from_rests : (d : TypeDefinitionText) (reads : ReadsValue) (member : Option Theorem) (o : OutcomeValue) → ((th : Theorem) → member ≡ Some th → Rests th.basis) → MakesTypeFrom d reads member o → OutcomeRests o
    type_from_rests d reads None o rests made = is_rests o (Refuses refusal.UnknownTheorem d.theorem) made tt
    type_from_rests d reads (Some member) o rests made =
        unless_taken_rests (taken reads) (MakesTypeOf d member (dest_comb member.sequent.concl)) o made (type_of_rests d member (dest_comb member.sequent.concl) o (rests member refl))

    -- an axiom that a command makes was stated
    abbrev AreStated : MakingText → OutcomeValue → Type 0
    AreStated making o = (name : List ℕ) (q : QuotationText) (p : Nameless) (basis : Items) → making ≡ NewAxiom name q
        → o ≡ Makes ((theorem_key name, ATheorem (theorem_over basis no_hyps p)) ∷ []) → IsStated earlier rows name p

    axiom_rests : (name : List ℕ) (q : QuotationText) (p : Nameless) (basis : Items) (o : OutcomeValue) → AreStated (NewAxiom name q) o → Rests basis → MakesOne (IsNewAxiom basis name p) o → OutcomeRests o
    axiom_rests name q p basis o stated rests made =
        one_rests (IsNewAxiom basis name p) o made (λ e is done.
        subst Rests (sym is.declared.2) (insert_rests basis (declared_axiom name p) rests (λ n r same.
        let own : IsStated earlier rows name p = stated name q p (entry_basis e.1) refl (done ∙ ap (λ (x : KeyValue × EntryValue). Makes (x ∷ [])) is.entry_is) in
        let named : name ≡ n = cc in
        let says : p ≡ r = cc in
        subst (λ (x : List ℕ). IsStated earlier rows x r) named (subst (λ (x : Nameless). IsStated earlier rows name x) says own))))

    making_rests : (in_proof : Bool) (making : MakingText) (o : OutcomeValue) → IsMaking in_proof making (reads_of (Make making) s) o → AreStated making o → OutcomeRests o
    making_rests true making o made stated = is_rests o (Refuses refusal.InProof []) made tt
    making_rests false (NewType name arity) o made stated =
        unless_taken_rests (taken (reads_of (Make (NewType name arity)) s)) (MakesOne (IsNewType no_items name arity)) o made
        (λ one. one_rests (IsNewType no_items name arity) o one
        (λ e is done. subst Rests (sym is.declared.2) (insert_rests no_items (declared_type name arity) none_rests (λ n p f. absurd (cc)))))
    making_rests false (NewConstant name q) o made stated = by (type_reading (signature_of (reads_of (Make (NewConstant name q)) s).cited) q.ty) made
      where
        by : (reading : ReadingValue TypeTree) → MakesConstantOf name q.place (reads_of (Make (NewConstant name q)) s) reading o → OutcomeRests o
        by WrongArity m = is_rests o (Refuses refusal.Arity (decimal q.place)) m tt
        by NoTyping m = is_rests o (Refuses refusal.Untypable (decimal q.place)) m tt
        by LargeReading m = is_rests o (Refuses refusal.TooLarge []) m tt
        by (ReadsAs a) m =
            let basis : Items = resolved_basis (values_of s.entries (keys_of_type q.ty)) ((q.place, quoting.AType a) ∷ []) in
            unless_taken_rests (taken (reads_of (Make (NewConstant name q)) s)) (MakesOne (IsNewConstant basis name a)) o m
            (λ one. one_rests (IsNewConstant basis name a) o one
            (λ e is done. subst Rests (sym is.declared.2)
            (insert_rests basis (declared_constant name a) (resolved_rests (keys_of_type q.ty) ((q.place, quoting.AType a) ∷ [])) (λ n p f. absurd (cc)))))
    making_rests false (NewAxiom name q) o (reading, is_read, made) stated = by reading made
      where
        formula : (p : Nameless) (b : Bool) → StatesAxiom name q.place (reads_of (Make (NewAxiom name q)) s) p b o → OutcomeRests o
        formula p true m =
            let basis : Items = resolved_basis (values_of s.entries (keys_of_term q.term)) ((q.place, quoting.ATerm p) ∷ []) in
            unless_taken_rests (taken (reads_of (Make (NewAxiom name q)) s)) (MakesOne (IsNewAxiom basis name p)) o m
            (axiom_rests name q p basis o stated (resolved_rests (keys_of_term q.term) ((q.place, quoting.ATerm p) ∷ [])))
        formula p false m = is_rests o (Refuses refusal.NotBool (decimal q.place)) m tt

        by : (reading : ReadingValue Nameless) → MakesAxiomOf name q.place (reads_of (Make (NewAxiom name q)) s) reading o → OutcomeRests o
        by WrongArity m = is_rests o (Refuses refusal.Arity (decimal q.place)) m tt
        by NoTyping m = is_rests o (Refuses refusal.Untypable (decimal q.place)) m tt
        by LargeReading m = is_rests o (Refuses refusal.TooLarge []) m tt
        by (ReadsAs p) m = formula p (is_type_at (nameless_type [] p) bool_type) m
    making_rests false (NewDefinition name d) o (reading, is_read, made) stated = by reading made
      where
        by : (reading : ReadingValue Nameless) → MakesDefinitionOf name d (reads_of (Make (NewDefinition name d)) s) reading o → OutcomeRests o
        by WrongArity m = is_rests o (Refuses refusal.Arity (decimal d.place)) m tt
        by NoTyping m = is_rests o (Refuses refusal.Untypable (decimal d.place)) m tt
        by LargeReading m = is_rests o (Refuses refusal.TooLarge []) m tt
        by (ReadsAs p) m =
            let basis : Items = resolved_basis (values_of s.entries (keys_of_definition d)) ((d.place, quoting.ATerm p) ∷ []) in
            let rests : Rests basis = resolved_rests (keys_of_definition d) ((d.place, quoting.ATerm p) ∷ []) in
            unless_taken_rests (taken (reads_of (Make (NewDefinition name d)) s)) (UnlessOpen (first_free (rand p)) (first_unreflected (rand p)) (MakesDefined basis name d (rand p))) o m
            (λ closed. unless_open_rests (first_free (rand p)) (first_unreflected (rand p)) (MakesDefined basis name d (rand p)) o closed (defined_rests basis name d (rand p) o rests))
    making_rests false (NewBasicTypeDefinition d) o made stated =
        type_from_rests d (reads_of (Make (NewBasicTypeDefinition d)) s) (theorem_at (theorem_key d.theorem) (entry_at (theorem_key d.theorem) s.entries)) o (member_rests (theorem_key d.theorem)) made

    -- of commands that read the state
    abbrev AreStatedBy : LocalText → OutcomeValue → Type 0
    AreStatedBy command o = (making : MakingText) → command ≡ Make making → AreStated making o

    local_rests : (setup : SetupValue) (names : List (List ℕ)) (command : LocalText) (given : LocalValue) → ProofRests s.proof → IsLocalOutcome setup names command (reads_of command s) given
        → AreStatedBy command given.outcome → OutcomeRests given.outcome
    local_rests setup names (Goal name q) given k is stated = opening_rests (is_some s.proof) name q given.outcome is.0
    local_rests setup names (Apply tactic) given k is stated = applying_rests (is_some s.proof) setup names tactic given is
    local_rests setup names Qed given k is stated = subst (λ (l : LocalValue). OutcomeRests l.outcome) (sym is) (closing_rests s.proof k)
    local_rests setup names (DefineTac name tactic) given k is stated = naming_rests (is_some s.proof) setup name tactic given.outcome is.0
    local_rests setup names (Make making) given k is stated = making_rests (is_some s.proof) making given.outcome is.0 (stated making refl)

  -- ---- what is answered from the state

  undoes_rests : (proof : Option ProofValue) → OutcomeRests (undoes proof)
  undoes_rests None = tt
  undoes_rests (Some p) = by p.earlier
    where
      by : (steps : List StepValue) → OutcomeRests (undoes_to steps)
      by [] = tt
      by (step ∷ steps) = tt

  rotates_rests : (times : ℕ) (proof : Option ProofValue) → OutcomeRests (rotates times proof)
  rotates_rests times None = tt
  rotates_rests times (Some p) = by p.newest.goals
    where
      by : (goals : List GoalValue) → OutcomeRests (rotates_goals times goals)
      by [] = tt
      by (goal ∷ goals) = tt

  drops_rests : (proof : Option ProofValue) → OutcomeRests (drops proof)
  drops_rests None = tt
  drops_rests (Some p) = tt

  -- ---- the next state

  stepped_rests : (goals : List GoalValue) (basis : Items) (proof : Option ProofValue) → Rests basis → ProofRests proof → ProofRests (stepped_in goals basis proof)
  stepped_rests goals basis None rests k = tt
  stepped_rests goals basis (Some p) rests k = (union_rests p.newest.basis basis k.0 rests, k)

  undone_rests : (proof : Option ProofValue) → ProofRests proof → ProofRests (undone_in proof)
  undone_rests None k = tt
  undone_rests (Some p) k = by p.earlier refl
    where
      by : (steps : List StepValue) → p.earlier ≡ steps → ProofRests (Some (without_newest p steps))
      by [] e = k
      by (step ∷ steps) e = subst HistoryRests e k.1

  rotated_rests : (times : ℕ) (proof : Option ProofValue) → ProofRests proof → ProofRests (rotated_in times proof)
  rotated_rests times None k = tt
  rotated_rests times (Some p) k = (k.0, k)

  after_rests : (s : StateValue) (o : OutcomeValue) → OutcomeRests o → EachRests s.entries → ProofRests s.proof → EachRests (after s o).entries × ProofRests (after s o).proof
  after_rests s (Opens name statement basis) rests h k = (h, (rests, tt))
  after_rests s (Leaves goal goals basis) rests h k = (h, stepped_rests goals basis s.proof rests k)
  after_rests s Undoes rests h k = (h, undone_rests s.proof k)
  after_rests s (Rotates times) rests h k = (h, rotated_rests times s.proof k)
  after_rests s (Makes entries) rests h k = (each_append s.entries entries h rests, tt)
  after_rests s (Refuses kind arg) rests h k = (h, k)

  -- ---- as one says it of a list

  each_all : (es : Entries) → EachRests es → All (RestsOnStated earlier rows) es
  each_all [] h = All-nil (RestsOnStated earlier rows)
  each_all (e ∷ es) h = All-cons (RestsOnStated earlier rows) e es h.0 (each_all es h.1)

  all_each : (es : Entries) → All (RestsOnStated earlier rows) es → EachRests es
  all_each [] h = tt
  all_each (e ∷ es) h = (h 0 e (omega arith), all_each es (λ k d l. h (suc k) d (omega (arith, l))))

-- ---- one row more takes nothing away

stated_more : (earlier : List TheoryRun) (rows : List Row) (row : Row) (name : List ℕ) (p : Nameless) → IsStated earlier rows name p → IsStated earlier (rows ++ row ∷ []) name p
stated_more earlier rows row name p (by_new_axiom _ _ _ _ th made quotation is says) = by_new_axiom earlier (rows ++ row ∷ []) name p th (made_more rows row (theorem_key name, ATheorem th) made) quotation is says
stated_more earlier rows row name p (with_import _ _ _ _ entry made before run later splits is from) =
    with_import earlier (rows ++ row ∷ []) name p entry (made_more rows row entry made) before run later splits is from

each_more : (earlier : List TheoryRun) (rows : List Row) (row : Row) (es : Entries) → EachRests earlier rows es → EachRests earlier (rows ++ row ∷ []) es
each_more earlier rows row [] h = tt
each_more earlier rows row (e ∷ es) h = (λ name p i. stated_more earlier rows row name p (h.0 name p i), each_more earlier rows row es h.1)

history_more : (earlier : List TheoryRun) (rows : List Row) (row : Row) (steps : List StepValue) → HistoryRests earlier rows steps → HistoryRests earlier (rows ++ row ∷ []) steps
history_more earlier rows row [] h = tt
history_more earlier rows row (step ∷ steps) h = (λ name p i. stated_more earlier rows row name p (h.0 name p i), history_more earlier rows row steps h.1)

proof_more : (earlier : List TheoryRun) (rows : List Row) (row : Row) (proof : Option ProofValue) → ProofRests earlier rows proof → ProofRests earlier (rows ++ row ∷ []) proof
proof_more earlier rows row None h = tt
proof_more earlier rows row (Some p) h = history_more earlier rows row (p.newest ∷ p.earlier) h

-- ---- imports

-- what each of the runs ends with, which come after others, rests on axioms that were stated in it or in those before it
abbrev RestAfter : List TheoryRun → List TheoryRun → Type 0
RestAfter front [] = Unit {0}
RestAfter front (run ∷ runs) = All (RestsOnStated front run.rows) run.last.entries × RestAfter (front ++ run ∷ []) runs

-- the run whose theory is imported, among those that come after others
abbrev Found : List TheoryRun → List ℕ → Entries → Type 0
Found runs name theory =
    (before : List TheoryRun) × (run : TheoryRun) × (later : List TheoryRun) × (runs ≡ before ++ run ∷ later) × (run.name ≡ name) × (run.last.entries ≡ theory)
    × All (RestsOnStated before run.rows) run.last.entries

found_run : (front runs : List TheoryRun) (name : List ℕ) (theory : Entries) → RestAfter front runs → entries_named name (map ended runs) ≡ Some theory → Found (front ++ runs) name theory
found_run front [] name theory rests h = absurd (cc)
found_run front (run ∷ runs) name theory rests h =
    by (bytes_eq run.name name) refl h
    (λ k. subst (λ all. Found all name theory) (append_assoc front (run ∷ []) runs) (found_run (front ++ run ∷ []) runs name theory rests.1 k))
  where
    by : (b : Bool) → bytes_eq run.name name ≡ b → cond b (Some run.last.entries) (entries_named name (map ended runs)) ≡ Some theory
        → (entries_named name (map ended runs) ≡ Some theory → Found (front ++ run ∷ runs) name theory) → Found (front ++ run ∷ runs) name theory
    by true e h more = (front, run, runs, refl, (bytes_eq-Decides run.name name).0 e, same_Some run.last.entries theory h, rests.0)
    by false e h more = more h

module _ (earlier : List TheoryRun) (before : List Row) (row : Row) where
  abbrev Rows : List Row
  Rows = before ++ row ∷ []

  brought : (s : StateValue) (name : List ℕ) (theory : Entries) → row.value ≡ Reads (Direct (Import name)) → row.outcome ≡ Makes (missing s.entries theory) → Found earlier name theory
      → EachRests earlier Rows (missing s.entries theory)
  brought s name theory is made (front, run, later, splits, named, last, own) =
      all_each earlier Rows entries (All-weaker (Contains entries) (RestsOnStated earlier Rows) by entries (All-contains_itself entries))
    where
      entries : Entries
      entries = missing s.entries theory

      kept : All (RestsOnStated front run.rows) (missing s.entries theory)
      kept = All-filter (λ x. is_none (entry_at x.0 s.entries)) (RestsOnStated front run.rows) theory (subst (All (RestsOnStated front run.rows)) last own)

      by : (e : KeyValue × EntryValue) → Contains (missing s.entries theory) e → RestsOnStated earlier Rows e
      by e among n p h =
          with_import earlier Rows n p e (made_here before row (missing s.entries theory) e made among) front run later splits (is ∙ ap (λ (x : List ℕ). Reads (Direct (Import x))) (sym named))
          (All-contains (RestsOnStated front run.rows) (missing s.entries theory) e kept among n p h)

  import_rests : (s : StateValue) (name : List ℕ) → RestAfter [] earlier → row.value ≡ Reads (Direct (Import name)) → row.outcome ≡ direct (Import name) s (map ended earlier)
      → OutcomeRests earlier Rows row.outcome
  import_rests s name rests is imports = in_proof (is_some s.proof) imports
    where
      taken_by : (theory : Entries) → Found earlier name theory → (clash : Option KeyValue) → row.outcome ≡ imports_from s.entries theory clash → OutcomeRests earlier Rows row.outcome
      taken_by theory found (Some key) e = subst (OutcomeRests earlier Rows) (sym e) tt
      taken_by theory found None e = subst (OutcomeRests earlier Rows) (sym e) (brought s name theory is e found)

      from : (theory : Option Entries) → entries_named name (map ended earlier) ≡ theory → row.outcome ≡ imports_theory name s.entries theory → OutcomeRests earlier Rows row.outcome
      from None named e = subst (OutcomeRests earlier Rows) (sym e) tt
      from (Some theory) named e = taken_by theory (found_run [] earlier name theory rests named) (first_clash s.entries theory) e

      in_proof : (b : Bool) → row.outcome ≡ cond b (Refuses refusal.InProof []) (imports_theory name s.entries (entries_named name (map ended earlier))) → OutcomeRests earlier Rows row.outcome
      in_proof true e = subst (OutcomeRests earlier Rows) (sym e) tt
      in_proof false e = from (entries_named name (map ended earlier)) refl e

  -- ---- one row

  -- an axiom that the row made
  stated_here : (command : LocalText) → row.value ≡ Reads (Local command) → (making : MakingText) → command ≡ Make making → (name : List ℕ) (q : QuotationText) (p : Nameless) (basis : Items) → making ≡ NewAxiom name q
      → row.outcome ≡ Makes ((theorem_key name, ATheorem (theorem_over basis no_hyps p)) ∷ []) → IsStated earlier Rows name p
  stated_here command is making makes name q p basis states made =
      let th : Theorem = theorem_over basis no_hyps p in
      let entry : KeyValue × EntryValue = (theorem_key name, ATheorem th) in
      by_new_axiom earlier Rows name p th (made_here before row (entry ∷ []) entry made (All-contains_itself (entry ∷ []) 0 entry (omega arith))) q
      (is ∙ ap (λ (c : LocalText). Reads (Local c)) (makes ∙ ap Make states)) refl

  row_rests : (setup : SetupValue) (s : StateValue) (value : ReadText) (reads : Option ReadsValue) → RestAfter [] earlier → row.value ≡ value → AreReads value s reads
      → IsOutcome setup (map ended earlier) s value reads row.tested row.outcome → EachRests earlier Rows s.entries → ProofRests earlier Rows s.proof → OutcomeRests earlier Rows row.outcome
  row_rests setup s (Reads (Local command)) None rests is are gets h k = absurd gets
  row_rests setup s (Reads (Local command)) (Some reads) rests is are gets h k =
      let given : LocalValue = record { outcome = row.outcome; tested = row.tested } in
      let read : reads ≡ reads_of command s = same_Some reads (reads_of command s) are in
      local_rests earlier Rows s h setup (constant_names s.entries) command given k
      (subst (λ (r : ReadsValue). IsLocalOutcome setup (constant_names s.entries) command r given) read gets) (stated_here command is)
  row_rests setup s (Reads (Direct command)) (Some reads) rests is are gets h k = absurd gets
  row_rests setup s (Reads (Direct Back)) None rests is are gets h k = subst (OutcomeRests earlier Rows) (sym gets.0) (undoes_rests earlier Rows s.proof)
  row_rests setup s (Reads (Direct (Rotate times))) None rests is are gets h k = subst (OutcomeRests earlier Rows) (sym gets.0) (rotates_rests earlier Rows times s.proof)
  row_rests setup s (Reads (Direct Oops)) None rests is are gets h k = subst (OutcomeRests earlier Rows) (sym gets.0) (drops_rests earlier Rows s.proof)
  row_rests setup s (Reads (Direct (Import name))) None rests is are gets h k = import_rests s name rests is gets.0
  row_rests setup s (Breaks place) None rests is are gets h k = subst (OutcomeRests earlier Rows) (sym gets.0) tt
  row_rests setup s (Breaks place) (Some reads) rests is are gets h k = absurd gets

-- ---- rows and runs

abbrev StateRests : List TheoryRun → List Row → StateValue → Type 0
StateRests earlier rows s = EachRests earlier rows s.entries × ProofRests earlier rows s.proof

rows_rest : (setup : SetupValue) (earlier : List TheoryRun) (before : List Row) (s : StateValue) (texts : List (List ℕ)) (rows : List Row) (last : StateValue) → RestAfter [] earlier
    → AreRows setup (map ended earlier) s texts rows last → EachRests earlier before s.entries → ProofRests earlier before s.proof → StateRests earlier (before ++ rows) last
rows_rest setup earlier before s [] [] last rests are h k =
    let none : before ++ [] ≡ before = grind (arith, common_steps) in
    rw (none, are) (h, k)
rows_rest setup earlier before s [] (row ∷ rows) last rests are h k = absurd are
rows_rest setup earlier before s (text ∷ texts) [] last rests are h k = absurd are
rows_rest setup earlier before s (text ∷ texts) (row ∷ rows) last rests are h k =
    let entries : EachRests earlier (before ++ row ∷ []) s.entries = each_more earlier before row s.entries h in
    let proof : ProofRests earlier (before ++ row ∷ []) s.proof = proof_more earlier before row s.proof k in
    let next = after_rests earlier (before ++ row ∷ []) s row.outcome (row_rests earlier before row setup s row.value row.reads rests refl are.0.read are.0.gets entries proof) entries proof in
    subst (λ (done : List Row). StateRests earlier done last) (append_assoc before (row ∷ []) rows)
    (rows_rest setup earlier (before ++ row ∷ []) (after s row.outcome) texts rows last rests are.1 next.0 next.1)

-- one run more
run_more : (front runs : List TheoryRun) (run : TheoryRun) → RestAfter front runs → All (RestsOnStated (front ++ runs) run.rows) run.last.entries → RestAfter front (runs ++ run ∷ [])
run_more front [] run rests own =
    let none : front ++ [] ≡ front = grind (arith, common_steps) in
    (subst (λ l. All (RestsOnStated l run.rows) run.last.entries) none own, tt)
run_more front (first ∷ runs) run rests own =
    (rests.0, run_more (front ++ first ∷ []) runs run rests.1 (subst (λ l. All (RestsOnStated l run.rows) run.last.entries) (sym (append_assoc front (first ∷ []) runs)) own))

names_more : (runs : List TheoryRun) (run : TheoryRun) → map ended (runs ++ run ∷ []) ≡ map ended runs ++ ended run ∷ []
names_more [] run = refl
names_more (first ∷ runs) run = ap (λ l. ended first ∷ l) (names_more runs run)

runs_rest : (setup : SetupValue) (done : List TheoryRun) (theories : List TheoryText) (runs : List TheoryRun) → AreRuns setup (map ended done) theories runs → RestAfter [] done → RestAfter [] (done ++ runs)
runs_rest setup done [] [] h rests = let none : done ++ [] ≡ done = grind (arith, common_steps) in subst (RestAfter []) (sym none) rests
runs_rest setup done [] (run ∷ runs) h rests = absurd h
runs_rest setup done (theory ∷ theories) [] h rests = absurd h
runs_rest setup done (theory ∷ theories) (run ∷ runs) h rests =
    let own : All (RestsOnStated done run.rows) run.last.entries =
    each_all done run.rows run.last.entries (rows_rest setup done [] start theory.commands run.rows run.last rests h.0.are tt tt).0 in
    subst (RestAfter []) (append_assoc done (run ∷ []) runs)
    (runs_rest setup (done ++ run ∷ []) theories runs (subst (λ l. AreRuns setup l theories runs) (sym (names_more done run)) h.1) (run_more [] done run rests own))

of_run : (front before : List TheoryRun) (run : TheoryRun) (later : List TheoryRun) → RestAfter front (before ++ run ∷ later) → All (RestsOnStated (front ++ before) run.rows) run.last.entries
of_run front [] run later rests =
    let none : front ++ [] ≡ front = grind (arith, common_steps) in
    subst (λ l. All (RestsOnStated l run.rows) run.last.entries) (sym none) rests.0
of_run front (first ∷ before) run later rests =
    subst (λ l. All (RestsOnStated l run.rows) run.last.entries) (append_assoc front (first ∷ []) before) (of_run (front ++ first ∷ []) before run later rests.1)

pub rest_on_stated : (docs : Documents) (before : List TheoryRun) (run : TheoryRun) (later : List TheoryRun) → AreRunsOf docs (before ++ run ∷ later) → All (RestsOnStated before run.rows) run.last.entries
rest_on_stated docs before run later h = of_run [] before run later (runs_rest docs.setup [] docs.theories (before ++ run ∷ later) h tt)

-- ---- theorems that replies tell of

module _ (docs : Documents) (i count : ℕ) (before : List TheoryRun) (rows : List Row) (state : StateValue) (run : IsRunUpTo docs i count before rows state) where
  earlier_rest : RestAfter [] before
  earlier_rest = runs_rest docs.setup [] (take i docs.theories) before run.runs tt

  state_rests : StateRests before rows state
  state_rests = rows_rest docs.setup before [] start (take count (commands_at docs i)) rows state earlier_rest run.leads tt tt

  made_rests : (row : Row) → IsRow docs.setup (map ended before) state (slice_index_or (commands_at docs i) count []) row → (entries : Entries) → row.outcome ≡ Makes entries
      → EachRests before (rows ++ row ∷ []) entries
  made_rests row is entries made =
      subst (OutcomeRests before (rows ++ row ∷ [])) made
      (row_rests before rows row docs.setup state row.value row.reads earlier_rest refl is.read is.gets (each_more before rows row state.entries state_rests.0) (proof_more before rows row state.proof state_rests.1))

pub stands_on_stated : (docs : Documents) (name : List ℕ) (th : Theorem) → Stands docs name th → (n : List ℕ) (p : Nameless) → Holds th.basis (declared_axiom n p) → IsStatedIn docs n p
stands_on_stated docs name th (at_end i before rows state run there) n p h =
    up_to i (length (commands_at docs i)) before rows state run
    (All-contains (RestsOnStated before rows) state.entries (theorem_key name, ATheorem th)
    (each_all before rows state.entries (state_rests docs i (length (commands_at docs i)) before rows state run).0) there n p h)
stands_on_stated docs name th (at_command i at before rows state run row is entries makes among) n p h =
    stated.at_command i at before rows state run row is
    (All-contains (RestsOnStated before (rows ++ row ∷ [])) entries (theorem_key name, ATheorem th)
    (each_all before (rows ++ row ∷ []) entries (made_rests docs i at before rows state run row is entries makes)) among n p h)

pub told_on_stated : (docs : Documents) (text : List ℕ) (told : TellsOfTheorem docs text) (n : List ℕ) (p : Nameless) → Holds told.th.basis (declared_axiom n p) → IsStatedIn docs n p
told_on_stated docs text told n p h = stands_on_stated docs told.name told.th told.stands n p h
