-- What an outcome that a state may get rests on: what is made stands under new keys and can follow what stands, and what is opened or left rests on what
-- stands.
use Rattle.std.specs.Prelude.{◌≡◌, ◌⊎◌, ◌||◌, ℕ, Bool, true, false, cond, List, [], ◌∷◌, ◌++◌, map, length, nat_eq, nat_lt, decimal, bytes_eq, Option, Some, None, is_some, is_none, Result, Ok, Err, refl}
use Rattle.std.specs.List.{IsDistinct, list_any}
use Rattle.std.specs.Map.{keys_of}
use Rattle.std.specs.Option.{option_and_then}
use Rattle.std.proofs.Common.{ap, sym, ◌∙◌, subst, inl, inr}
use Rattle.std.proofs.lemmas.Map.Made.{IsDistinct-keys_filter}
use Rattle.hol_types.specs.Tree.{TypeTree}
use Rattle.hol_types.specs.Fun.{fun_parts}
use Rattle.hol_terms.specs.Nameless.{Nameless, fixed, nameless_type}
use Rattle.hol_formulas.specs.Equation.{bool_type, dest_comb}
use Rattle.hol_kernel.specs.Item.{Item, defined_constant, defined_type}
use Rattle.hol_kernel.specs.Items.{Items, no_items, IsSubset}
use Rattle.hol_kernel.specs.Legal.{IsLegalSet}
use Rattle.hol_kernel.specs.Sequent.{no_hyps}
use Rattle.hol_kernel.specs.Signature.{item_constants, constant_of, bijections, new_type, term_tyvars}
use Rattle.hol_kernel.specs.Theorem.{Theorem, theorem_over}
use Rattle.hol_kernel.specs.Typing.{is_type_at}
use Rattle.hol_kernel.proofs.Members.{Among}
use Rattle.hol_kernel.proofs.Subsets.{none_within}
use Rattle.hol_notation_terms.specs.Text.{QuotationText, DefinitionText}
use Rattle.hol_notation_tactics.specs.Parts.{parts_of, calls_in}
use Rattle.hol_notation_tactics.specs.Text.{TacText}
use Rattle.hol_notation_commands.specs.Text.{TypeDefinitionText, MakingText, NewType, NewConstant, NewAxiom, NewDefinition, NewBasicTypeDefinition, LocalText, Goal, Apply, Qed, DefineTac, Make, DirectText, Back, Rotate, Oops, Import, Local, Direct}
use Rattle.hol_goal.specs.Answer.{starting}
use Rattle.hol_goal.specs.Goal.{GoalValue}
use Rattle.hol_stack.specs.StackValue.{StepValue}
use Rattle.hol_combine.specs.ExprSize.{expr_size}
use Rattle.hol_combine.specs.ExprValue.{ExprValue}
use Rattle.hol_combine.specs.Runs.{RefusalValue, DoesNotFit, LacksHyps, StopValue, TurnLimit, LargeGoal, RunValue, run}
use Rattle.hol_combine.specs.Runs as runs
use Rattle.hol_combine.specs.Agreeing.{known}
use Rattle.hol_resolve.specs.Reading.{ReadingValue, WrongArity, NoTyping, LargeReading, ReadsAs, type_reading}
use Rattle.hol_resolve.specs.Readings.{ATerm, ReadingsValue}
use Rattle.hol_resolve.specs.Readings as quoting
use Rattle.hol_resolve.specs.declared.refusal.Refusal.{Refusal}
use Rattle.hol_theory.specs.Adding.{AreNew, CanFollow, first_clash, missing}
use Rattle.hol_theory.specs.Constants.{constant_names}
use Rattle.hol_theory.specs.Entry.{Entries, EntryValue, AType, AConstant, ATheorem, ATac, EachIsEntry, entry_at}
use Rattle.hol_theory.specs.Key.{KeyValue, key_eq, type_key, constant_key, theorem_key, tac_key}
use Rattle.hol_theory.specs.Making.{IsNewType, IsNewConstant, IsNewAxiom, item_entries, constant_entry}
use Rattle.hol_theory.specs.Theory.{items_in, IsTheory}
use Rattle.hol_theory.proofs.Entries.{new_of}
use Rattle.hol_theory.proofs.Imports.{missing_among, missing_follows}
use Rattle.hol_theory.proofs.Declaring.{type_follows as new_type_follows, constant_follows as new_constant_follows, axiom_follows as new_axiom_follows}
use Rattle.hol_theory.proofs.Defining.{within_follow, definition_follows, type_follows as type_definition_follows}
use Rattle.hol_theory.proofs.Standing.{entry_within}
use Rattle.hol_exec.specs.declared.reports.refusal.RefusalKind.{RefusalKind}
use Rattle.hol_exec.specs.declared.reports.refusal.RefusalKind.TheVariants as refusal
use Rattle.hol_exec.specs.Setup.{SetupValue}
use Rattle.hol_notation_reader.specs.Reading.{ReadText, Reads, Breaks}
use Rattle.hol_exec.specs.Keys.{keys_of_type, keys_of_term, keys_in, keys_of_definition, made_by_making}
use Rattle.hol_exec.specs.StateValue.{ProofValue, StateValue, EndedTheory, AreTheories}
use Rattle.hol_exec.specs.ReadsValue.{ReadsValue, ClosingValue, values_of, reads_of, closing_of, AreReads}
use Rattle.hol_exec.specs.Signature.{signature_of}
use Rattle.hol_exec.specs.Resolved.{theorem_at, resolved_basis}
use Rattle.hol_exec.specs.Standing.{is_standing, first_taken}
use Rattle.hol_exec.specs.Expr.{RefusedValue, ResolutionValue, Resolved, Unresolved, formulas_in, first_not_bool, named_refusals, first_refusal, resolved_expr, resolution_of, resolved_untaken, resolved_formulas, resolved_read, IsResolvedPast}
use Rattle.hol_exec.specs.OutcomeValue.{OutcomeValue, Opens, Leaves, Undoes, Rotates, Makes, Refuses, without_newest}
use Rattle.hol_exec.specs.Defining.{first_free, first_unreflected}
use Rattle.hol_definition.specs.ForAll.{for_all}
use Rattle.hol_equal.specs.Applied.{rand}
use Rattle.hol_exec.specs.Making.{UnlessTaken, taken, MakesOne, MakesConstantOf, StatesAxiom, MakesAxiomOf, MakesDefined, UnlessOpen, MakesDefinitionOf, UnlessFree, MakesTypeBy, MakesTypeOf, MakesTypeFrom, IsMade, IsMaking}
use Rattle.hol_exec.specs.Callee.{registered}
use Rattle.hol_exec.specs.Naming.{taken_tac, names_expr, names_resolved, IsNaming}
use Rattle.hol_exec.specs.OwnBases.{own_bases}
use Rattle.hol_exec.specs.Tested.{TestedValue}
use Rattle.hol_exec.specs.Local.{LocalValue, opens, opens_read, IsOpening, refused_outcome, stopped_outcome, run_outcome, applied, resolved_outcome, IsApplying, finished, finishes, IsLocalOutcome}
use Rattle.hol_exec.specs.At.{undoes_to, undoes, rotates_goals, rotates, drops, imports_theory, imports_from, entries_named, direct, IsOutcome, IsOutcomeAt}
use Rattle.hol_exec.specs.Valid.{IsFreeFor, IsProofWithin}
use Rattle.hol_exec.proofs.CitedBases.{values_stand, resolved_fine}
use Rattle.hol_exec.proofs.Entries.{newest_within}
use Rattle.hol_exec.proofs.ReadOver.{prelude_within}

-- a proof that goes back a step keeps its name
pub free_undone : (es : Entries) (p : ProofValue) (steps : List StepValue) → IsFreeFor es (Some p) → IsFreeFor es (Some (without_newest p steps))
free_undone es p [] h = h
free_undone es p (step ∷ steps) h = h

-- What an outcome makes of entries is new and can follow what stands; what it opens or leaves rests on what stands.
abbrev Fits : Entries → OutcomeValue → Type 0
Fits es (Opens name statement basis) = (entry_at (theorem_key name) es ≡ None) × IsSubset basis (items_in es)
Fits es (Leaves goal goals basis) = IsSubset basis (items_in es)
Fits es Undoes = Unit {0}
Fits es (Rotates times) = Unit {0}
Fits es (Makes entries) = ((f : KeyValue × EntryValue) → Among f entries → entry_at f.0 es ≡ None) × (EachIsEntry entries → CanFollow es entries)
Fits es (Refuses kind arg) = Unit {0}

-- ---- what stands

resolved_within : (es : Entries) (keys : List KeyValue) (readings : ReadingsValue) → IsTheory es → IsSubset (resolved_basis (values_of es keys) readings) (items_in es)
resolved_within es keys readings t = (resolved_fine es t readings (values_of es keys) (values_stand es keys)).0

resolved_legal : (es : Entries) (keys : List KeyValue) (readings : ReadingsValue) → IsTheory es → IsLegalSet (resolved_basis (values_of es keys) readings)
resolved_legal es keys readings t = (resolved_fine es t readings (values_of es keys) (values_stand es keys)).1

-- where no key is taken, nothing stands under any
none_taken : (es : Entries) (before keys : List KeyValue) → first_taken before (values_of es keys) ≡ None → (key : KeyValue) → Among key keys → entry_at key es ≡ None
none_taken es before [] e key i = absurd i
none_taken es before (k ∷ keys) e key i = by (entry_at k es) refl e i (λ f. none_taken es (before ++ k ∷ []) keys f key)
  where
    rest : (b : Bool) → cond b (Some k) (first_taken (before ++ k ∷ []) (values_of es keys)) ≡ None → (first_taken (before ++ k ∷ []) (values_of es keys) ≡ None → Among key keys → entry_at key es ≡ None) → Among key keys → entry_at key es ≡ None
    rest true f others j = absurd (cc)
    rest false f others j = others f j

    by : (o : Option EntryValue) → entry_at k es ≡ o → cond (is_standing k o || list_any (key_eq k) before) (Some k) (first_taken (before ++ k ∷ []) (values_of es keys)) ≡ None → (key ≡ k) ⊎ Among key keys →
        (first_taken (before ++ k ∷ []) (values_of es keys) ≡ None → Among key keys → entry_at key es ≡ None) → entry_at key es ≡ None
    by None is f (inl same) others = ap (λ (q : KeyValue). entry_at q es) same ∙ is
    by None is f (inr j) others = rest (is_standing k None || list_any (key_eq k) before) f others j
    by (Some value) is f j others = absurd (cc)

-- ---- `g`

opening : (es : Entries) (name : List ℕ) (p : Nameless) (basis : Items) (k : Option KeyValue) → IsSubset basis (items_in es) → first_taken [] (values_of es (theorem_key name ∷ [])) ≡ k → Fits es (opens name p basis k)
opening es name p basis None within e = (none_taken es [] (theorem_key name ∷ []) e (theorem_key name) (inl refl), within)
opening es name p basis (Some key) within e = tt

opening_typed : (es : Entries) (name : List ℕ) (place : ℕ) (p : Nameless) (basis : Items) (b : Bool) → IsSubset basis (items_in es)
    → Fits es (cond b (opens name p basis (first_taken [] (values_of es (theorem_key name ∷ [])))) (Refuses refusal.NotBool (decimal place)))
opening_typed es name place p basis true within = opening es name p basis (first_taken [] (values_of es (theorem_key name ∷ []))) within refl
opening_typed es name place p basis false within = tt

opening_read : (s : StateValue) (name : List ℕ) (q : QuotationText) (r : ReadingValue Nameless) → IsTheory s.entries → Fits s.entries (opens_read name q.place (reads_of (Goal name q) s) r)
opening_read s name q WrongArity t = tt
opening_read s name q NoTyping t = tt
opening_read s name q LargeReading t = tt
opening_read s name q (ReadsAs p) t =
    opening_typed s.entries name q.place p (resolved_basis (reads_of (Goal name q) s).cited ((q.place, ATerm p) ∷ [])) (is_type_at (nameless_type [] p) bool_type)
    (resolved_within s.entries (keys_of_term q.term) ((q.place, ATerm p) ∷ []) t)

opening_fits : (s : StateValue) (in_proof : Bool) (name : List ℕ) (q : QuotationText) (o : OutcomeValue) → IsTheory s.entries → IsOpening in_proof name q (reads_of (Goal name q) s) o → Fits s.entries o
opening_fits s true name q o t h = subst (Fits s.entries) (sym h) tt
opening_fits s false name q o t h = subst (Fits s.entries) (sym h.2) (opening_read s name q h.0 t)

-- ---- `e`

module _ (es : Entries) (t : IsTheory es) where
  refusing : (why : RefusalValue) → Fits es (refused_outcome why)
  refusing (DoesNotFit name) = tt
  refusing (LacksHyps name) = tt

  stopping : (why : StopValue) → Fits es (stopped_outcome why)
  stopping TurnLimit = tt
  stopping LargeGoal = tt

  running : (names : List (List ℕ)) (goal : GoalValue) (basis : Items) (r : RunValue) → IsSubset basis (items_in es) → Fits es (run_outcome names goal basis r).outcome
  running names goal basis (runs.Leaves goals used) within = within
  running names goal basis (runs.Refuses why used) within = refusing why
  running names goal basis (runs.Stops why tested) within = stopping why

  applying : (setup : SetupValue) (names : List (List ℕ)) (o : Option GoalValue) (x : ExprValue) (basis : Items) → IsSubset basis (items_in es) → Fits es (applied setup names o x basis).outcome
  applying setup names None x basis within = tt
  applying setup names (Some goal) x basis within = running names goal basis (run (known setup.table names) x goal (starting setup.turns)) within

  -- what is resolved rests on what stands, and no key that is made is taken
  abbrev Rests : Option KeyValue → ResolutionValue → Type 0
  Rests taken (Resolved x basis readings) = IsSubset basis (items_in es) × (taken ≡ None)
  Rests taken (Unresolved kind arg) = Unit {0}

  resolving : (setup : SetupValue) (names : List (List ℕ)) (o : Option GoalValue) (r : ResolutionValue) → Rests None r → Fits es (resolved_outcome setup names o r).outcome
  resolving setup names o (Resolved x basis readings) h = applying setup names o x basis h.0
  resolving setup names o (Unresolved kind arg) h = tt

  resting : (basis : Items) (readings : ReadingsValue) (r : Result ExprValue RefusedValue) → IsSubset basis (items_in es) → Rests None (resolution_of basis readings r)
  resting basis readings (Ok x) within = (within, refl)
  resting basis readings (Err r) within = tt

  resting_untaken : (setup : SetupValue) (taken : Option KeyValue) (tactic : TacText) (keys : List KeyValue) (readings : ReadingsValue) → Rests taken (resolved_untaken setup taken tactic (values_of es keys) readings)
  resting_untaken setup (Some key) tactic keys readings = tt
  resting_untaken setup None tactic keys readings =
      let basis : Items = resolved_basis (values_of es keys) readings in
      resting basis readings (resolved_expr (record { table = setup.table; cited = values_of es keys; readings = readings; basis = basis }) tactic) (resolved_within es keys readings t)

  resting_formulas : (setup : SetupValue) (taken : Option KeyValue) (tactic : TacText) (keys : List KeyValue) (readings : ReadingsValue) (o : Option ℕ) → Rests taken (resolved_formulas setup taken tactic (values_of es keys) readings o)
  resting_formulas setup taken tactic keys readings (Some place) = tt
  resting_formulas setup taken tactic keys readings None = resting_untaken setup taken tactic keys readings

  resting_read : (setup : SetupValue) (taken : Option KeyValue) (tactic : TacText) (keys : List KeyValue) (r : Result ReadingsValue Refusal) → Rests taken (resolved_read setup taken tactic (values_of es keys) r)
  resting_read setup taken tactic keys (Ok readings) = resting_formulas setup taken tactic keys readings (first_not_bool readings (formulas_in (parts_of tactic)))
  resting_read setup taken tactic keys (Err r) = tt

  resting_past : (setup : SetupValue) (taken : Option KeyValue) (tactic : TacText) (keys : List KeyValue) (o : Option (RefusalKind × List ℕ)) (r : ResolutionValue) → IsResolvedPast setup taken tactic (values_of es keys) o r → Rests taken r
  resting_past setup taken tactic keys (Some refused) r h = subst (Rests taken) (sym h) tt
  resting_past setup taken tactic keys None r h = subst (Rests taken) (sym h.2) (resting_read setup taken tactic keys h.0)

applying_fits : (s : StateValue) (in_proof : Bool) (setup : SetupValue) (names : List (List ℕ)) (tactic : TacText) (given : LocalValue) → IsTheory s.entries → IsApplying in_proof setup names tactic (reads_of (Apply tactic) s) given → Fits s.entries given.outcome
applying_fits s false setup names tactic given t h = subst (λ (l : LocalValue). Fits s.entries l.outcome) (sym h) tt
applying_fits s true setup names tactic given t h =
    subst (λ (l : LocalValue). Fits s.entries l.outcome) (sym h.2)
    (resolving s.entries t setup names (reads_of (Apply tactic) s).goal h.0
    (resting_past s.entries t setup None tactic (keys_in (parts_of tactic)) (first_refusal (named_refusals setup None tactic (values_of s.entries (keys_in (parts_of tactic))))) h.0 h.1))

-- ---- one entry that is made

one_absent : (es : Entries) (key : KeyValue) (value : EntryValue) → entry_at key es ≡ None → (f : KeyValue × EntryValue) → Among f ((key, value) ∷ []) → entry_at f.0 es ≡ None
one_absent es key value free f (inl is) = ap (λ (g : KeyValue × EntryValue). entry_at g.0 es) is ∙ free
one_absent es key value free f (inr none) = absurd none

-- ---- `deftac`

untaken_tac : (es : Entries) (setup : SetupValue) (name : List ℕ) (b : Bool) → cond b (Some (tac_key name)) (first_taken [] (values_of es (tac_key name ∷ []))) ≡ None → entry_at (tac_key name) es ≡ None
untaken_tac es setup name true e = absurd (cc)
untaken_tac es setup name false e = none_taken es [] (tac_key name ∷ []) e (tac_key name) (inl refl)

naming_fits : (s : StateValue) (in_proof : Bool) (setup : SetupValue) (name : List ℕ) (tactic : TacText) (o : OutcomeValue) → IsTheory s.entries → IsNaming in_proof setup name tactic (reads_of (DefineTac name tactic) s) o → Fits s.entries o
naming_fits s true setup name tactic o t h = subst (Fits s.entries) (sym h) tt
naming_fits s false setup name tactic o t h =
    subst (Fits s.entries) (sym h.2)
    (by h.0 (resting_past es t setup (taken_tac setup name reads) tactic (keys_in (parts_of tactic)) (first_refusal (named_refusals setup (Some name) tactic reads.cited)) h.0 h.1))
  where
    es : Entries
    es = s.entries

    reads : ReadsValue
    reads = reads_of (DefineTac name tactic) s

    sized : (e : ExprValue) (basis : Items) (readings : ReadingsValue) (b : Bool) → IsSubset basis (items_in es) → taken_tac setup name reads ≡ None
        → Fits es (cond b (Refuses refusal.TooLarge []) (names_expr setup name tactic reads.cited readings e basis))
    sized e basis readings true within free = tt
    sized e basis readings false within free =
        let value : EntryValue = ATac e (own_bases reads.cited readings setup.table (calls_in (parts_of tactic))) basis in (
          one_absent es (tac_key name) value (untaken_tac es setup name (is_some (registered name setup.table)) free),
          λ each. within_follow es ((tac_key name, value) ∷ []) each (within, tt),
        )

    by : (r : ResolutionValue) → Rests es t (taken_tac setup name reads) r → Fits es (names_resolved setup name tactic reads.cited r)
    by (Resolved e basis readings) rests = sized e basis readings (nat_lt 20000 (expr_size e)) rests.0 rests.1
    by (Unresolved kind arg) rests = tt

-- ---- `qed`

ending : (es : Entries) (c : ClosingValue) (b : Bool) → entry_at (theorem_key c.name) es ≡ None → IsSubset c.basis (items_in es) → Fits es (cond b (finished c) (Refuses refusal.GoalsRemain []))
ending es c true free within =
    let th : Theorem = theorem_over c.basis no_hyps c.statement in (
      one_absent es (theorem_key c.name) (ATheorem th) free,
      λ each. within_follow es ((theorem_key c.name, ATheorem th) ∷ []) each (within, tt),
    )
ending es c false free within = tt

finishing : (es : Entries) (o : Option ProofValue) → IsFreeFor es o → IsProofWithin es o → Fits es (finishes (closing_of o))
finishing es None free within = tt
finishing es (Some p) free within =
    ending es (record { name = p.name; statement = p.statement; basis = p.newest.basis; open_goals = length p.newest.goals }) (nat_eq (length p.newest.goals) 0) free
    (newest_within (items_in es) p.newest p.earlier within)

-- ---- what makes types, constants, axioms and definitions

module _ (es : Entries) (t : IsTheory es) where
  unless_taken : (o : Option KeyValue) (Made : OutcomeValue → Type 0) (x : OutcomeValue) → UnlessTaken o Made x → (o ≡ None → Made x → Fits es x) → Fits es x
  unless_taken None Made x h f = f refl h
  unless_taken (Some key) Made x h f = subst (Fits es) (sym h) tt

  one_fits : (Is : KeyValue × EntryValue → Type 0) (x : OutcomeValue) → MakesOne Is x → ((e : KeyValue × EntryValue) → Is e → (entry_at e.0 es ≡ None) × CanFollow es (e ∷ [])) → Fits es x
  one_fits Is x h f =
      let r = f h.0 h.1 in
      subst (Fits es) (sym h.2) ((λ g i. one_absent es h.0.0 h.0.1 r.0 g i), λ each. r.1)

  type_fits : (name : List ℕ) (arity : ℕ) (x : OutcomeValue) → UnlessTaken (first_taken [] (values_of es (type_key name ∷ []))) (MakesOne (IsNewType no_items name arity)) x → Fits es x
  type_fits name arity x h =
      unless_taken (first_taken [] (values_of es (type_key name ∷ []))) (MakesOne (IsNewType no_items name arity)) x h
      (λ none made. one_fits (IsNewType no_items name arity) x made (λ e is. (
        ap (λ (f : KeyValue × EntryValue). entry_at f.0 es) is.entry_is ∙ none_taken es [] (type_key name ∷ []) none (type_key name) (inl refl),
        new_type_follows es no_items name arity e ([], tt, refl) (none_within no_items (items_in es) refl) is,
      )))

  constant_fits : (keys : List KeyValue) (name : List ℕ) (readings : ReadingsValue) (a : TypeTree) (x : OutcomeValue)
      → UnlessTaken (first_taken [] (values_of es (constant_key name ∷ []))) (MakesOne (IsNewConstant (resolved_basis (values_of es keys) readings) name a)) x → Fits es x
  constant_fits keys name readings a x h =
      let basis : Items = resolved_basis (values_of es keys) readings in
      unless_taken (first_taken [] (values_of es (constant_key name ∷ []))) (MakesOne (IsNewConstant basis name a)) x h
      (λ none made. one_fits (IsNewConstant basis name a) x made (λ e is. (
        ap (λ (f : KeyValue × EntryValue). entry_at f.0 es) is.entry_is ∙ none_taken es [] (constant_key name ∷ []) none (constant_key name) (inl refl),
        new_constant_follows es basis name a e (resolved_legal es keys readings t) (resolved_within es keys readings t) is,
      )))

  axiom_fits : (keys : List KeyValue) (name : List ℕ) (readings : ReadingsValue) (p : Nameless) (x : OutcomeValue)
      → UnlessTaken (first_taken [] (values_of es (theorem_key name ∷ []))) (MakesOne (IsNewAxiom (resolved_basis (values_of es keys) readings) name p)) x → Fits es x
  axiom_fits keys name readings p x h =
      let basis : Items = resolved_basis (values_of es keys) readings in
      unless_taken (first_taken [] (values_of es (theorem_key name ∷ []))) (MakesOne (IsNewAxiom basis name p)) x h
      (λ none made. one_fits (IsNewAxiom basis name p) x made (λ e is. (
        ap (λ (f : KeyValue × EntryValue). entry_at f.0 es) is.entry_is ∙ none_taken es [] (theorem_key name ∷ []) none (theorem_key name) (inl refl),
        new_axiom_follows es basis name p e (resolved_legal es keys readings t) (resolved_within es keys readings t) is,
      )))

  -- ---- definitions

  among_joined : (xs ys : Entries) (P : KeyValue × EntryValue → Type 0) → ((f : KeyValue × EntryValue) → Among f xs → P f) → ((f : KeyValue × EntryValue) → Among f ys → P f) →
      (f : KeyValue × EntryValue) → Among f (xs ++ ys) → P f
  among_joined [] ys P h k f i = k f i
  among_joined (x ∷ xs) ys P h k f (inl is) = h f (inl is)
  among_joined (x ∷ xs) ys P h k f (inr i) = among_joined xs ys P (λ g j. h g (inr j)) k f i

  each_split : (xs ys : Entries) → EachIsEntry (xs ++ ys) → EachIsEntry xs × EachIsEntry ys
  each_split [] ys h = (tt, h)
  each_split (x ∷ xs) ys h = let r = each_split xs ys h.1 in ((h.0, r.0), r.1)

  abbrev Absent : KeyValue × EntryValue → Type 0
  Absent f = entry_at f.0 es ≡ None

  constant_absent : (c : List ℕ) (r : Nameless) (basis : Items) → entry_at (constant_key c) es ≡ None → (f : KeyValue × EntryValue) → Among f (item_entries (defined_constant c r) basis) → Absent f
  constant_absent c r basis free = by (nameless_type [] r)
    where
      by : (o : Option TypeTree) → (f : KeyValue × EntryValue) → Among f (map (constant_entry (defined_constant c r) basis) (constant_of c o)) → Absent f
      by None f i = absurd i
      by (Some a) f i = one_absent es (constant_key c) (AConstant a (defined_constant c r) basis) free f i

  defined_fits : (keys : List KeyValue) (name : List ℕ) (d : DefinitionText) (readings : ReadingsValue) (r : Nameless) (x : OutcomeValue) →
      entry_at (theorem_key name) es ≡ None → entry_at (constant_key d.name) es ≡ None → MakesDefined (resolved_basis (values_of es keys) readings) name d r x → Fits es x
  defined_fits keys name d readings r x free new h =
      let th : Theorem = theorem_over h.definition.basis no_hyps (for_all (length d.parameters) h.of_type (fixed d.name h.of_type) r) in
      subst (Fits es) (sym h.makes) (
        among_joined h.entries ((theorem_key name, ATheorem th) ∷ []) Absent
            (λ f i. constant_absent d.name r h.definition.basis new f (subst (λ (es' : Entries). Among f es') h.new.entries_are i))
            (one_absent es (theorem_key name) (ATheorem th) free),
        (λ each.
            let parts = each_split h.entries ((theorem_key name, ATheorem th) ∷ []) each in
            definition_follows es h.entries (resolved_basis (values_of es keys) readings) d.name name r h.definition th (resolved_within es keys readings t) h.new parts.0 parts.1.0 refl),
      )

  unless_open : (o u : Option (List ℕ)) (Made : OutcomeValue → Type 0) (x : OutcomeValue) → UnlessOpen o u Made x → (Made x → Fits es x) → Fits es x
  unless_open (Some y) u Made x h f = subst (Fits es) (sym h) tt
  unless_open None (Some a) Made x h f = subst (Fits es) (sym h) tt
  unless_open None None Made x h f = f h

  definition_fits : (keys : List KeyValue) (name : List ℕ) (d : DefinitionText) (readings : ReadingsValue) (r : Nameless) (x : OutcomeValue) →
      UnlessTaken (first_taken [] (values_of es (theorem_key name ∷ constant_key d.name ∷ []))) (UnlessOpen (first_free r) (first_unreflected r) (MakesDefined (resolved_basis (values_of es keys) readings) name d r)) x → Fits es x
  definition_fits keys name d readings r x h =
      let made : List KeyValue = theorem_key name ∷ constant_key d.name ∷ [] in
      let Made : OutcomeValue → Type 0 = MakesDefined (resolved_basis (values_of es keys) readings) name d r in
      unless_taken (first_taken [] (values_of es made)) (UnlessOpen (first_free r) (first_unreflected r) Made) x h
      (λ none closed. unless_open (first_free r) (first_unreflected r) Made x closed
      (λ m. defined_fits keys name d readings r x (none_taken es [] made none (theorem_key name) (inl refl)) (none_taken es [] made none (constant_key d.name) (inr (inl refl))) m))

  -- ---- definitions of types

  type_absent : (d : TypeDefinitionText) (p : Nameless) (basis : Items) (first second : Theorem) → ((key : KeyValue) → Among key (made_by_making (NewBasicTypeDefinition d)) → entry_at key es ≡ None) →
      (f : KeyValue × EntryValue) → Among f (item_entries (defined_type d.ty d.abs d.rep p) basis ++ (theorem_key d.abs_rep, ATheorem first) ∷ (theorem_key d.rep_abs, ATheorem second) ∷ []) → Absent f
  type_absent d p basis first second free f (inl is) = ap (λ (g : KeyValue × EntryValue). entry_at g.0 es) is ∙ free (type_key d.ty) (inl refl)
  type_absent d p basis first second free f (inr i) =
      among_joined (map (constant_entry x basis) (item_constants x)) ((theorem_key d.abs_rep, ATheorem first) ∷ (theorem_key d.rep_abs, ATheorem second) ∷ []) Absent
      (constants (option_and_then fun_parts (nameless_type [] p))) theorems f i
    where
      x : Item
      x = defined_type d.ty d.abs d.rep p

      constants : (o : Option (TypeTree × TypeTree)) → (g : KeyValue × EntryValue) → Among g (map (constant_entry x basis) (bijections d.abs d.rep (new_type d.ty (term_tyvars p)) o)) → Absent g
      constants None g j = absurd j
      constants (Some parts) g (inl is) = ap (λ (h : KeyValue × EntryValue). entry_at h.0 es) is ∙ free (constant_key d.abs) (inr (inl refl))
      constants (Some parts) g (inr (inl is)) = ap (λ (h : KeyValue × EntryValue). entry_at h.0 es) is ∙ free (constant_key d.rep) (inr (inr (inl refl)))
      constants (Some parts) g (inr (inr none)) = absurd none

      theorems : (g : KeyValue × EntryValue) → Among g ((theorem_key d.abs_rep, ATheorem first) ∷ (theorem_key d.rep_abs, ATheorem second) ∷ []) → Absent g
      theorems g (inl is) = ap (λ (h : KeyValue × EntryValue). entry_at h.0 es) is ∙ free (theorem_key d.abs_rep) (inr (inr (inr (inl refl))))
      theorems g (inr (inl is)) = ap (λ (h : KeyValue × EntryValue). entry_at h.0 es) is ∙ free (theorem_key d.rep_abs) (inr (inr (inr (inr (inl refl)))))
      theorems g (inr (inr none)) = absurd none

  type_by_fits : (d : TypeDefinitionText) (member : Theorem) (x : OutcomeValue) → ((key : KeyValue) → Among key (made_by_making (NewBasicTypeDefinition d)) → entry_at key es ≡ None) →
      IsSubset member.basis (items_in es) → MakesTypeBy d member x → Fits es x
  type_by_fits d member x free within h =
      subst (Fits es) (sym h.2) (
        (λ f i. type_absent d h.1.defined.predicate h.1.larger h.1.abs_rep h.1.rep_abs free f (subst (λ (es' : Entries). Among f es') h.1.entries_are i)),
        (λ each. type_definition_follows es h.0 member.basis d.ty d.abs d.rep d.abs_rep d.rep_abs member within h.1 each),
      )

  type_of_fits : (d : TypeDefinitionText) (member : Theorem) (o : Option (Nameless × Nameless)) (x : OutcomeValue) → ((key : KeyValue) → Among key (made_by_making (NewBasicTypeDefinition d)) → entry_at key es ≡ None) →
      IsSubset member.basis (items_in es) → MakesTypeOf d member o x → Fits es x
  type_of_fits d member None x free within h = subst (Fits es) (sym h) tt
  type_of_fits d member (Some parts) x free within h = by (first_free parts.0) h
    where
      by : (o : Option (List ℕ)) → UnlessFree o (MakesTypeBy d member) x → Fits es x
      by None h = type_by_fits d member x free within h
      by (Some y) h = subst (Fits es) (sym h) tt

  member_within : (key : KeyValue) (th : Theorem) → theorem_at key (entry_at key es) ≡ Some th → IsSubset th.basis (items_in es)
  member_within key th e = by (entry_at key es) refl e
    where
      by : (o : Option EntryValue) → entry_at key es ≡ o → theorem_at key o ≡ Some th → IsSubset th.basis (items_in es)
      by None is f = prelude_within (items_in es) key.kind key.name th f
      by (Some (AType arity item basis)) is f = absurd (cc)
      by (Some (AConstant ty item basis)) is f = absurd (cc)
      by (Some (ATac x bases basis)) is f = absurd (cc)
      by (Some (ATheorem own)) is f = let same : own ≡ th = cc in subst (λ (s : Theorem). IsSubset s.basis (items_in es)) same (entry_within es key (ATheorem own) t is)

  type_from_fits : (d : TypeDefinitionText) (reads : ReadsValue) (o : Option Theorem) (x : OutcomeValue) → reads.made ≡ values_of es (made_by_making (NewBasicTypeDefinition d)) →
      ((th : Theorem) → o ≡ Some th → IsSubset th.basis (items_in es)) → MakesTypeFrom d reads o x → Fits es x
  type_from_fits d reads None x made within h = subst (Fits es) (sym h) tt
  type_from_fits d reads (Some member) x made within h =
      unless_taken (taken reads) (MakesTypeOf d member (dest_comb member.sequent.concl)) x h
      (λ none m. type_of_fits d member (dest_comb member.sequent.concl) x
      (none_taken es [] (made_by_making (NewBasicTypeDefinition d)) (ap (first_taken []) (sym made) ∙ none)) (within member refl) m)

making_read : (s : StateValue) (making : MakingText) (x : OutcomeValue) → IsTheory s.entries → IsMade making (reads_of (Make making) s) x → Fits s.entries x
making_read s (NewType name arity) x t h = type_fits s.entries t name arity x h
making_read s (NewConstant name q) x t h = by (type_reading (signature_of (reads_of (Make (NewConstant name q)) s).cited) q.ty) h
  where
    by : (r : ReadingValue TypeTree) → MakesConstantOf name q.place (reads_of (Make (NewConstant name q)) s) r x → Fits s.entries x
    by WrongArity h = subst (Fits s.entries) (sym h) tt
    by NoTyping h = subst (Fits s.entries) (sym h) tt
    by LargeReading h = subst (Fits s.entries) (sym h) tt
    by (ReadsAs a) h = constant_fits s.entries t (keys_of_type q.ty) name ((q.place, quoting.AType a) ∷ []) a x h
making_read s (NewAxiom name q) x t h = by h.0 h.2
  where
    stated : (p : Nameless) (b : Bool) → StatesAxiom name q.place (reads_of (Make (NewAxiom name q)) s) p b x → Fits s.entries x
    stated p true h = axiom_fits s.entries t (keys_of_term q.term) name ((q.place, ATerm p) ∷ []) p x h
    stated p false h = subst (Fits s.entries) (sym h) tt

    by : (r : ReadingValue Nameless) → MakesAxiomOf name q.place (reads_of (Make (NewAxiom name q)) s) r x → Fits s.entries x
    by WrongArity h = subst (Fits s.entries) (sym h) tt
    by NoTyping h = subst (Fits s.entries) (sym h) tt
    by LargeReading h = subst (Fits s.entries) (sym h) tt
    by (ReadsAs p) h = stated p (is_type_at (nameless_type [] p) bool_type) h
making_read s (NewDefinition name d) x t h = by h.0 h.2
  where
    by : (r : ReadingValue Nameless) → MakesDefinitionOf name d (reads_of (Make (NewDefinition name d)) s) r x → Fits s.entries x
    by WrongArity h = subst (Fits s.entries) (sym h) tt
    by NoTyping h = subst (Fits s.entries) (sym h) tt
    by LargeReading h = subst (Fits s.entries) (sym h) tt
    by (ReadsAs p) h = definition_fits s.entries t (keys_of_definition d) name d ((d.place, ATerm p) ∷ []) (rand p) x h
making_read s (NewBasicTypeDefinition d) x t h =
    type_from_fits s.entries t d (reads_of (Make (NewBasicTypeDefinition d)) s) (theorem_at (theorem_key d.theorem) (entry_at (theorem_key d.theorem) s.entries)) x refl
    (member_within s.entries t (theorem_key d.theorem)) h

making_fits : (s : StateValue) (in_proof : Bool) (making : MakingText) (x : OutcomeValue) → IsTheory s.entries → IsMaking in_proof making (reads_of (Make making) s) x → Fits s.entries x
making_fits s true making x t h = subst (Fits s.entries) (sym h) tt
making_fits s false making x t h = making_read s making x t h

local_fits : (setup : SetupValue) (names : List (List ℕ)) (command : LocalText) (s : StateValue) (given : LocalValue) → IsTheory s.entries → IsFreeFor s.entries s.proof → IsProofWithin s.entries s.proof →
    IsLocalOutcome setup names command (reads_of command s) given → Fits s.entries given.outcome
local_fits setup names (Goal name q) s given t free within h = opening_fits s _ name q given.outcome t h.0
local_fits setup names (Apply tactic) s given t free within h = applying_fits s _ setup names tactic given t h
local_fits setup names Qed s given t free within h = subst (λ (l : LocalValue). Fits s.entries l.outcome) (sym h) (finishing s.entries s.proof free within)
local_fits setup names (DefineTac name tactic) s given t free within h = naming_fits s _ setup name tactic given.outcome t h.0
local_fits setup names (Make making) s given t free within h = making_fits s _ making given.outcome t h.0

-- ---- what is answered from the state

undoing : (es : Entries) (o : Option ProofValue) → Fits es (undoes o)
undoing es None = tt
undoing es (Some p) = by p.earlier
  where
    by : (steps : List StepValue) → Fits es (undoes_to steps)
    by [] = tt
    by (step ∷ steps) = tt

rotating : (es : Entries) (times : ℕ) (o : Option ProofValue) → Fits es (rotates times o)
rotating es times None = tt
rotating es times (Some p) = by p.newest.goals
  where
    by : (goals : List GoalValue) → Fits es (rotates_goals times goals)
    by [] = tt
    by (goal ∷ goals) = tt

dropping : (es : Entries) (o : Option ProofValue) → Fits es (drops o)
dropping es None = tt
dropping es (Some p) = (λ f i. absurd i, λ each. within_follow es [] each tt)

importing : (es theory : Entries) (o : Option KeyValue) → IsTheory theory → first_clash es theory ≡ o → Fits es (imports_from es theory o)
importing es theory None t e = (λ f i. (missing_among es theory f i).1, λ each. missing_follows es theory t e)
importing es theory (Some key) t e = tt

theory_found : (name : List ℕ) (earlier : List EndedTheory) (theory : Entries) → AreTheories earlier → entries_named name earlier ≡ Some theory → IsTheory theory
theory_found name [] theory all e = absurd (cc)
theory_found name (x ∷ earlier) theory all e = by (bytes_eq x.name name) e (theory_found name earlier theory all.1)
  where
    by : (b : Bool) → cond b (Some x.entries) (entries_named name earlier) ≡ Some theory → (entries_named name earlier ≡ Some theory → IsTheory theory) → IsTheory theory
    by true f others = let is : x.entries ≡ theory = cc in subst IsTheory is all.0
    by false f others = others f

importing_named : (name : List ℕ) (es : Entries) (o : Option Entries) → ((theory : Entries) → o ≡ Some theory → IsTheory theory) → Fits es (imports_theory name es o)
importing_named name es None t = tt
importing_named name es (Some theory) t = importing es theory (first_clash es theory) (t theory refl) refl

importing_outside : (name : List ℕ) (es : Entries) (o : Option Entries) (b : Bool) → ((theory : Entries) → o ≡ Some theory → IsTheory theory) → Fits es (cond b (Refuses refusal.InProof []) (imports_theory name es o))
importing_outside name es o true t = tt
importing_outside name es o false t = importing_named name es o t

direct_fits : (command : DirectText) (s : StateValue) (earlier : List EndedTheory) → AreTheories earlier → Fits s.entries (direct command s earlier)
direct_fits Back s earlier t = undoing s.entries s.proof
direct_fits (Rotate times) s earlier t = rotating s.entries times s.proof
direct_fits Oops s earlier t = dropping s.entries s.proof
direct_fits (Import name) s earlier t = importing_outside name s.entries (entries_named name earlier) (is_some s.proof) (λ theory e. theory_found name earlier theory t e)

-- ---- each outcome

-- what every state has
abbrev pub IsKept : StateValue → Type 0
IsKept s = IsTheory s.entries × IsFreeFor s.entries s.proof × IsProofWithin s.entries s.proof

outcome_fits : (setup : SetupValue) (earlier : List EndedTheory) (s : StateValue) (value : ReadText) (reads : Option ReadsValue) (tested : TestedValue) (o : OutcomeValue) → IsKept s → AreTheories earlier →
    AreReads value s reads → IsOutcome setup earlier s value reads tested o → Fits s.entries o
outcome_fits setup earlier s (Reads (Local command)) None tested o kept t are h = absurd h
outcome_fits setup earlier s (Reads (Local command)) (Some reads) tested o kept t are h =
    let same : reads ≡ reads_of command s = cc in
    local_fits setup (constant_names s.entries) command s (record { outcome = o; tested = tested }) kept.0 kept.1 kept.2 (rw same at h)
outcome_fits setup earlier s (Reads (Direct command)) None tested o kept t are h = subst (Fits s.entries) (sym h.0) (direct_fits command s earlier t)
outcome_fits setup earlier s (Reads (Direct command)) (Some reads) tested o kept t are h = absurd h
outcome_fits setup earlier s (Breaks place) None tested o kept t are h = subst (Fits s.entries) (sym h.0) tt
outcome_fits setup earlier s (Breaks place) (Some reads) tested o kept t are h = absurd h

fits_at : (s : StateValue) (o : OutcomeValue) → IsKept s → IsOutcomeAt s o → Fits s.entries o
fits_at s o kept h = outcome_fits h.setup h.earlier s h.value h.reads h.tested o kept h.theories h.read h.gets

module _ (s : StateValue) (o : OutcomeValue) (kept : IsKept s) (h : IsOutcomeAt s o) where
  pub opens_new : (name : List ℕ) (statement : Nameless) (basis : Items) → o ≡ Opens name statement basis → (entry_at (theorem_key name) s.entries ≡ None) × IsSubset basis (items_in s.entries)
  opens_new name statement basis e = subst (Fits s.entries) e (fits_at s o kept h)

  pub leaves_within : (goal : GoalValue) (goals : List GoalValue) (basis : Items) → o ≡ Leaves goal goals basis → IsSubset basis (items_in s.entries)
  leaves_within goal goals basis e = subst (Fits s.entries) e (fits_at s o kept h)

  pub makes_new : (entries : Entries) → o ≡ Makes entries → IsDistinct key_eq (keys_of entries) → AreNew s.entries entries
  makes_new entries e distinct = new_of s.entries entries (subst (Fits s.entries) e (fits_at s o kept h)).0 distinct

  pub makes_following : (entries : Entries) → o ≡ Makes entries → EachIsEntry entries → CanFollow s.entries entries
  makes_following entries e each = (subst (Fits s.entries) e (fits_at s o kept h)).1 each

-- what an import brings has different keys
pub missing_distinct : (es theory : Entries) → IsDistinct key_eq (keys_of theory) → IsDistinct key_eq (keys_of (missing es theory))
missing_distinct es theory distinct = IsDistinct-keys_filter key_eq (λ e. is_none (entry_at e.0 es)) theory distinct

-- the keys of none, and of one
pub none_distinct : (es : Entries) → es ≡ [] → IsDistinct key_eq (keys_of es)
unfolding IsDistinct
none_distinct es e = subst (λ (l : Entries). IsDistinct key_eq (keys_of l)) (sym e) tt

pub one_distinct : (es before : Entries) (e : KeyValue × EntryValue) → before ≡ [] → es ≡ before ++ e ∷ [] → IsDistinct key_eq (keys_of es)
unfolding IsDistinct
one_distinct es before e none is = subst (λ (l : Entries). IsDistinct key_eq (keys_of l)) (sym (is ∙ ap (λ (l : Entries). l ++ e ∷ []) none)) (tt, tt)
