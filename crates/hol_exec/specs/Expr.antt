-- Expressions of functions on goals, as they are written, and what they resolve to. How they run is hol_combine's.
-- Sources: the tactics and tacticals of the HOL Light Reference Manual; the order of refusals is this project's.
use Rattle.std.specs.Prelude.{◌≡◌, ℕ, List, [], ◌∷◌, Bool, false, ◌&&◌, not, bytes_eq, cond, decimal, Option, Some, None, is_some, Result, Ok, Err}
use Rattle.hol_terms.specs.Nameless.{Nameless, nameless_type}
use Rattle.hol_formulas.specs.Equation.{bool_type}
use Rattle.hol_kernel.specs.Items.{Items}
use Rattle.hol_kernel.specs.Typing.{is_type_at}
use Rattle.hol_notation_terms.specs.Text.{QuotationText}
use Rattle.hol_notation_tactics.specs.Parts.{parts_of, calls_in}
use Rattle.hol_notation_tactics.specs.declared.parts.Part.{Part}
use Rattle.hol_notation_tactics.specs.declared.parts.Part.TheVariants as part
use Rattle.hol_notation_tactics.specs.Text.{CallText, TacText, TacTexts, Call, Then, ThenL, OrElse, Repeat, Try, Changed, Every, First, Replicate, DischThen, PopAssum, FirstAssum, SubgoalThen, no_tacs, more_tacs}
use Rattle.hol_goal.specs.Arguments.{TacArgsValue}
use Rattle.hol_goal.specs.Arguments as args
use Rattle.hol_goal.specs.declared.tac_code.TacCode.{TacCode}
use Rattle.hol_combine.specs.ExprValue.{TheoremTacValue, ExprValue, ExprValues, no_exprs, more_exprs}
use Rattle.hol_combine.specs.ExprValue as expr
use Rattle.hol_resolve.specs.Forward.{rule_word}
use Rattle.hol_resolve.specs.Quotations.{quotations_in}
use Rattle.hol_resolve.specs.Readings.{ReadingsValue, AreRead, term_at}
use Rattle.hol_resolve.specs.Forms.{WrittenArgsValue, arguments_given}
use Rattle.hol_resolve.specs.declared.refusal.Refusal.{Refusal}
use Rattle.hol_resolve.specs.declared.refusal.Refusal.TheVariants as resolving
use Rattle.hol_notation_tactics.specs.declared.parts.Role.{Role}
use Rattle.hol_notation_tactics.specs.declared.parts.Role.TheVariants.{Whole, TheoremTactic}
use Rattle.hol_exec.specs.declared.reports.refusal.RefusalKind.{RefusalKind}
use Rattle.hol_exec.specs.declared.reports.refusal.RefusalKind.TheVariants as refusal
use Rattle.hol_exec.specs.Setup.{SetupValue}
use Rattle.hol_exec.specs.ReadsValue.{Values}
use Rattle.hol_exec.specs.Signature.{signature_of}
use Rattle.hol_theory.specs.Key.{KeyValue, key_text}
use Rattle.hol_exec.specs.Resolved.{cited_theorems, resolved_basis}
use Rattle.hol_exec.specs.Standing.{first_unknown}
use Rattle.hol_exec.specs.Callee.{CalleeValue, Registered, Defined, called}

-- ---- resolving, of one number all that is written before the next

-- what resolving comes to: an expression that can be run, with the basis of all that was resolved and what its quotations read as, or the refusal
pub data ResolutionValue : Type 0 where
  Resolved : ExprValue → Items → ReadingsValue → ResolutionValue
  Unresolved : RefusalKind → List ℕ → ResolutionValue

-- whether a name is that of the expression which the command itself names, if it names one
abbrev pub is_own : Option (List ℕ) → List ℕ → Bool
is_own None name = false
is_own (Some own) name = bytes_eq own name

-- the name of the first call whose name is that, or stands for nothing, or whose arguments aren't of its kind
abbrev pub first_unfit : SetupValue → Option (List ℕ) → List (Role × CallText) → Values → Option (List ℕ)
first_unfit setup own [] cited = None
first_unfit setup own ((role, call) ∷ calls) cited =
    cond (not (is_own own call.name) && is_some (called setup.table role call cited)) (first_unfit setup own calls cited) (Some call.name)

-- a name is refused
abbrev pub refused_name : RefusalKind → Option (List ℕ) → Option (RefusalKind × List ℕ)
refused_name kind None = None
refused_name kind (Some name) = Some (kind, name)

-- what is refused of the names, in order: an unknown theorem; a call that doesn't fit
abbrev pub named_refusals : SetupValue → Option (List ℕ) → TacText → Values → List (Option (RefusalKind × List ℕ))
named_refusals setup own tactic cited =
    refused_name refusal.UnknownTheorem (first_unknown cited) ∷ refused_name refusal.UnknownTac (first_unfit setup own (calls_in (parts_of tactic)) cited) ∷ []

abbrev pub first_refusal : List (Option (RefusalKind × List ℕ)) → Option (RefusalKind × List ℕ)
first_refusal [] = None
first_refusal (None ∷ more) = first_refusal more
first_refusal (Some refused ∷ more) = Some refused

-- the quotations that SUBGOAL_THEN takes
abbrev pub formulas_in : List Part → List QuotationText
formulas_in [] = []
formulas_in (part.Term t ∷ parts) = formulas_in parts
formulas_in (part.Type a ∷ parts) = formulas_in parts
formulas_in (part.Theorem name ∷ parts) = formulas_in parts
formulas_in (part.Call role call ∷ parts) = formulas_in parts
formulas_in (part.Formula p ∷ parts) = p ∷ formulas_in parts

-- a reading is of type bool
abbrev pub is_formula : Option Nameless → Bool
is_formula None = false
is_formula (Some p) = is_type_at (nameless_type [] p) bool_type

-- the place of the first of the quotations that isn't
abbrev pub first_not_bool : ReadingsValue → List QuotationText → Option ℕ
first_not_bool readings [] = None
first_not_bool readings (q ∷ quotations) = cond (is_formula (term_at readings q.place)) (first_not_bool readings quotations) (Some q.place)

-- a refusal, and what it speaks of
abbrev pub RefusedValue : Type 0
RefusedValue = RefusalKind × List ℕ

-- what is refused of readings and of arguments, as the command is refused; arguments of another kind are refused by the name of what is called
abbrev pub refused_by : List ℕ → Refusal → RefusedValue
refused_by name (resolving.WrongArity place) = (refusal.Arity, decimal place)
refused_by name (resolving.NoTyping place) = (refusal.Untypable, decimal place)
refused_by name resolving.TooLarge = (refusal.TooLarge, [])
refused_by name (resolving.UnknownTheorem theorem) = (refusal.UnknownTheorem, theorem)
refused_by name resolving.WrongArguments = (refusal.UnknownTac, name)
refused_by name (resolving.BadRule rule) = (refusal.BadRule, rule_word rule)

-- ---- parts that are resolved, of which the first refusal counts

abbrev pub mapped : {X Y : Type 0} → (X → Y) → Result X RefusedValue → Result Y RefusedValue
mapped f (Ok x) = Ok (f x)
mapped f (Err r) = Err r

abbrev pub both : {X Y Z : Type 0} → (X → Y → Z) → Result X RefusedValue → Result Y RefusedValue → Result Z RefusedValue
both f (Ok x) y = mapped (f x) y
both f (Err r) y = Err r

abbrev pub named_result : List ℕ → Result TacArgsValue Refusal → Result TacArgsValue RefusedValue
named_result name (Ok x) = Ok x
named_result name (Err r) = Err (refused_by name r)

-- what is written before a theorem that is left out: nothing, or a term
abbrev pub term_before : TacArgsValue → Option Nameless
term_before args.Nothing = None
term_before (args.Term t) = Some t
term_before (args.Pair s t) = None
term_before (args.Theorem th) = None
term_before (args.TermAndTheorem t th) = None
term_before (args.Theorems ths) = None

-- the reading of a quotation that SUBGOAL_THEN takes
abbrev pub formula : ℕ → Option Nameless → Result Nameless RefusedValue
formula place None = Err (refusal.NotBool, decimal place)
formula place (Some p) = cond (is_type_at (nameless_type [] p) bool_type) (Ok p) (Err (refusal.NotBool, decimal place))

-- what names and quotations are resolved by: the table of registered functions, the values of what is cited, the readings of all quotations, and the basis of all that is resolved
pub record ContextValue : Type 0 where
  pub table : List (List ℕ × TacCode)
  pub cited : Values
  pub readings : ReadingsValue
  pub basis : Items

-- the arguments of a call by its name, over a basis, as the quotations are read
abbrev pub arguments_for : Items → Values → ReadingsValue → List ℕ → WrittenArgsValue → Result TacArgsValue RefusedValue
arguments_for basis cited readings name written = named_result name (arguments_given basis (cited_theorems cited) readings written)

module _ (context : ContextValue) where
  abbrev pub given : List ℕ → WrittenArgsValue → Result TacArgsValue RefusedValue
  given name written = arguments_for context.basis context.cited context.readings name written

  -- a call, or a use of an expression that was named
  abbrev pub resolved_call : List ℕ → Option (CalleeValue × WrittenArgsValue) → Result ExprValue RefusedValue
  resolved_call name None = Err (refusal.UnknownTac, name)
  resolved_call name (Some (Registered index code, written)) = mapped (λ a. expr.Call (record { index = index; name = name; args = a })) (given name written)
  resolved_call name (Some (Defined e bases, written)) = Ok (expr.Defined e)

  abbrev pub resolved_theorem_tac : List ℕ → Option (CalleeValue × WrittenArgsValue) → Result TheoremTacValue RefusedValue
  resolved_theorem_tac name None = Err (refusal.UnknownTac, name)
  resolved_theorem_tac name (Some (Registered index code, written)) = mapped (λ a. record { index = index; name = name; term = term_before a }) (given name written)
  resolved_theorem_tac name (Some (Defined e bases, written)) = Err (refusal.UnknownTac, name)

  abbrev pub resolved_whole : CallText → Result ExprValue RefusedValue
  resolved_whole call = resolved_call call.name (called context.table Whole call context.cited)

  abbrev pub resolved_handing : CallText → Result TheoremTacValue RefusedValue
  resolved_handing call = resolved_theorem_tac call.name (called context.table TheoremTactic call context.cited)

  abbrev mutual
    pub resolved_expr : TacText → Result ExprValue RefusedValue
    resolved_expr (Call call) = resolved_whole call
    resolved_expr (Then t u) = both expr.Then (resolved_expr t) (resolved_expr u)
    resolved_expr (ThenL t us) = both expr.ThenL (resolved_expr t) (resolved_exprs us)
    resolved_expr (OrElse t u) = both expr.OrElse (resolved_expr t) (resolved_expr u)
    resolved_expr (Repeat t) = mapped expr.Repeat (resolved_expr t)
    resolved_expr (Try t) = mapped expr.Try (resolved_expr t)
    resolved_expr (Changed t) = mapped expr.Changed (resolved_expr t)
    resolved_expr (Every ts) = mapped expr.Every (resolved_exprs ts)
    resolved_expr (First ts) = mapped expr.First (resolved_exprs ts)
    resolved_expr (Replicate n t) = mapped (expr.Replicate n) (resolved_expr t)
    resolved_expr (DischThen call) = mapped expr.DischThen (resolved_handing call)
    resolved_expr (PopAssum call) = mapped expr.PopAssum (resolved_handing call)
    resolved_expr (FirstAssum call) = mapped expr.FirstAssum (resolved_handing call)
    resolved_expr (SubgoalThen p call) = both expr.SubgoalThen (formula p.place (term_at context.readings p.place)) (resolved_handing call)

    pub resolved_exprs : TacTexts → Result ExprValues RefusedValue
    resolved_exprs no_tacs = Ok no_exprs
    resolved_exprs (more_tacs t ts) = both more_exprs (resolved_expr t) (resolved_exprs ts)

-- ---- all of it

abbrev pub refused_resolution : RefusedValue → ResolutionValue
refused_resolution refused = Unresolved refused.0 refused.1

abbrev pub resolution_of : Items → ReadingsValue → Result ExprValue RefusedValue → ResolutionValue
resolution_of basis readings (Ok e) = Resolved e basis readings
resolution_of basis readings (Err r) = refused_resolution r

-- past a key that is taken, if the command makes one
abbrev pub resolved_untaken : SetupValue → Option KeyValue → TacText → Values → ReadingsValue → ResolutionValue
resolved_untaken setup (Some key) tactic cited readings = Unresolved refusal.NameTaken (key_text key)
resolved_untaken setup None tactic cited readings =
    let basis : Items = resolved_basis cited readings in
    resolution_of basis readings (resolved_expr (record { table = setup.table; cited = cited; readings = readings; basis = basis }) tactic)

-- past the first quotation that isn't of type bool, if there is one
abbrev pub resolved_formulas : SetupValue → Option KeyValue → TacText → Values → ReadingsValue → Option ℕ → ResolutionValue
resolved_formulas setup taken tactic cited readings (Some place) = Unresolved refusal.NotBool (decimal place)
resolved_formulas setup taken tactic cited readings None = resolved_untaken setup taken tactic cited readings

-- what is written, by what its quotations read as
abbrev pub resolved_read : SetupValue → Option KeyValue → TacText → Values → Result ReadingsValue Refusal → ResolutionValue
resolved_read setup taken tactic cited (Ok readings) = resolved_formulas setup taken tactic cited readings (first_not_bool readings (formulas_in (parts_of tactic)))
resolved_read setup taken tactic cited (Err r) = refused_resolution (refused_by [] r)

-- past what is refused of names: all that is quoted is read before anything is resolved
abbrev pub IsResolvedFitting : SetupValue → Option KeyValue → TacText → Values → ResolutionValue → Type 0
IsResolvedFitting setup taken tactic cited resolution =
    (readings : Result ReadingsValue Refusal) × AreRead (signature_of cited) (quotations_in (parts_of tactic)) readings × (resolution ≡ resolved_read setup taken tactic cited readings)

abbrev pub IsResolvedPast : SetupValue → Option KeyValue → TacText → Values → Option (RefusalKind × List ℕ) → ResolutionValue → Type 0
IsResolvedPast setup taken tactic cited (Some refused) resolution = resolution ≡ refused_resolution refused
IsResolvedPast setup taken tactic cited None resolution = IsResolvedFitting setup taken tactic cited resolution

-- what is written comes to this, over the values of what it cites; the command may name an expression, and a key that it makes may be taken
abbrev pub IsResolution : SetupValue → Option (List ℕ) → Option KeyValue → TacText → Values → ResolutionValue → Type 0
IsResolution setup own taken tactic cited resolution = IsResolvedPast setup taken tactic cited (first_refusal (named_refusals setup own tactic cited)) resolution
