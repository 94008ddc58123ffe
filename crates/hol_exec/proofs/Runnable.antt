-- What is resolved can be run: the basis suits what its calls are given.
use Rattle.std.specs.Prelude.{◌≡◌, ℕ, List, Bool, true, false, cond, [], ◌∷◌, slice_get, decimal, Option, Some, None, is_some, Result, Ok, Err, refl}
use Rattle.std.specs.Option.{option_map, option_and_then}
use Rattle.std.proofs.Common.{ap, ◌∙◌, subst}
use Rattle.std.proofs.lemmas.Bool.{and_from}
use Rattle.hol_terms.specs.Nameless.{Nameless, nameless_type}
use Rattle.hol_formulas.specs.Equation.{bool_type}
use Rattle.hol_kernel.specs.Items.{Items}
use Rattle.hol_kernel.specs.Given.{assumed as assume}
use Rattle.hol_kernel.specs.Typing.{is_type_at, is_typed, is_known}
use Rattle.hol_notation_tactics.specs.Text.{CallText, TacText, TacTexts, Call, Then, ThenL, OrElse, Repeat, Try, Changed, Every, First, Replicate, DischThen, PopAssum, FirstAssum, SubgoalThen, no_tacs, more_tacs}
use Rattle.hol_goal.specs.Arguments.{TacArgsValue, Nothing, Term, Pair, Theorem, TermAndTheorem, Theorems}
use Rattle.hol_goal.specs.declared.tac_code.TacCode.{TacCode}
use Rattle.hol_just.specs.Answering.{suits}
use Rattle.hol_just.specs.Justifies.{holds_given}
use Rattle.hol_combine.specs.ExprValue.{CallValue, TheoremTacValue, ExprValue, ExprValues, more_exprs}
use Rattle.hol_combine.specs.ExprValue as expr
use Rattle.hol_combine.specs.Suits.{all_calls, all_calls_of, written, written_args, by_subgoal, suits_expr}
use Rattle.hol_resolve.specs.Over.{AreOver}
use Rattle.hol_resolve.specs.Readings.{term_at}
use Rattle.hol_resolve.specs.Steps.{IsTermOver}
use Rattle.hol_resolve.specs.Forms.{WrittenArgsValue, arguments_given, written_as}
use Rattle.hol_resolve.specs.declared.refusal.Refusal.{Refusal}
use Rattle.hol_resolve.proofs.Over.{term_over}
use Rattle.hol_resolve.proofs.Suiting.{Each as EachWritten, Suits, given_suit}
use Rattle.hol_notation_tactics.specs.declared.parts.Role.{Role}
use Rattle.hol_notation_tactics.specs.declared.parts.Role.TheVariants.{Whole, TheoremTactic}
use Rattle.hol_exec.specs.declared.reports.refusal.RefusalKind.TheVariants as refusal
use Rattle.hol_exec.specs.Resolved.{cited_theorems}
use Rattle.hol_exec.specs.Expr.{RefusedValue, ContextValue, mapped, both, named_result, term_before, formula, given, resolved_call, resolved_theorem_tac, resolved_whole, resolved_handing, resolved_expr, resolved_exprs}
use Rattle.hol_exec.specs.Callee.{CalleeValue, Registered, Defined, kind_of, kind_for, at_row, value_at, expression_in, named, fitting, registered, called}
use Rattle.hol_exec.specs.ReadsValue.{Values}
use Rattle.hol_exec.proofs.Known.{IsCitedIn, AreCitedIn}
use Rattle.hol_exec.proofs.Suited.{suits_larger}
use Rattle.hol_registry.specs.Table.{index_of}
use Rattle.hol_theory.specs.Key.{KeyValue, key_eq, tac_key}
use Rattle.hol_theory.specs.Entry.{EntryValue, AType, AConstant, ATheorem, ATac}

-- what is resolved, if anything is, has the property
abbrev Each : {X : Type 0} → (X → Type 0) → Result X RefusedValue → Type 0
Each P (Ok x) = P x
Each P (Err r) = Unit {0}

of_mapped : {X Y : Type 0} (P : X → Type 0) (Q : Y → Type 0) (f : X → Y) → ((x : X) → P x → Q (f x)) → (r : Result X RefusedValue) → Each P r → Each Q (mapped f r)
of_mapped P Q f g (Ok x) h = g x h
of_mapped P Q f g (Err e) h = tt

of_both : {X Y Z : Type 0} (P : X → Type 0) (Q : Y → Type 0) (R : Z → Type 0) (f : X → Y → Z) → ((x : X) (y : Y) → P x → Q y → R (f x y)) → (r : Result X RefusedValue) (s : Result Y RefusedValue) → Each P r → Each Q s → Each R (both f r s)
of_both P Q R f g (Ok x) s h k = of_mapped Q R (f x) (λ y. g x y h) s k
of_both P Q R f g (Err e) s h k = tt

bool_over : (basis : Items) (p : Nameless) → is_type_at (nameless_type [] p) bool_type ≡ true → is_typed basis p ≡ true → holds_given (assume p) basis ≡ true
bool_over basis p e h = by (is_known basis p) refl h
  where
    by : (b : Bool) → is_known basis p ≡ b → is_some (cond b (nameless_type [] p) None) ≡ true → holds_given (assume p) basis ≡ true
    by true f g = ap (λ (k : Bool). is_type_at (cond k (nameless_type [] p) None) bool_type) f ∙ e
    by false f g = absurd (cc)

-- ---- a test of all calls

module _ (context : ContextValue) (test : CallValue → Bool) (IsGood : Nameless → Type 0) where
  abbrev PassesWritten : TheoremTacValue → Type 0
  PassesWritten tac = test (written tac) ≡ true

  abbrev AllPass : ExprValue → Type 0
  AllPass e = all_calls test e ≡ true

  abbrev EachPasses : ExprValues → Type 0
  EachPasses ts = all_calls_of test ts ≡ true

  module _
      (whole : (call : CallText) → Each AllPass (resolved_whole context call))
      (handing : (call : CallText) → Each PassesWritten (resolved_handing context call))
      (formulas : (place : ℕ) → Each IsGood (formula place (term_at context.readings place)))
      (subgoal : (p : Nameless) (tac : TheoremTacValue) → IsGood p → PassesWritten tac → test (by_subgoal p tac) ≡ true) where
    mutual
      all_pass : (t : TacText) → Each AllPass (resolved_expr context t)
      all_pass (Call call) = whole call
      all_pass (Then t u) =
          of_both AllPass AllPass AllPass expr.Then (λ x y. and_from (all_calls test x) (all_calls test y)) (resolved_expr context t) (resolved_expr context u) (all_pass t) (all_pass u)
      all_pass (ThenL t us) =
          of_both AllPass EachPasses AllPass expr.ThenL (λ x y. and_from (all_calls test x) (all_calls_of test y)) (resolved_expr context t) (resolved_exprs context us) (all_pass t) (each_passes us)
      all_pass (OrElse t u) =
          of_both AllPass AllPass AllPass expr.OrElse (λ x y. and_from (all_calls test x) (all_calls test y)) (resolved_expr context t) (resolved_expr context u) (all_pass t) (all_pass u)
      all_pass (Repeat t) = of_mapped AllPass AllPass expr.Repeat (λ x h. h) (resolved_expr context t) (all_pass t)
      all_pass (Try t) = of_mapped AllPass AllPass expr.Try (λ x h. h) (resolved_expr context t) (all_pass t)
      all_pass (Changed t) = of_mapped AllPass AllPass expr.Changed (λ x h. h) (resolved_expr context t) (all_pass t)
      all_pass (Every ts) = of_mapped EachPasses AllPass expr.Every (λ x h. h) (resolved_exprs context ts) (each_passes ts)
      all_pass (First ts) = of_mapped EachPasses AllPass expr.First (λ x h. h) (resolved_exprs context ts) (each_passes ts)
      all_pass (Replicate n t) = of_mapped AllPass AllPass (expr.Replicate n) (λ x h. h) (resolved_expr context t) (all_pass t)
      all_pass (DischThen call) = of_mapped PassesWritten AllPass expr.DischThen (λ x h. h) (resolved_handing context call) (handing call)
      all_pass (PopAssum call) = of_mapped PassesWritten AllPass expr.PopAssum (λ x h. h) (resolved_handing context call) (handing call)
      all_pass (FirstAssum call) = of_mapped PassesWritten AllPass expr.FirstAssum (λ x h. h) (resolved_handing context call) (handing call)
      all_pass (SubgoalThen q call) =
          of_both IsGood PassesWritten AllPass expr.SubgoalThen (λ p tac g h. and_from (test (by_subgoal p tac)) (test (written tac)) (subgoal p tac g h) h)
          (formula q.place (term_at context.readings q.place)) (resolved_handing context call) (formulas q.place) (handing call)

      each_passes : (ts : TacTexts) → Each EachPasses (resolved_exprs context ts)
      each_passes no_tacs = refl
      each_passes (more_tacs t ts) =
          of_both AllPass EachPasses EachPasses more_exprs (λ x y. and_from (all_calls test x) (all_calls_of test y)) (resolved_expr context t) (resolved_exprs context ts) (all_pass t) (each_passes ts)

-- ---- expressions that were named

-- what is registered is no expression
registered_only : (name : List ℕ) (table : List (List ℕ × TacCode)) (e : ExprValue) (bases : List Items) → registered name table ≡ Some (Defined e bases) → ⊥
registered_only name table e bases h = by (index_of name table) h
  where
    at : (k : ℕ) (o : Option (List ℕ × TacCode)) → at_row k o ≡ Some (Defined e bases) → ⊥
    at k None h = absurd (cc)
    at k (Some row) h = absurd (cc)

    by : (o : Option ℕ) → option_and_then (λ index. at_row index (slice_get table index)) o ≡ Some (Defined e bases) → ⊥
    by None h = absurd (cc)
    by (Some k) h = at k (slice_get table k) h

module _ (keep : List ℕ → Bool) (items : Items) where
  in_value : (key : KeyValue) (o : Option EntryValue) (e : ExprValue) (bases : List Items) → IsCitedIn keep items key o → expression_in o ≡ Some (Defined e bases) → suits_expr e items ≡ true
  in_value key None e bases all h = absurd (cc)
  in_value key (Some (AType arity item basis)) e bases all h = absurd (cc)
  in_value key (Some (AConstant ty item basis)) e bases all h = absurd (cc)
  in_value key (Some (ATheorem th)) e bases all h = absurd (cc)
  in_value key (Some (ATac x own basis)) e bases all h =
      let same : x ≡ e = cc in
      suits_larger e basis items all.1 (subst (λ (y : ExprValue). suits_expr y basis ≡ true) same all.0)

  in_values : (key : KeyValue) (cited : Values) (e : ExprValue) (bases : List Items) → AreCitedIn keep items cited → expression_in (value_at key cited) ≡ Some (Defined e bases) → suits_expr e items ≡ true
  in_values key [] e bases all h = absurd (cc)
  in_values key ((k, value) ∷ more) e bases all h = by (key_eq key k) h (in_values key more e bases all.1)
    where
      by : (b : Bool) → expression_in (cond b value (value_at key more)) ≡ Some (Defined e bases) → (expression_in (value_at key more) ≡ Some (Defined e bases) → suits_expr e items ≡ true) → suits_expr e items ≡ true
      by true h rest = in_value k value e bases all.0 h
      by false h rest = rest h

  -- an expression that is called suits the items
  called_suited : (table : List (List ℕ × TacCode)) (role : Role) (call : CallText) (cited : Values) (e : ExprValue) (bases : List Items) (w : WrittenArgsValue) → AreCitedIn keep items cited →
      called table role call cited ≡ Some (Defined e bases, w) → suits_expr e items ≡ true
  called_suited table role call cited e bases w all h = by (registered call.name table) refl h
    where
      first : CalleeValue → Option (CalleeValue × WrittenArgsValue) → CalleeValue
      first c None = c
      first c (Some found) = found.0

      with : (c : CalleeValue) (o : Option WrittenArgsValue) → option_map {U = CalleeValue × WrittenArgsValue} (λ (x : WrittenArgsValue). (c, x)) o ≡ Some (Defined e bases, w) → c ≡ Defined e bases
      with c None h = absurd (cc)
      with c (Some x) h = ap (first c) h

      fits : (o : Option CalleeValue) → fitting o role call.arguments ≡ Some (Defined e bases, w) → o ≡ Some (Defined e bases)
      fits None h = absurd (cc)
      fits (Some c) h = ap Some (with c (option_and_then (λ kind. written_as kind call.arguments) (kind_for role (kind_of c))) h)

      by : (o : Option CalleeValue) → registered call.name table ≡ o → fitting (named call.name o cited) role call.arguments ≡ Some (Defined e bases, w) → suits_expr e items ≡ true
      by None f h = in_values (tac_key call.name) cited e bases all (fits (expression_in (value_at (tac_key call.name) cited)) h)
      by (Some c) f h = absurd (registered_only call.name table e bases (f ∙ fits (Some c) h))

-- ---- the basis

module _ (context : ContextValue) where
  module _ (keep : List ℕ → Bool) (cited : AreCitedIn keep context.basis context.cited) (over : AreOver context.basis context.readings) where
    abbrev IsSuited : CallValue → Bool
    IsSuited call = suits call.args context.basis

    all_suit : (name : List ℕ) (w : WrittenArgsValue) → Each (Suits context.basis) (given context name w)
    all_suit name w = by (arguments_given context.basis (cited_theorems context.cited) context.readings w) (given_suit context.basis context.readings over (cited_theorems context.cited) w)
      where
        by : (r : Result TacArgsValue Refusal) → EachWritten (Suits context.basis) r → Each (Suits context.basis) (named_result name r)
        by (Ok a) h = h
        by (Err x) h = tt

    whole_suited : (call : CallText) → Each (λ e. all_calls IsSuited e ≡ true) (resolved_whole context call)
    whole_suited call = by (called context.table Whole call context.cited) refl
      where
        by : (o : Option (CalleeValue × WrittenArgsValue)) → called context.table Whole call context.cited ≡ o → Each (λ e. all_calls IsSuited e ≡ true) (resolved_call context call.name o)
        by None is = tt
        by (Some (Registered index code, w)) is = of_mapped (Suits context.basis) (λ e. all_calls IsSuited e ≡ true) _ (λ a h. h) (given context call.name w) (all_suit call.name w)
        by (Some (Defined e bases, w)) is = called_suited keep context.basis context.table Whole call context.cited e bases w cited is

    before : (a : TacArgsValue) → Suits context.basis a → suits (written_args (term_before a)) context.basis ≡ true
    before Nothing h = refl
    before (Term t) h = h
    before (Pair s t) h = refl
    before (Theorem th) h = refl
    before (TermAndTheorem t th) h = refl
    before (Theorems ths) h = refl

    handing_suited : (call : CallText) → Each (λ tac. IsSuited (written tac) ≡ true) (resolved_handing context call)
    handing_suited call = by (called context.table TheoremTactic call context.cited)
      where
        by : (o : Option (CalleeValue × WrittenArgsValue)) → Each (λ tac. IsSuited (written tac) ≡ true) (resolved_theorem_tac context call.name o)
        by None = tt
        by (Some (Registered index code, w)) = of_mapped (Suits context.basis) (λ tac. IsSuited (written tac) ≡ true) _ before (given context call.name w) (all_suit call.name w)
        by (Some (Defined e bases, w)) = tt

    abbrev IsFormula : Nameless → Type 0
    IsFormula p = holds_given (assume p) context.basis ≡ true

    formula_suited : (place : ℕ) → Each IsFormula (formula place (term_at context.readings place))
    formula_suited place = by (term_at context.readings place) (term_over context.basis context.readings place over)
      where
        typed : (p : Nameless) (b : Bool) → is_type_at (nameless_type [] p) bool_type ≡ b → is_typed context.basis p ≡ true → Each IsFormula (cond b (Ok p) (Err (refusal.NotBool, decimal place)))
        typed p true e h = bool_over context.basis p e h
        typed p false e h = tt

        by : (o : Option Nameless) → IsTermOver context.basis o → Each IsFormula (formula place o)
        by None h = tt
        by (Some p) h = typed p (is_type_at (nameless_type [] p) bool_type) refl h

    pub runs_found : (t : TacText) (e : ExprValue) → resolved_expr context t ≡ Ok e → suits_expr e context.basis ≡ true
    runs_found t e found =
        subst (Each (λ x. suits_expr x context.basis ≡ true)) found (all_pass context IsSuited IsFormula whole_suited handing_suited formula_suited (λ p tac g h. g) t)
