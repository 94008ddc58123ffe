-- Calls of functions on goals, as they are written: what a name calls, and the arguments of its kind. What each function leaves of a goal is said by its code, in
-- hol_just.
use Rattle.std.specs.Prelude.{ℕ, List, [], ◌∷◌, cond, slice_get, Option, Some, None}
use Rattle.std.specs.Option.{option_map, option_and_then}
use Rattle.hol_notation_tactics.specs.Text.{ArgumentText, CallText}
use Rattle.hol_goal.specs.Arguments.{arguments_of}
use Rattle.hol_goal.specs.declared.tac_args.ArgumentKind.{ArgumentKind}
use Rattle.hol_goal.specs.declared.tac_args.ArgumentKind.TheVariants as takes
use Rattle.hol_goal.specs.declared.tac_code.TacCode.{TacCode}
use Rattle.hol_registry.specs.Table.{index_of}
use Rattle.hol_kernel.specs.Items.{Items}
use Rattle.hol_combine.specs.ExprValue.{ExprValue}
use Rattle.hol_theory.specs.Key.{KeyValue, key_eq, tac_key}
use Rattle.hol_theory.specs.Entry.{EntryValue, AType, AConstant, ATheorem, ATac}
use Rattle.hol_resolve.specs.Forms.{WrittenArgsValue, written_as}
use Rattle.hol_notation_tactics.specs.declared.parts.Role.{Role}
use Rattle.hol_notation_tactics.specs.declared.parts.Role.TheVariants.{Whole, TheoremTactic}
use Rattle.hol_exec.specs.ReadsValue.{Values}

-- what a name calls: the registered function at an index of the table, with its code; or an expression that was named, with what its theorems rest on by themselves
pub data CalleeValue : Type 0 where
  Registered : ℕ → TacCode → CalleeValue
  Defined : ExprValue → List Items → CalleeValue

-- the kind of arguments of what is called
abbrev pub kind_of : CalleeValue → ArgumentKind
kind_of (Registered index code) = arguments_of code
kind_of (Defined e bases) = takes.Nothing

-- the kind of what is written as arguments of a kind: a theorem tactic's last argument, a theorem, is left out
abbrev pub kind_for : Role → ArgumentKind → Option ArgumentKind
kind_for Whole kind = Some kind
kind_for TheoremTactic takes.Nothing = None
kind_for TheoremTactic takes.Term = None
kind_for TheoremTactic takes.Pair = None
kind_for TheoremTactic takes.Theorem = Some takes.Nothing
kind_for TheoremTactic takes.TermAndTheorem = Some takes.Term
kind_for TheoremTactic takes.Theorems = None

abbrev pub at_row : ℕ → Option (List ℕ × TacCode) → Option CalleeValue
at_row index None = None
at_row index (Some row) = Some (Registered index row.1)

-- what is registered under a name
abbrev pub registered : List ℕ → List (List ℕ × TacCode) → Option CalleeValue
registered name table = option_and_then (λ index. at_row index (slice_get table index)) (index_of name table)

-- what stands under a key that is cited
abbrev pub value_at : KeyValue → Values → Option EntryValue
value_at key [] = None
value_at key ((k, value) ∷ more) = cond (key_eq key k) value (value_at key more)

abbrev pub expression_in : Option EntryValue → Option CalleeValue
expression_in None = None
expression_in (Some (AType arity item basis)) = None
expression_in (Some (AConstant ty item basis)) = None
expression_in (Some (ATheorem th)) = None
expression_in (Some (ATac e bases basis)) = Some (Defined e bases)

-- what a name stands for, from what is registered under it and the values of what is cited: the registered function, or else the expression that was named so
abbrev pub named : List ℕ → Option CalleeValue → Values → Option CalleeValue
named name None cited = expression_in (value_at (tac_key name) cited)
named name (Some c) cited = Some c

-- it with the arguments that are written, where they are of its kind
abbrev pub fitting : Option CalleeValue → Role → List ArgumentText → Option (CalleeValue × WrittenArgsValue)
fitting None role arguments = None
fitting (Some c) role arguments = option_map (λ w. (c, w)) (option_and_then (λ kind. written_as kind arguments) (kind_for role (kind_of c)))

-- what a call of the role calls, with its arguments, where the name stands for something and these are of its kind
abbrev pub called : List (List ℕ × TacCode) → Role → CallText → Values → Option (CalleeValue × WrittenArgsValue)
called table role call cited = fitting (named call.name (registered call.name table) cited) role call.arguments
