-- The forms of arguments as they are written, told apart once, and what they come to over the basis of all that is resolved.
-- Source: this project.
use Rattle.std.specs.Prelude.{List, [], ◌∷◌, Option, Some, None, Result, Ok}
use Rattle.std.specs.Option.{option_map, option_and_then}
use Rattle.hol_kernel.specs.Items.{Items}
use Rattle.hol_notation_terms.specs.Text.{QuotationText}
use Rattle.hol_notation_tactics.specs.Text as text
use Rattle.hol_notation_tactics.specs.Text.{ThmText, ArgumentText}
use Rattle.hol_goal.specs.Arguments.{TacArgsValue}
use Rattle.hol_goal.specs.Arguments as args
use Rattle.hol_goal.specs.declared.tac_args.ArgumentKind.{ArgumentKind}
use Rattle.hol_goal.specs.declared.tac_args.ArgumentKind.TheVariants as takes
use Rattle.hol_resolve.specs.declared.refusal.Refusal.{Refusal}
use Rattle.hol_resolve.specs.Readings.{ReadingsValue}
use Rattle.hol_resolve.specs.Forward.{CitedValue}
use Rattle.hol_resolve.specs.Written.{result_map, result_both, term_given, theorem_given, theorems_given}

pub data WrittenArgsValue : Type 0 where
  Nothing : WrittenArgsValue
  Term : QuotationText → WrittenArgsValue
  Pair : QuotationText → QuotationText → WrittenArgsValue
  Theorem : ThmText → WrittenArgsValue
  TermAndTheorem : QuotationText → ThmText → WrittenArgsValue
  Theorems : List ThmText → WrittenArgsValue

abbrev pub a_term : ArgumentText → Option QuotationText
a_term (text.Term t) = Some t
a_term (text.Theorem th) = None
a_term (text.Pair s t) = None
a_term (text.Theorems ths) = None

abbrev pub a_theorem : ArgumentText → Option ThmText
a_theorem (text.Term t) = None
a_theorem (text.Theorem th) = Some th
a_theorem (text.Pair s t) = None
a_theorem (text.Theorems ths) = None

abbrev pub a_pair : ArgumentText → Option WrittenArgsValue
a_pair (text.Term t) = None
a_pair (text.Theorem th) = None
a_pair (text.Pair s t) = Some (Pair s t)
a_pair (text.Theorems ths) = None

abbrev pub a_list : ArgumentText → Option WrittenArgsValue
a_list (text.Term t) = None
a_list (text.Theorem th) = None
a_list (text.Pair s t) = None
a_list (text.Theorems ths) = Some (Theorems ths)

abbrev pub none_of : List ArgumentText → Option WrittenArgsValue
none_of [] = Some Nothing
none_of (a ∷ arguments) = None

abbrev pub the_one : List ArgumentText → Option ArgumentText
the_one [] = None
the_one (a ∷ []) = Some a
the_one (a ∷ b ∷ arguments) = None

abbrev pub two_of : List ArgumentText → Option WrittenArgsValue
two_of [] = None
two_of (a ∷ arguments) = option_and_then (λ t. option_map (TermAndTheorem t) (option_and_then a_theorem (the_one arguments))) (a_term a)

-- what is written as arguments of a kind, if it is of it
abbrev pub written_as : ArgumentKind → List ArgumentText → Option WrittenArgsValue
written_as takes.Nothing arguments = none_of arguments
written_as takes.Term arguments = option_map Term (option_and_then a_term (the_one arguments))
written_as takes.Pair arguments = option_and_then a_pair (the_one arguments)
written_as takes.Theorem arguments = option_map Theorem (option_and_then a_theorem (the_one arguments))
written_as takes.TermAndTheorem arguments = two_of arguments
written_as takes.Theorems arguments = option_and_then a_list (the_one arguments)

-- what they come to
module _ (basis : Items) (cited : CitedValue) (readings : ReadingsValue) where
  abbrev pub arguments_given : WrittenArgsValue → Result TacArgsValue Refusal
  arguments_given Nothing = Ok args.Nothing
  arguments_given (Term t) = result_map args.Term (term_given readings t)
  arguments_given (Pair s t) = result_both args.Pair (term_given readings s) (term_given readings t)
  arguments_given (Theorem th) = result_map args.Theorem (theorem_given basis cited readings th)
  arguments_given (TermAndTheorem t th) = result_both args.TermAndTheorem (term_given readings t) (theorem_given basis cited readings th)
  arguments_given (Theorems ths) = result_map args.Theorems (theorems_given basis cited readings ths)
