-- What the code's arguments stand for.
use Rattle.std.specs.Prelude.{[]}
use Rattle.hol_terms.specs.Nameless.{nameless}
use Rattle.hol_goal.specs.declared.tac_args.TacArgs.{TacArgs}
use Rattle.hol_goal.specs.declared.tac_args.TacArgs.TheVariants as code
use Rattle.hol_goal.specs.Arguments.{TacArgsValue, Nothing, Term, Pair, Theorem, TermAndTheorem, Theorems}

abbrev pub args_value : TacArgs → TacArgsValue
args_value code.Nothing = Nothing
args_value (code.Term t) = Term (nameless [] t)
args_value (code.Pair s t) = Pair (nameless [] s) (nameless [] t)
args_value (code.Theorem th) = Theorem th
args_value (code.TermAndTheorem t th) = TermAndTheorem (nameless [] t) th
args_value (code.Theorems ths) = Theorems ths.items
