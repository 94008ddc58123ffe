-- What is asked of every call in an expression.
use Rattle.std.specs.Prelude.{Bool, true, ◌&&◌, Option, Some, None}
use Rattle.hol_terms.specs.Nameless.{Nameless}
use Rattle.hol_goal.specs.Arguments.{TacArgsValue, Nothing, Term, Theorem}
use Rattle.hol_kernel.specs.Items.{Items}
use Rattle.hol_kernel.specs.Given.{assumed as assume}
use Rattle.hol_just.specs.Answering.{suits}
use Rattle.hol_combine.specs.ExprValue.{CallValue, TheoremTacValue, ExprValue, ExprValues, Call, Then, ThenL, OrElse, Try, Repeat, Every, First, Replicate, Changed, DischThen, PopAssum, FirstAssum, SubgoalThen, Defined, no_exprs, more_exprs}

-- what is written of a function of a theorem
abbrev pub written_args : Option Nameless → TacArgsValue
written_args None = Nothing
written_args (Some t) = Term t

abbrev pub written : TheoremTacValue → CallValue
written called = record { index = called.index; name = called.name; args = written_args called.term }

-- the theorem `{p} |- p` of SUBGOAL_THEN, in place of the arguments
abbrev pub by_subgoal : Nameless → TheoremTacValue → CallValue
by_subgoal p called = record { index = called.index; name = called.name; args = Theorem (assume p) }

-- whether the test holds of each call, of what is written of each function of a theorem, and of the theorem of SUBGOAL_THEN
abbrev mutual
  pub all_calls : (CallValue → Bool) → ExprValue → Bool
  all_calls test (Call call) = test call
  all_calls test (Then t u) = all_calls test t && all_calls test u
  all_calls test (ThenL t us) = all_calls test t && all_calls_of test us
  all_calls test (OrElse t u) = all_calls test t && all_calls test u
  all_calls test (Try t) = all_calls test t
  all_calls test (Repeat t) = all_calls test t
  all_calls test (Every ts) = all_calls_of test ts
  all_calls test (First ts) = all_calls_of test ts
  all_calls test (Replicate n t) = all_calls test t
  all_calls test (Changed t) = all_calls test t
  all_calls test (DischThen called) = test (written called)
  all_calls test (PopAssum called) = test (written called)
  all_calls test (FirstAssum called) = test (written called)
  all_calls test (SubgoalThen p called) = test (by_subgoal p called) && test (written called)
  all_calls test (Defined t) = all_calls test t

  pub all_calls_of : (CallValue → Bool) → ExprValues → Bool
  all_calls_of test no_exprs = true
  all_calls_of test (more_exprs t ts) = all_calls test t && all_calls_of test ts

-- the basis suits all arguments that are written
abbrev pub suits_expr : ExprValue → Items → Bool
suits_expr expr basis = all_calls (λ call. suits call.args basis) expr

abbrev pub suits_written : TheoremTacValue → Items → Bool
suits_written called basis = suits (written called).args basis
