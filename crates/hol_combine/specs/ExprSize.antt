-- The size of an expression. Each call, each tactical and each argument counts 1; an argument also the sizes of its terms, and of the hypotheses and
-- conclusions of its theorems; a formula counts as an argument, a number nothing. A use of a named expression counts what it stands for alone.
-- Source: this project.
use Rattle.std.specs.Prelude.{ℕ, ◌+◌, List, [], ◌∷◌, Option, Some, None}
use Rattle.hol_terms.specs.Nameless.{Nameless}
use Rattle.hol_terms.specs.Size.{term_size}
use Rattle.hol_kernel.specs.Given.{Given, given_sequent}
use Rattle.hol_match.specs.Listed.{listed}
use Rattle.hol_goal.specs.Goal.{terms_size}
use Rattle.hol_goal.specs.Arguments.{TacArgsValue, Nothing, Term, Pair, Theorem, TermAndTheorem, Theorems}
use Rattle.hol_combine.specs.ExprValue.{TheoremTacValue, ExprValue, ExprValues, Call, Then, ThenL, OrElse, Try, Repeat, Every, First, Replicate, Changed, DischThen, PopAssum, FirstAssum, SubgoalThen, Defined, no_exprs, more_exprs}

abbrev pub given_size : Given → ℕ
given_size given = terms_size (listed (given_sequent given).hyps) + term_size [] (given_sequent given).concl

abbrev pub givens_size : List Given → ℕ
givens_size [] = 0
givens_size (given ∷ more) = given_size given + givens_size more

abbrev pub args_size : TacArgsValue → ℕ
args_size Nothing = 0
args_size (Term t) = 1 + term_size [] t
args_size (Pair s t) = 1 + term_size [] s + term_size [] t
args_size (Theorem th) = 1 + given_size th
args_size (TermAndTheorem t th) = 1 + term_size [] t + (1 + given_size th)
args_size (Theorems ths) = 1 + givens_size ths

abbrev pub written_size : Option Nameless → ℕ
written_size None = 0
written_size (Some t) = 1 + term_size [] t

abbrev pub tac_size : TheoremTacValue → ℕ
tac_size called = 1 + written_size called.term

abbrev mutual
  pub expr_size : ExprValue → ℕ
  expr_size (Call c) = 1 + args_size c.args
  expr_size (Then t u) = 1 + expr_size t + expr_size u
  expr_size (ThenL t us) = 1 + expr_size t + exprs_size us
  expr_size (OrElse t u) = 1 + expr_size t + expr_size u
  expr_size (Try t) = 1 + expr_size t
  expr_size (Repeat t) = 1 + expr_size t
  expr_size (Every ts) = 1 + exprs_size ts
  expr_size (First ts) = 1 + exprs_size ts
  expr_size (Replicate n t) = 1 + expr_size t
  expr_size (Changed t) = 1 + expr_size t
  expr_size (DischThen called) = 1 + tac_size called
  expr_size (PopAssum called) = 1 + tac_size called
  expr_size (FirstAssum called) = 1 + tac_size called
  expr_size (SubgoalThen p called) = 1 + (1 + term_size [] p) + tac_size called
  expr_size (Defined t) = expr_size t

  pub exprs_size : ExprValues → ℕ
  exprs_size no_exprs = 0
  exprs_size (more_exprs t ts) = expr_size t + exprs_size ts
