-- Expressions of functions on goals whose names are resolved (HOL Light Reference Manual: the tacticals of these names).
use Rattle.std.specs.Prelude.{ℕ, zero, suc, ◌+◌, List, [], ◌∷◌, Option}
use Rattle.hol_terms.specs.Nameless.{Nameless}
use Rattle.hol_goal.specs.Arguments.{TacArgsValue}

-- a call: the index of what is called among the registered functions, the name that it was called by, and its arguments
pub record CallValue : Type 0 where
  pub index : ℕ
  pub name : List ℕ
  pub args : TacArgsValue

-- a function of a theorem: a call whose last argument, a theorem, is left out, with the term that is written before it where there is one
pub record TheoremTacValue : Type 0 where
  pub index : ℕ
  pub name : List ℕ
  pub term : Option Nameless

mutual
  -- a call, or a tactical applied to what it takes; or a use of an expression that was named, as by a `let` of OCaml: it stands for its value, so the
  -- name is no part of it
  pub data ExprValue : Type 0 where
    Call : CallValue → ExprValue
    Then : ExprValue → ExprValue → ExprValue
    ThenL : ExprValue → ExprValues → ExprValue
    OrElse : ExprValue → ExprValue → ExprValue
    Try : ExprValue → ExprValue
    Repeat : ExprValue → ExprValue
    Every : ExprValues → ExprValue
    First : ExprValues → ExprValue
    Replicate : ℕ → ExprValue → ExprValue
    Changed : ExprValue → ExprValue
    DischThen : TheoremTacValue → ExprValue
    PopAssum : TheoremTacValue → ExprValue
    FirstAssum : TheoremTacValue → ExprValue
    SubgoalThen : Nameless → TheoremTacValue → ExprValue
    Defined : ExprValue → ExprValue

  pub data ExprValues : Type 0 where
    no_exprs : ExprValues
    more_exprs : ExprValue → ExprValues → ExprValues

-- expressions from a list
abbrev pub exprs : List ExprValue → ExprValues
exprs [] = no_exprs
exprs (t ∷ ts) = more_exprs t (exprs ts)

-- `t THEN u THEN ..`, from the left
abbrev pub then_all : ExprValue → List ExprValue → ExprValue
then_all t [] = t
then_all t (u ∷ us) = then_all (Then t u) us

-- `t ORELSE u ORELSE ..`, from the right
abbrev pub or_else_all : ExprValue → List ExprValue → ExprValue
or_else_all t [] = t
or_else_all t (u ∷ us) = OrElse t (or_else_all u us)

-- so many uses, each of what was named by the next: `let t1 = t;; let t2 = t1;; ..`
abbrev pub used_through : ℕ → ExprValue → ExprValue
used_through zero t = t
used_through (suc n) t = Defined (used_through n t)

-- the number of nodes
abbrev mutual
  pub expr_nodes : ExprValue → ℕ
  expr_nodes (Call c) = 1
  expr_nodes (Then t u) = 1 + expr_nodes t + expr_nodes u
  expr_nodes (ThenL t us) = 1 + expr_nodes t + exprs_nodes us
  expr_nodes (OrElse t u) = 1 + expr_nodes t + expr_nodes u
  expr_nodes (Try t) = 1 + expr_nodes t
  expr_nodes (Repeat t) = 1 + expr_nodes t
  expr_nodes (Every ts) = 1 + exprs_nodes ts
  expr_nodes (First ts) = 1 + exprs_nodes ts
  expr_nodes (Replicate n t) = 1 + expr_nodes t
  expr_nodes (Changed t) = 1 + expr_nodes t
  expr_nodes (DischThen tac) = 1
  expr_nodes (PopAssum tac) = 1
  expr_nodes (FirstAssum tac) = 1
  expr_nodes (SubgoalThen p tac) = 1
  expr_nodes (Defined t) = 1 + expr_nodes t

  pub exprs_nodes : ExprValues → ℕ
  exprs_nodes no_exprs = 0
  exprs_nodes (more_exprs t ts) = expr_nodes t + exprs_nodes ts
