-- Which chain an expression is, and when a node has a chain as one list or number: so that no two nodes are one expression.
-- Source: this project, by whose grammar of expressions THEN groups to the left and ORELSE to the right.
use Rattle.std.specs.Prelude.{◌≡◌, List, [], ◌∷◌}
use Rattle.hol_combine.specs.declared.expr.ExprNode.{ExprNode}
use Rattle.hol_combine.specs.declared.expr.ExprNode.TheVariants as node
use Rattle.hol_combine.specs.ExprValue.{ExprValue, Call, Then, ThenL, OrElse, Try, Repeat, Every, First, Replicate, Changed, DischThen, PopAssum, FirstAssum, SubgoalThen, Defined}

pub data Chain : Type 0 where
  Steps Alternatives Uses NoChain : Chain

abbrev pub chain_of : ExprValue → Chain
chain_of (Call c) = NoChain
chain_of (Then t u) = Steps
chain_of (ThenL t us) = NoChain
chain_of (OrElse t u) = Alternatives
chain_of (Try t) = NoChain
chain_of (Repeat t) = NoChain
chain_of (Every ts) = NoChain
chain_of (First ts) = NoChain
chain_of (Replicate n t) = NoChain
chain_of (Changed t) = NoChain
chain_of (DischThen called) = NoChain
chain_of (PopAssum called) = NoChain
chain_of (FirstAssum called) = NoChain
chain_of (SubgoalThen p called) = NoChain
chain_of (Defined t) = Uses

-- of the last of these
abbrev pub last_chain : ExprValue → List ExprValue → Chain
last_chain t [] = chain_of t
last_chain t (u ∷ us) = last_chain u us

-- the first of a chain of THEN is no such chain, nor the last of one of ORELSE one of ORELSE, nor what is used a use
abbrev pub IsWhole : ExprNode → Type 0
IsWhole (node.Call call) = Unit {0}
IsWhole (node.Then t u us) = chain_of t ≡ Steps → ⊥
IsWhole (node.ThenL t us) = Unit {0}
IsWhole (node.OrElse t u us) = last_chain u us.items ≡ Alternatives → ⊥
IsWhole (node.Try t) = Unit {0}
IsWhole (node.Repeat t) = Unit {0}
IsWhole (node.Every ts) = Unit {0}
IsWhole (node.First ts) = Unit {0}
IsWhole (node.Replicate n t) = Unit {0}
IsWhole (node.Changed t) = Unit {0}
IsWhole (node.Hand how called) = Unit {0}
IsWhole (node.Defined more t) = chain_of t ≡ Uses → ⊥
