-- The expression that a node stands for: what contracts see of it.
use Rattle.std.specs.Prelude.{suc, [], string_bytes}
use Rattle.std.specs.Option.{option_map}
use Rattle.hol_terms.specs.Nameless.{nameless}
use Rattle.hol_goal.specs.ArgumentsView.{args_value}
use Rattle.hol_combine.specs.declared.expr.TacCall.{TacCall}
use Rattle.hol_combine.specs.declared.expr.TheoremTac.{TheoremTac}
use Rattle.hol_combine.specs.declared.expr.Handing.{Handing}
use Rattle.hol_combine.specs.declared.expr.Handing.TheVariants as handing
use Rattle.hol_combine.specs.declared.expr.ExprNode.{ExprNode}
use Rattle.hol_combine.specs.declared.expr.ExprNode.TheVariants as node
use Rattle.hol_combine.specs.ExprValue.{CallValue, TheoremTacValue, ExprValue, Call, Then, ThenL, OrElse, Try, Repeat, Every, First, Replicate, Changed, DischThen, PopAssum, FirstAssum, SubgoalThen, exprs, then_all, or_else_all, used_through}

abbrev pub call_value : TacCall → CallValue
call_value call = record { index = call.index; name = string_bytes call.name; args = args_value call.args }

abbrev pub theorem_tac_value : TheoremTac → TheoremTacValue
theorem_tac_value called = record { index = called.index; name = string_bytes called.name; term = option_map (nameless []) called.term }

abbrev pub expr_of_handing : Handing → TheoremTacValue → ExprValue
expr_of_handing handing.DischThen called = DischThen called
expr_of_handing handing.PopAssum called = PopAssum called
expr_of_handing handing.FirstAssum called = FirstAssum called
expr_of_handing (handing.SubgoalThen p) called = SubgoalThen p called

abbrev pub expr_of_node : ExprNode → ExprValue
expr_of_node (node.Call call) = Call (call_value call)
expr_of_node (node.Then t u us) = then_all (Then t u) us.items
expr_of_node (node.ThenL t us) = ThenL t (exprs us.items)
expr_of_node (node.OrElse t u us) = OrElse t (or_else_all u us.items)
expr_of_node (node.Try t) = Try t
expr_of_node (node.Repeat t) = Repeat t
expr_of_node (node.Every ts) = Every (exprs ts.items)
expr_of_node (node.First ts) = First (exprs ts.items)
expr_of_node (node.Replicate n t) = Replicate n t
expr_of_node (node.Changed t) = Changed t
expr_of_node (node.Hand how called) = expr_of_handing how (theorem_tac_value called)
expr_of_node (node.Defined more t) = used_through (suc more) t
