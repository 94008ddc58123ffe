-- The tactic expression that a node stands for: what contracts see of it.
use Rattle.hol_notation_tactics.specs.declared.tac_expr.TacExprNode.{TacExprNode}
use Rattle.hol_notation_tactics.specs.declared.tac_expr.TacExprNode.TheVariants.{Call as TheCall, Then as TheThen, ThenL as TheThenL, OrElse as TheOrElse, Repeat as TheRepeat, Try as TheTry, Changed as TheChanged, Every as TheEvery, First as TheFirst, Replicate as TheReplicate, DischThen as TheDischThen, PopAssum as ThePopAssum, FirstAssum as TheFirstAssum, SubgoalThen as TheSubgoalThen}
use Rattle.hol_notation_tactics.specs.Text.{TacText, Call, Then, ThenL, OrElse, Repeat, Try, Changed, Every, First, Replicate, DischThen, PopAssum, FirstAssum, SubgoalThen, tac_texts}

abbrev pub tac_of_node : TacExprNode → TacText
tac_of_node (TheCall c) = Call c
tac_of_node (TheThen t u) = Then t u
tac_of_node (TheThenL t us) = ThenL t (tac_texts us.items)
tac_of_node (TheOrElse t u) = OrElse t u
tac_of_node (TheRepeat t) = Repeat t
tac_of_node (TheTry t) = Try t
tac_of_node (TheChanged t) = Changed t
tac_of_node (TheEvery ts) = Every (tac_texts ts.items)
tac_of_node (TheFirst ts) = First (tac_texts ts.items)
tac_of_node (TheReplicate n t) = Replicate n t
tac_of_node (TheDischThen c) = DischThen c
tac_of_node (ThePopAssum c) = PopAssum c
tac_of_node (TheFirstAssum c) = FirstAssum c
tac_of_node (TheSubgoalThen p c) = SubgoalThen p c
