-- Each argument of a node has fewer nodes than the node.
use Rattle.std.specs.Prelude.{◌+◌, ◌≤◌, max, List, [], ◌∷◌}
use Rattle.std.proofs.Common.{arith}
use denote.Param.Weighed.{most}
use Rattle.hol_types.specs.declared.ty.TyNode.{TyNode}
use Rattle.hol_types.specs.declared.ty.TyNode.TheVariants.{Var, App}
use Rattle.hol_types.specs.declared.ty.TyShared.{TyShared}
use Rattle.hol_types.specs.declared.ty.Ty.TheDeep.{deep-TyNode, deep-TyShared}
use Rattle.hol_types.specs.Tree.{TypeTree, type_list, type_size, types_size}
use Rattle.hol_types.specs.View.{tree_of}

most_le_size : (ts : List TypeTree) → most (λ t. type_size t + 1) ts ≤ types_size (type_list ts) + 1
most_le_size [] = omega arith
most_le_size (t ∷ ts) = omega (arith, most_le_size ts)

deep_le_node : (n : TyNode) → max (deep-TyNode n) 0 ≤ type_size (tree_of n)
deep_le_node (Var a) = omega arith
deep_le_node (App c ts) = omega (arith, most_le_size ts.items)

pub deep_le_size : (s : TyShared) → max (deep-TyShared s) 0 ≤ type_size (tree_of s.node)
deep_le_size s = omega (arith, deep_le_node s.node)
