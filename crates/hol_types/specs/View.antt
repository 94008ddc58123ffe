-- The tree that a node stands for: what contracts see of it.
use Rattle.hol_types.specs.declared.ty.TyNode.{TyNode}
use Rattle.hol_types.specs.declared.ty.TyNode.TheVariants.{Var, App}
use Rattle.hol_types.specs.Tree.{TypeTree, TyVar, TyApp, type_list}

abbrev pub tree_of : TyNode → TypeTree
tree_of (Var name) = TyVar name
tree_of (App name args) = TyApp name (type_list args.items)
