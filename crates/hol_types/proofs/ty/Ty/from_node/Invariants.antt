use Rattle.hol_types.specs.Code.{type_code}
use Rattle.hol_types.specs.View.{tree_of}
use Rattle.hol_types.proofs.ty.Ty.from_node.Given as goal

abbrev pub ghost-about : goal.ghost-about
ghost-about a = type_code (tree_of a.value.now)
