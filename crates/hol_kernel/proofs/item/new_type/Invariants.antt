use Rattle.std.proofs.Common.{◌≡◌, map, take}
use Rattle.hol_types.specs.Tree.{TyVar}
use Rattle.hol_kernel.proofs.item.new_type.Given as goal

abbrev pub invariant-loop-parameter : goal.invariant-loop-parameter
invariant-loop-parameter l = l.args.items ≡ map TyVar (take l.parameter-index l.parameters)
