use Rattle.std.proofs.Common.{◌≡◌, take}
use Rattle.hol_types.proofs.ty.Ty.app.Given as goal

abbrev pub invariant-loop-arg : goal.invariant-loop-arg
invariant-loop-arg l = l.own_args.items ≡ take l.arg-index l.args
