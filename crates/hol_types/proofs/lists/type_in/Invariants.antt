use Rattle.std.proofs.Common.{◌≡◌, drop}
use Rattle.hol_types.specs.Subst.{type_lookup}
use Rattle.hol_types.proofs.lists.type_in.Given as goal

abbrev pub invariant-loop-pair : goal.invariant-loop-pair
invariant-loop-pair l = type_lookup l.pairs l.name ≡ type_lookup (drop l.pair-index l.pairs) l.name
