use Rattle.std.proofs.Common.{◌≡◌, drop}
use Rattle.std.specs.List.{list_any}
use Rattle.hol_formulas.specs.Constants.{is_constant_at}
use Rattle.hol_kernel.proofs.item.is_among.Given as goal

abbrev pub invariant-loop-own : goal.invariant-loop-own
invariant-loop-own l = list_any (is_constant_at l.constant l.ty) l.constants ≡ list_any (is_constant_at l.constant l.ty) (drop l.own-index l.constants)
