use Rattle.std.proofs.Common.{◌≡◌, drop}
use Rattle.hol_kernel.specs.Clashing.{axiom_in}
use Rattle.hol_kernel.proofs.axiom.find_axiom.Given as goal

abbrev pub invariant-loop-item : goal.invariant-loop-item
invariant-loop-item l = axiom_in l.name l.items ≡ axiom_in l.name (drop l.item-index l.items)
