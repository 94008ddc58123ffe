use Rattle.std.proofs.Common.{◌≡◌, take, map}
use Rattle.hol_registry.specs.RegistryView.{row, listed}
use Rattle.hol_registry.proofs.registry.Registry.rows.Given as goal

abbrev pub invariant-loop-entry : goal.invariant-loop-entry
invariant-loop-entry g l = map listed l.rows.items ≡ map row (take l.entry-index l.entry-items)
