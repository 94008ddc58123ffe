use Rattle.std.proofs.Common.{◌≡◌, drop}
use Rattle.std.specs.List.{find}
use Rattle.hol_kernel.specs.Signature.{has_key}
use Rattle.hol_kernel.specs.Clashing.{key_at}
use Rattle.hol_kernel.proofs.find.first_named.Given as goal

abbrev pub invariant-loop-item : goal.invariant-loop-item
invariant-loop-item l = find (λ x. has_key x (key_at l.kind l.name)) l.items ≡ find (λ x. has_key x (key_at l.kind l.name)) (drop l.item-index l.items)
