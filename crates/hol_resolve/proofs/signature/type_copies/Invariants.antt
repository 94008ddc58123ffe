use Rattle.std.proofs.Common.{◌≡◌, take}
use Rattle.hol_resolve.proofs.signature.type_copies.Given as goal

abbrev pub invariant-loop-one : goal.invariant-loop-one
invariant-loop-one l = l.copied.items ≡ take l.one-index l.types
