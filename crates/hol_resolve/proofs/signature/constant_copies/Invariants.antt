use Rattle.std.proofs.Common.{◌≡◌, take}
use Rattle.hol_resolve.proofs.signature.constant_copies.Given as goal

abbrev pub invariant-loop-constant : goal.invariant-loop-constant
invariant-loop-constant l = l.copied.items ≡ take l.constant-index l.constants
