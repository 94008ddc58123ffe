use Rattle.std.proofs.Common.{◌≡◌, take}
use Rattle.hol_infer.proofs.constants.uncounted.Given as goal

abbrev pub invariant-loop-entry : goal.invariant-loop-entry
invariant-loop-entry l = l.schemes.items ≡ take l.entry-index l.constants
