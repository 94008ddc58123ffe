use Rattle.std.proofs.Common.{◌≡◌, drop, length}
use Rattle.hol_steps.proofs.matching.after.Given as goal

abbrev pub invariant-own : goal.invariant-own
invariant-own l = drop (length l.own) l.rest ≡ drop (length l.fn.own) l.variables

abbrev pub decreases-own : goal.decreases-own
decreases-own l = length l.own
