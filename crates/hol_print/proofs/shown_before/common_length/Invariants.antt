use Rattle.std.proofs.Common.{◌≤◌, ◌-◌, length}
use Rattle.hol_print.proofs.shown_before.common_length.Given as goal

abbrev pub invariant-terms : goal.invariant-terms
invariant-terms l = l.n ≤ length l.fn.terms

abbrev pub decreases-terms : goal.decreases-terms
decreases-terms l = length l.fn.terms - l.n
