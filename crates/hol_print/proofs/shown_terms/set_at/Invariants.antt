use Rattle.std.proofs.Common.{◌+◌, ◌-◌, length}
use Rattle.hol_print.proofs.shown_terms.set_at.Given as goal

abbrev pub decreases-places : goal.decreases-places
decreases-places l = l.place + 1 - length l.numbers.items
