use Rattle.std.specs.Prelude.{length}
use Rattle.hol_kernel.proofs.find.+find_named.Given as goal

abbrev pub decreases-find_named : goal.decreases-find_named
decreases-find_named l = length l.items.now
