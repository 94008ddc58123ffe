use Rattle.std.specs.Prelude.{length}
use Rattle.hol_exec.proofs.resolving.basis.+basis_of.Given as goal

abbrev pub decreases-basis_of : goal.decreases-basis_of
decreases-basis_of l = length l.cited.now
