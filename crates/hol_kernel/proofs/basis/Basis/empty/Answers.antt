use Rattle.std.proofs.Common.{subst, sym}
use Rattle.hol_kernel.specs.Legal.{IsStorable}
use Rattle.hol_kernel.proofs.Stored.{storable_none}
use Rattle.hol_kernel.proofs.basis.Basis.empty.Goals as goal

pub made-requires : goal.made-requires
made-requires c = subst IsStorable (sym c.new-none.ensures.items) storable_none
