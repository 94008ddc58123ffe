use Rattle.std.proofs.Common.{sym, subst}
use Rattle.hol_kernel.specs.Legal.{IsLegalSet}
use Rattle.hol_kernel.proofs.basis.Basis.has_constant.Goals as goal

pub makes_constant-requires : goal.makes_constant-requires
makes_constant-requires c = record { legal = subst IsLegalSet (sym c.items.ensures.set) c.items.ensures.legal; ordered = c.items.ensures.ordered }
