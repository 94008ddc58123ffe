use Rattle.std.proofs.Common.{sym, subst}
use Rattle.hol_kernel.specs.Legal.{IsLegalSet}
use Rattle.hol_kernel.proofs.basis.Basis.has_arity.Goals as goal

pub makes_type-requires : goal.makes_type-requires
makes_type-requires c = record { legal = subst IsLegalSet (sym c.items.ensures.set) c.items.ensures.legal; ordered = c.items.ensures.ordered }
