-- What a basis stores.
use Rattle.std.specs.Prelude.{[], refl}
use Rattle.hol_kernel.specs.Legal.{IsStorable}
use Rattle.hol_kernel.proofs.SortedSets.{sorted_none}
use Rattle.hol_kernel.proofs.ItemOrder.{total}

pub storable_none : IsStorable []
storable_none = record { legal = ([], tt, refl); ordered = sorted_none total }
