use Rattle.std.proofs.Common.{◌≡◌, drop}
use Rattle.std.specs.Prelude.{nat_eq}
use Rattle.std.specs.List.{list_any}
use Rattle.hol_resolve.specs.Quotations.{place_of}
use Rattle.hol_exec.proofs.resolving.theorem_bases.opens_any.Given as goal

abbrev pub invariant-loop-quotation : goal.invariant-loop-quotation
invariant-loop-quotation l = list_any (λ q. nat_eq l.place (place_of q)) l.quotations ≡ list_any (λ q. nat_eq l.place (place_of q)) (drop l.quotation-index l.quotations)
