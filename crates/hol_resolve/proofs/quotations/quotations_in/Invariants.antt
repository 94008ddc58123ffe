use Rattle.std.proofs.Common.{◌≡◌, ◌++◌, drop}
use Rattle.hol_resolve.specs.Quotations.{quotations_in}
use Rattle.hol_resolve.proofs.quotations.quotations_in.Given as goal

abbrev pub invariant-loop-part : goal.invariant-loop-part
invariant-loop-part l = quotations_in l.parts ≡ l.quotations.items ++ quotations_in (drop l.part-index l.parts)
