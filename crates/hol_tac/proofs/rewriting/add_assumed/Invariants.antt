use Rattle.std.proofs.Common.{◌≡◌, ◌++◌, [], map, take}
use Rattle.hol_terms.specs.Nameless.{nameless}
use Rattle.hol_kernel.specs.Given.{assumed}
use Rattle.hol_tac.proofs.rewriting.add_assumed.Given as goal

abbrev pub invariant-loop-p : goal.invariant-loop-p
invariant-loop-p l = l.to.items ≡ l.fn.to.items ++ map assumed (map (nameless []) (take l.p-index l.formulas))
