use Rattle.std.proofs.Common.{◌≡◌, ◌++◌, map}
use Rattle.hol_theory.specs.Making.{type_entry}
use Rattle.hol_theory.proofs.making.add_types.Given as goal

abbrev pub invariant-loop-name : goal.invariant-loop-name
invariant-loop-name l = l.entries.items ≡ l.fn.entries.items ++ map (type_entry l.item l.basis) l.yielded
