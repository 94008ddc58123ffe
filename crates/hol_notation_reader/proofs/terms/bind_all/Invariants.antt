use Rattle.std.proofs.Common.{◌≡◌, reverse, length}
use Rattle.hol_notation_reader.specs.Build.{bind_all}
use Rattle.hol_notation_reader.proofs.terms.bind_all.Given as goal

abbrev pub invariant-loop-variable : goal.invariant-loop-variable
invariant-loop-variable l = bind_all l.binder l.left.items l.term ≡ bind_all l.binder (reverse l.fn.variables.items) l.fn.body

abbrev pub decreases-loop-variable : goal.decreases-loop-variable
decreases-loop-variable l = length l.left.items
