use Rattle.std.proofs.Common.{◌≡◌, take}
use Rattle.hol_notation_terms.proofs.definition.copies.Given as goal

abbrev pub invariant-loop-variable : goal.invariant-loop-variable
invariant-loop-variable l = l.copied.items ≡ take l.variable-index l.variables
