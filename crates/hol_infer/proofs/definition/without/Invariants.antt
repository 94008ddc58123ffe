use Rattle.std.proofs.Common.{◌≡◌, ◌++◌, drop}
use Rattle.hol_infer.specs.Resolving.{without}
use Rattle.hol_infer.proofs.definition.without.Given as goal

abbrev pub invariant-loop-entry : goal.invariant-loop-entry
invariant-loop-entry l = l.others.items ++ without l.name (drop l.entry-index l.constants) ≡ without l.name l.constants
