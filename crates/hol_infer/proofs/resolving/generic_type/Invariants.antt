use Rattle.std.proofs.Common.{◌≡◌, drop}
use Rattle.hol_infer.specs.Resolving.{generic_type_of}
use Rattle.hol_infer.proofs.resolving.generic_type.Given as goal

abbrev pub invariant-loop-entry : goal.invariant-loop-entry
invariant-loop-entry l = generic_type_of l.constants l.name ≡ generic_type_of (drop l.entry-index l.constants) l.name
