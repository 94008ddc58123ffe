use Rattle.std.proofs.Common.{◌≡◌, ◌++◌, drop}
use Rattle.hol_formulas.specs.Constants.{prelude_constants, prelude_types}
use Rattle.hol_exec.specs.Signature.{cited_constants, cited_types}
use Rattle.hol_exec.proofs.reading.signature.signature_of.Given as goal

abbrev pub invariant-loop-value : goal.invariant-loop-value
invariant-loop-value g l = record {
  constants : prelude_constants ++ cited_constants l.cited ≡ l.signature.constants.items ++ cited_constants (drop l.value-index l.cited);
  types : prelude_types ++ cited_types l.cited ≡ l.signature.types.items ++ cited_types (drop l.value-index l.cited);
}
