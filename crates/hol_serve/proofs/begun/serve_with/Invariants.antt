use Rattle.std.proofs.Common.{◌≡◌, map, take}
use Rattle.hol_registry.specs.RegistryView.{row}
use Rattle.hol_serve.specs.BegunView.{row_of}
use Rattle.hol_serve.proofs.begun.serve_with.Given as goal

abbrev pub invariant-loop-code : goal.invariant-loop-code
invariant-loop-code g l = map row l.entries.items ≡ map row_of (take l.code-index l.codes)
