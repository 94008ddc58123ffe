-- What the refusal of a registry says of the entries' names.
use Rattle.std.specs.Prelude.{ℕ, List, string_bytes}
use Rattle.hol_registry.specs.Table.{IsMetAgain}
use Rattle.hol_registry.specs.declared.error.RegistryError.{RegistryError}
use Rattle.hol_registry.specs.declared.error.RegistryError.TheVariants.{Twice}

abbrev pub IsRefusal : List (List ℕ) → RegistryError → Type 0
IsRefusal names (Twice name) = IsMetAgain names (string_bytes name)
