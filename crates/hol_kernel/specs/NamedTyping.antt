-- What the code tests on a named term: its types and constants stand. A law in proofs/ leads from here to the nameless term.
use Rattle.std.specs.Prelude.{Bool, ◌&&◌}
use Rattle.hol_terms.specs.Named.{Named, var, constant, comb, abs}
use Rattle.hol_kernel.specs.Items.{Items}
use Rattle.hol_kernel.specs.Signature.{has_constant}
use Rattle.hol_kernel.specs.Typing.{is_type}

abbrev pub is_known_named : Items → Named → Bool
is_known_named items (var v) = is_type items v.1
is_known_named items (constant c s) = is_type items s && has_constant items c s
is_known_named items (comb f x) = is_known_named items f && is_known_named items x
is_known_named items (abs v b) = is_type items v.1 && is_known_named items b
