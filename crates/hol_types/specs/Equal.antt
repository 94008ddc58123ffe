-- The tests of equality of types and variables, by their order and the bytes of names.
use Rattle.std.specs.Prelude.{ℕ, List, Bool, ◌&&◌, bytes_eq}
use Rattle.std.specs.Ordering.{is_eq}
use Rattle.hol_types.specs.Tree.{TypeTree}
use Rattle.hol_types.specs.Order.{type_cmp}

abbrev pub type_eq : TypeTree → TypeTree → Bool
type_eq s t = is_eq (type_cmp s t)

-- variables are the same where their names and their types are
abbrev pub variable_eq : List ℕ × TypeTree → List ℕ × TypeTree → Bool
variable_eq v w = bytes_eq v.0 w.0 && type_eq v.1 w.1
