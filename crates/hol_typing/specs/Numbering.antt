-- Numbers for the open types of generic types whose parts have no slots. Only private contracts and proofs cite this.
use Rattle.std.specs.Prelude.{◌≡◌, ℕ, ◌+◌, ◌*◌, ◌<◌, ◌≤◌, ◌^◌, List, ◌++◌, length}
use Rattle.hol_types.specs.Tree.{TypeTree}
use Rattle.hol_types.specs.Names.{tyvars}
use Rattle.hol_types.specs.Subst.{type_subst}
use Rattle.hol_typing.specs.declared.cell.Cell.{Cell}
use Rattle.hol_typing.specs.declared.cell.Cell.TheVariants.{Unknown, Link, Rigid, App, Generic, Part}
use Rattle.hol_typing.specs.declared.numbering.Numbering.{Numbering}
use Rattle.hol_typing.specs.Graph.{cell_at, pairs_from, part_pairs}

-- the first number of the row of slot i
abbrev pub base_at : Numbering → ℕ → ℕ
base_at numbering i = numbering.slots + i * numbering.row

-- one more than the last number
abbrev pub limit_of : Numbering → ℕ
limit_of numbering = numbering.slots + numbering.slots * numbering.row

-- n numbers are enough for a slot with this cell
abbrev pub IsCounted : ℕ → Cell → Type 0
IsCounted n Unknown = Unit {0}
IsCounted n (Link j) = Unit {0}
IsCounted n (Rigid a) = Unit {0}
IsCounted n (App c parts) = Unit {0}
IsCounted n (Generic ty) = length (tyvars ty) ≤ n
IsCounted n (Part part) = length (tyvars part.ty) ≤ n

pub record IsNumbering (cells : List Cell) (numbering : Numbering) : Type 0 where
  pub slots_are : numbering.slots ≡ length cells
  pub fits : limit_of numbering < 2 ^ 64
  pub counted : (i : ℕ) → IsCounted numbering.row (cell_at cells i)

-- the type variables of a slot of this cell have the types of the numbers from `base` on
abbrev pub IsNumberedAt : (ℕ → TypeTree) → ℕ → TypeTree → Cell → Type 0
IsNumberedAt types base t Unknown = Unit {0}
IsNumberedAt types base t (Link j) = Unit {0}
IsNumberedAt types base t (Rigid a) = Unit {0}
IsNumberedAt types base t (App c parts) = Unit {0}
IsNumberedAt types base t (Generic ty) = t ≡ type_subst (pairs_from types base (tyvars ty)) ty
IsNumberedAt types base t (Part part) = t ≡ type_subst (part_pairs types part ++ pairs_from types base (tyvars part.ty)) part.ty

-- the type variables of each slot have the types of its row
pub record IsNumbered (cells : List Cell) (numbering : Numbering) (types : ℕ → TypeTree) : Type 0 where
  pub cell : (i : ℕ) → IsNumberedAt types (base_at numbering i) (types i) (cell_at cells i)
