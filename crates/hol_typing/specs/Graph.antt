-- What a graph of slots, and equations between slots, say of the types of the slots. Only private contracts and proofs cite this.
use Rattle.std.specs.Prelude.{◌≡◌, ℕ, ◌+◌, ◌<◌, ◌≤◌, ◌↔◌, List, [], ◌∷◌, ◌++◌, length, get_or, map}
use Rattle.std.specs.List.{All, sum_by}
use Rattle.hol_types.specs.Tree.{TypeTree, TyVar, TyApp, type_list, type_size}
use Rattle.hol_types.specs.Subst.{type_subst}
use Rattle.hol_typing.specs.declared.cell.Cell.{Cell}
use Rattle.hol_typing.specs.declared.cell.Cell.TheVariants.{Unknown, Link, Rigid, App, Generic, Part}
use Rattle.hol_typing.specs.declared.cell.Equation.{Equation}
use Rattle.hol_typing.specs.declared.cell.GenericPart.{GenericPart}
use Rattle.hol_typing.specs.declared.graph.Side.{Side}
use Rattle.hol_typing.specs.declared.graph.Side.TheVariants.{Low, High}
use Rattle.hol_typing.specs.Typing.{IsOpen, IsGenericInstance}
use Rattle.hol_typing.specs.Linear.{AreDistinct, IsLinearBut}

-- the types from slot `base` on stand for the names
abbrev pub pairs_from : (ℕ → TypeTree) → ℕ → List (List ℕ) → List (TypeTree × List ℕ)
pairs_from types base [] = []
pairs_from types base (a ∷ names) = (types base, a) ∷ pairs_from types (base + 1) names

-- some types for the variables that are none of the names give the type, where the slots from `base` on stand for the names
abbrev pub IsBoundInstance : (ℕ → TypeTree) → List (List ℕ) → ℕ → TypeTree → TypeTree → Type 0
IsBoundInstance types names base ty t = (pairs : List (TypeTree × List ℕ)) × (t ≡ type_subst (pairs_from types base names ++ pairs) ty)

-- the variables of a part that have slots
abbrev pub bound_names : GenericPart → List (List ℕ)
bound_names part = part.names.value.items

abbrev pub part_pairs : (ℕ → TypeTree) → GenericPart → List (TypeTree × List ℕ)
part_pairs types part = pairs_from types part.base (bound_names part)

-- the slot of type t meets its cell
abbrev pub CellHolds : (ℕ → TypeTree) → TypeTree → Cell → Type 0
CellHolds types t Unknown = Unit {0}
CellHolds types t (Link j) = t ≡ types j
CellHolds types t (Rigid a) = t ≡ TyVar a
CellHolds types t (App c parts) = t ≡ TyApp c (type_list (map types parts.items))
CellHolds types t (Generic ty) = IsGenericInstance ty t
CellHolds types t (Part part) = IsBoundInstance types (bound_names part) part.base part.ty t

-- the cell of a slot; none beyond the graph
abbrev pub cell_at : List Cell → ℕ → Cell
cell_at cells i = get_or cells i Unknown

-- the types meet the graph
pub record Respects (cells : List Cell) (types : ℕ → TypeTree) : Type 0 where
  pub cell : (i : ℕ) → CellHolds types (types i) (cell_at cells i)

abbrev pub EquationHolds : (ℕ → TypeTree) → Equation → Type 0
EquationHolds types e = types e.left ≡ types e.right

-- the types meet the graph and the equations
pub record IsSolution (cells : List Cell) (pending : List Equation) (types : ℕ → TypeTree) : Type 0 where
  pub respects : Respects cells types
  pub equations : All (EquationHolds types) pending

-- two graphs with equations have the same solutions
abbrev pub SameSolutions : List Cell → List Equation → List Cell → List Equation → Type 0
SameSolutions cells pending cells' pending' = (types : ℕ → TypeTree) → IsSolution cells pending types ↔ IsSolution cells' pending' types

-- no types meet the graph and the equations
abbrev pub HasNoSolution : List Cell → List Equation → Type 0
HasNoSolution cells pending = (types : ℕ → TypeTree) → IsSolution cells pending types → ⊥

-- the type is no variable
abbrev pub IsApplied : TypeTree → Type 0
IsApplied (TyVar a) = ⊥
IsApplied (TyApp c ts) = Unit {0}

-- a part whose variables with slots have them among n, each one; no other variable stands in it twice
pub record IsPartIn (n : ℕ) (part : GenericPart) : Type 0 where
  pub row_in : part.base + length (bound_names part) ≤ n
  pub linear : IsLinearBut (bound_names part) part.ty
  pub distinct : AreDistinct (bound_names part)
  pub applied : IsApplied part.ty

-- a cell of slot i in a graph of n slots: a link goes down, and an annotation's type variable is no open one
abbrev pub IsCellIn : ℕ → ℕ → Cell → Type 0
IsCellIn n i Unknown = Unit {0}
IsCellIn n i (Link j) = j < i
IsCellIn n i (Rigid a) = IsOpen a → ⊥
IsCellIn n i (App c parts) = All (λ p. p < n) parts.items
IsCellIn n i (Generic ty) = Unit {0}
IsCellIn n i (Part part) = IsPartIn n part

pub record IsGraph (cells : List Cell) : Type 0 where
  pub cell_in : (i : ℕ) → IsCellIn (length cells) i (cell_at cells i)

-- the slots of the equations are below n
abbrev pub AreBelow : ℕ → List Equation → Type 0
AreBelow n pending = All (λ e. (e.left < n) × (e.right < n)) pending

abbrev pub AreIn : List Cell → List Equation → Type 0
AreIn cells pending = AreBelow (length cells) pending

-- a slot whose cell is no link
abbrev pub IsRootCell : Cell → Type 0
IsRootCell Unknown = Unit {0}
IsRootCell (Link j) = ⊥
IsRootCell (Rigid a) = Unit {0}
IsRootCell (App c parts) = Unit {0}
IsRootCell (Generic ty) = Unit {0}
IsRootCell (Part part) = Unit {0}

-- a slot of which something is known
abbrev pub IsKnownCell : Cell → Type 0
IsKnownCell Unknown = ⊥
IsKnownCell (Link j) = ⊥
IsKnownCell (Rigid a) = Unit {0}
IsKnownCell (App c parts) = Unit {0}
IsKnownCell (Generic ty) = Unit {0}
IsKnownCell (Part part) = Unit {0}

-- what is left to do: each merge of two roots lowers it
abbrev pub cell_weight : Cell → ℕ
cell_weight Unknown = 1
cell_weight (Link j) = 0
cell_weight (Rigid a) = 1
cell_weight (App c parts) = 1 + length parts.items
cell_weight (Generic ty) = 1
cell_weight (Part part) = 1

abbrev pub work_left : List Cell → List Equation → ℕ
work_left cells pending = sum_by cell_weight cells + length pending

-- What joining the cells of two roots says: the equations that come are those that were there, and those that make a type that meets
-- the first cell meet the second.
pub record IsJoined (low high : Cell) (before after : List Equation) : Type 0 where
  pub joins : (types : ℕ → TypeTree) (t : TypeTree) → CellHolds types t low → All (EquationHolds types) after ↔ (CellHolds types t high × All (EquationHolds types) before)
  pub are_in : (n i j : ℕ) → IsCellIn n i low → IsCellIn n j high → AreBelow n before → AreBelow n after
  pub less : length after < length before + cell_weight high

-- no type meets both cells
abbrev pub HaveNoType : Cell → Cell → Type 0
HaveNoType low high = (types : ℕ → TypeTree) (t : TypeTree) → CellHolds types t low → CellHolds types t high → ⊥

-- the equations between the parts of two constructors
abbrev pub part_equations : List ℕ → List ℕ → List Equation
part_equations [] rights = []
part_equations (l ∷ lefts) [] = []
part_equations (l ∷ lefts) (r ∷ rights) = record { left = l; right = r } ∷ part_equations lefts rights

-- ---- generic types whose parts have no slots yet

abbrev pub IsGenericCell : Cell → Type 0
IsGenericCell Unknown = ⊥
IsGenericCell (Link j) = ⊥
IsGenericCell (Rigid a) = ⊥
IsGenericCell (App c parts) = ⊥
IsGenericCell (Generic ty) = Unit {0}
IsGenericCell (Part part) = Unit {0}

-- and no such cell
abbrev pub IsExpandedCell : Cell → Type 0
IsExpandedCell Unknown = Unit {0}
IsExpandedCell (Link j) = Unit {0}
IsExpandedCell (Rigid a) = Unit {0}
IsExpandedCell (App c parts) = Unit {0}
IsExpandedCell (Generic ty) = ⊥
IsExpandedCell (Part part) = ⊥

abbrev pub generic_weight : Cell → ℕ
generic_weight Unknown = 0
generic_weight (Link j) = 0
generic_weight (Rigid a) = 0
generic_weight (App c parts) = 0
generic_weight (Generic ty) = type_size ty
generic_weight (Part part) = type_size part.ty

-- how many nodes they have
abbrev pub generics : List Cell → ℕ
generics cells = sum_by generic_weight cells

-- a generic type's slot may be one with a slot of this cell
abbrev pub MeetsGeneric : TypeTree → Cell → Type 0
MeetsGeneric ty Unknown = Unit {0}
MeetsGeneric ty (Link j) = Unit {0}
MeetsGeneric ty (Rigid a) = ⊥
MeetsGeneric ty (App c parts) = ⊥
MeetsGeneric ty (Generic other) = ty ≡ other
MeetsGeneric ty (Part part) = ⊥

-- nothing is known of a slot of this cell
abbrev pub IsUnknownCell : Cell → Type 0
IsUnknownCell Unknown = Unit {0}
IsUnknownCell (Link j) = Unit {0}
IsUnknownCell (Rigid a) = ⊥
IsUnknownCell (App c parts) = ⊥
IsUnknownCell (Generic ty) = ⊥
IsUnknownCell (Part part) = ⊥

-- The cells of two slots may be joined: a generic type is met by the same one, or by nothing known.
abbrev pub AreJoinable : Cell → Cell → Type 0
AreJoinable Unknown high = Unit {0}
AreJoinable (Link j) high = Unit {0}
AreJoinable (Rigid a) high = IsExpandedCell high
AreJoinable (App c parts) high = IsExpandedCell high
AreJoinable (Generic ty) high = MeetsGeneric ty high
AreJoinable (Part part) high = IsUnknownCell high

-- which of two slots must get slots for the parts of its generic type
abbrev pub IsGenericSide : Side → Cell → Cell → Type 0
IsGenericSide Low low high = IsGenericCell low
IsGenericSide High low high = IsGenericCell high

-- the slot's cell is a generic type
abbrev pub IsGenericAt : List Cell → ℕ → Type 0
IsGenericAt cells slot = (slot < length cells) × IsGenericCell (cell_at cells slot)
