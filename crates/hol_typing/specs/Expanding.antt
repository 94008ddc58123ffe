-- What slots for the parts of generic types leave of the solutions of a graph. Only private contracts and proofs cite this.
use Rattle.std.specs.Prelude.{◌≡◌, ℕ, ◌+◌, ◌<◌, ◌≤◌, List, [], ◌∷◌, ◌++◌, map}
use Rattle.std.specs.List.{All}
use Rattle.hol_types.specs.Tree.{TypeTree, type_list, type_size, types_size}
use Rattle.hol_types.specs.Subst.{type_subst}
use Rattle.hol_typing.specs.Typing.{IsGenericInstance}
use Rattle.hol_typing.specs.declared.cell.Cell.{Cell}
use Rattle.hol_typing.specs.declared.generate.Graph.{Graph}
use Rattle.hol_typing.specs.Graph.{pairs_from, CellHolds, IsCellIn, IsGenericAt, IsBoundInstance, generic_weight, generics}
use Rattle.hol_typing.specs.Generate.{Solves, slots, IsWellFormed, Agree}

-- h has the solutions of g, with types for slots more
pub record Refines (g h : Graph) : Type 0 where
  pub well_formed : IsWellFormed h
  pub more : slots g ≤ slots h
  pub sound : (type_of : List ℕ → TypeTree) (types : ℕ → TypeTree) → Solves h type_of types → Solves g type_of types
  pub complete : (type_of : List ℕ → TypeTree) (types : ℕ → TypeTree) → Solves g type_of types → (types' : ℕ → TypeTree) × Agree (slots g) types types' × Solves h type_of types'

-- the types are instances of the generic ones, each by itself
abbrev pub AreInstances : List TypeTree → List TypeTree → Type 0
AreInstances [] [] = Unit {0}
AreInstances [] (t ∷ ts) = ⊥
AreInstances (g ∷ generics) [] = ⊥
AreInstances (g ∷ generics) (t ∷ ts) = IsGenericInstance g t × AreInstances generics ts

-- h is g with a slot for each of the generic types, whose parts have no slots
pub record BuildsParts (g h : Graph) (parts : List ℕ) (tys : List TypeTree) : Type 0 where
  pub well_formed : IsWellFormed h
  pub extra : List Cell
  pub cells_are : h.cells.items ≡ g.cells.items ++ extra
  pub pending_are : h.pending.items ≡ g.pending.items
  pub names_are : h.names.items ≡ g.names.items
  pub parts_in : All (λ p. p < slots h) parts
  pub sizes : generics extra ≡ types_size (type_list tys)
  pub sound : (type_of : List ℕ → TypeTree) (types : ℕ → TypeTree) → Solves h type_of types → Solves g type_of types × AreInstances tys (map types parts)
  pub complete : (type_of : List ℕ → TypeTree) (types : ℕ → TypeTree) (pairs : List (TypeTree × List ℕ)) → Solves g type_of types →
      (types' : ℕ → TypeTree) × Agree (slots g) types types' × Solves h type_of types' × (map types' parts ≡ map (type_subst pairs) tys)

-- h is g with a slot for a type that is a part of an instance in which the slots from `base` on stand for the names
pub record BuildsBound (g h : Graph) (names : List (List ℕ)) (base slot : ℕ) (ty : TypeTree) : Type 0 where
  pub well_formed : IsWellFormed h
  pub extra : List Cell
  pub cells_are : h.cells.items ≡ g.cells.items ++ extra
  pub pending_are : h.pending.items ≡ g.pending.items
  pub names_are : h.names.items ≡ g.names.items
  pub slot_in : slot < slots h
  pub sizes : generics extra ≤ type_size ty
  pub sound : (type_of : List ℕ → TypeTree) (types : ℕ → TypeTree) → Solves h type_of types → Solves g type_of types × IsBoundInstance types names base ty (types slot)
  pub complete : (type_of : List ℕ → TypeTree) (types : ℕ → TypeTree) (pairs : List (TypeTree × List ℕ)) → Solves g type_of types →
      (types' : ℕ → TypeTree) × Agree (slots g) types types' × Solves h type_of types' × (types' slot ≡ type_subst (pairs_from types base names ++ pairs) ty)

-- the types are such parts of the generic ones, each by itself
abbrev pub AreBoundInstances : (ℕ → TypeTree) → List (List ℕ) → ℕ → List TypeTree → List TypeTree → Type 0
AreBoundInstances types names base [] [] = Unit {0}
AreBoundInstances types names base [] (t ∷ ts) = ⊥
AreBoundInstances types names base (g ∷ generics) [] = ⊥
AreBoundInstances types names base (g ∷ generics) (t ∷ ts) = IsBoundInstance types names base g t × AreBoundInstances types names base generics ts

-- the same for several types
pub record BuildsAllBound (g h : Graph) (names : List (List ℕ)) (base : ℕ) (parts : List ℕ) (tys : List TypeTree) : Type 0 where
  pub well_formed : IsWellFormed h
  pub extra : List Cell
  pub cells_are : h.cells.items ≡ g.cells.items ++ extra
  pub pending_are : h.pending.items ≡ g.pending.items
  pub names_are : h.names.items ≡ g.names.items
  pub parts_in : All (λ p. p < slots h) parts
  pub sizes : generics extra ≤ types_size (type_list tys)
  pub sound : (type_of : List ℕ → TypeTree) (types : ℕ → TypeTree) → Solves h type_of types → Solves g type_of types × AreBoundInstances types names base tys (map types parts)
  pub complete : (type_of : List ℕ → TypeTree) (types : ℕ → TypeTree) (pairs : List (TypeTree × List ℕ)) → Solves g type_of types →
      (types' : ℕ → TypeTree) × Agree (slots g) types types' × Solves h type_of types' × (map types' parts ≡ map (type_subst (pairs_from types base names ++ pairs)) tys)

-- h is g with slots for the parts of an instance of a generic type, whose slot had the cell `old`; now it has this cell
pub record BuildsInstance (g h : Graph) (cell old : Cell) : Type 0 where
  pub well_formed : IsWellFormed h
  pub extra : List Cell
  pub cells_are : h.cells.items ≡ g.cells.items ++ extra
  pub pending_are : h.pending.items ≡ g.pending.items
  pub names_are : h.names.items ≡ g.names.items
  pub cell_in : (i : ℕ) → IsCellIn (slots h) i cell
  -- what is still generic is smaller than the type
  pub smaller : generics extra + generic_weight cell < generic_weight old
  pub sound : (type_of : List ℕ → TypeTree) (types : ℕ → TypeTree) → Solves h type_of types → Solves g type_of types × ((t : TypeTree) → CellHolds types t cell → CellHolds types t old)
  pub complete : (type_of : List ℕ → TypeTree) (types : ℕ → TypeTree) (t : TypeTree) → Solves g type_of types → CellHolds types t old →
      (types' : ℕ → TypeTree) × Agree (slots g) types types' × Solves h type_of types' × CellHolds types' t cell

-- h is g where the parts of the slot's generic type have slots, if it has one
pub record Expands (g h : Graph) (slot : ℕ) : Type 0 where
  pub refines : Refines g h
  pub fewer : IsGenericAt g.cells.items slot → generics h.cells.items < generics g.cells.items
