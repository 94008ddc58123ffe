-- What the equations of a term say of its typings. Only contracts of hol_typing, hol_infer's private ones and proofs cite this.
use Rattle.std.specs.Prelude.{◌≡◌, ℕ, ◌+◌, ◌<◌, ◌≤◌, ◌↔◌, List, [], ◌∷◌, ◌++◌, length, map, Option, Some, None, cond, bytes_eq, false}
use Rattle.std.specs.List.{All}
use Rattle.hol_types.specs.Tree.{TypeTree, TypeList, TyVar, TyApp, no_types, more_types}
use Rattle.hol_types.specs.Fun.{fun_type}
use Rattle.hol_types.specs.Names.{is_among}
use Rattle.hol_types.specs.Subst.{type_lookup, type_subst}
use Rattle.hol_terms.specs.Nameless.{Nameless}
use Rattle.hol_typing.specs.Raw.{RawTree, RawBound, RawConstant, RawFree, RawApply, RawAbstraction, RawAnnotated}
use Rattle.hol_typing.specs.Typing.{IsOpen, IsTyping, IsGenericInstance, Meets}
use Rattle.hol_typing.specs.SlotTree.{SlotTree, typed, AreSlotsIn}
use Rattle.hol_typing.specs.Scoped.{IsScoped, IsSlotScoped}
use Rattle.hol_typing.specs.declared.cell.Cell.{Cell}
use Rattle.hol_typing.specs.declared.cell.Cell.TheVariants.{Unknown, Link, Rigid, App, Generic, Part}
use Rattle.hol_typing.specs.declared.generate.Graph.{Graph}
use Rattle.hol_typing.specs.Graph.{pairs_from, IsSolution, CellHolds, IsGraph, AreIn, IsExpandedCell, IsPartIn}

-- the slot of a free name
abbrev pub slot_of : List (List ℕ × ℕ) → List ℕ → Option ℕ
slot_of [] a = None
slot_of (p ∷ names) a = cond (bytes_eq p.0 a) (Some p.1) (slot_of names a)

-- the types meet the graph and give the free names the types that type_of says
pub record Solves (g : Graph) (type_of : List ℕ → TypeTree) (types : ℕ → TypeTree) : Type 0 where
  pub solution : IsSolution g.cells.items g.pending.items types
  pub names : (a : List ℕ) (s : ℕ) → slot_of g.names.items a ≡ Some s → type_of a ≡ types s

-- how many slots there are
abbrev pub slots : Graph → ℕ
slots g = length g.cells.items

pub record IsWellFormed (g : Graph) : Type 0 where
  pub cells_in : IsGraph g.cells.items
  pub pending_in : AreIn g.cells.items g.pending.items
  pub names_in : (a : List ℕ) (s : ℕ) → slot_of g.names.items a ≡ Some s → s < slots g

-- the types of the first n slots are the same
pub record Agree (n : ℕ) (types types' : ℕ → TypeTree) : Type 0 where
  pub agree : (i : ℕ) → i < n → types i ≡ types' i

-- a cell whose parts stand among n slots
abbrev pub IsNewCell : ℕ → Cell → Type 0
IsNewCell n Unknown = Unit {0}
IsNewCell n (Link j) = j < n
IsNewCell n (Rigid a) = IsOpen a → ⊥
IsNewCell n (App c parts) = All (λ p. p < n) parts.items
IsNewCell n (Generic ty) = Unit {0}
IsNewCell n (Part part) = IsPartIn n part

-- h has the slots of g, slots more that have no generic types, and the equations of g
pub record Grows (g h : Graph) : Type 0 where
  pub extra : List Cell
  pub cells_are : h.cells.items ≡ g.cells.items ++ extra
  pub expanded : All IsExpandedCell extra
  pub pending_are : h.pending.items ≡ g.pending.items

-- h is g with one slot more
pub record IsFresh (g h : Graph) (slot : ℕ) (cell : Cell) : Type 0 where
  pub slot_is : slot ≡ slots g
  pub slots_are : slots h ≡ slots g + 1
  pub cells_are : h.cells.items ≡ g.cells.items ++ cell ∷ []
  pub pending_are : h.pending.items ≡ g.pending.items
  pub names_are : h.names.items ≡ g.names.items
  pub well_formed : IsWellFormed h
  pub solves : (type_of : List ℕ → TypeTree) (types : ℕ → TypeTree) → Solves h type_of types ↔ (Solves g type_of types × CellHolds types (types slot) cell)

-- h is g with one slot more, of the type of functions from that of slot d to that of slot r
pub record IsFunction (g h : Graph) (slot d r : ℕ) : Type 0 where
  pub slot_is : slot ≡ slots g
  pub slots_are : slots h ≡ slots g + 1
  pub well_formed : IsWellFormed h
  pub solves : (type_of : List ℕ → TypeTree) (types : ℕ → TypeTree) → Solves h type_of types ↔ (Solves g type_of types × (types slot ≡ fun_type (types d) (types r)))

-- h is g with one equation more
pub record IsEquated (g h : Graph) (left right : ℕ) : Type 0 where
  pub slots_are : slots h ≡ slots g
  pub well_formed : IsWellFormed h
  pub solves : (type_of : List ℕ → TypeTree) (types : ℕ → TypeTree) → Solves h type_of types ↔ (Solves g type_of types × (types left ≡ types right))

-- h is g with a slot for the type of functions from that of slot d, which is new too, to that of slot e
pub record OpensApplication (g h : Graph) (d slot e : ℕ) : Type 0 where
  pub middle : Graph
  pub domain : IsFresh g middle d Unknown
  pub function : IsFunction middle h slot d e

-- h is g with n slots more, of which nothing is known
pub record AddsUnknown (g h : Graph) (n : ℕ) : Type 0 where
  pub well_formed : IsWellFormed h
  pub slots_are : slots h ≡ slots g + n
  pub names_are : h.names.items ≡ g.names.items
  pub grows : Grows g h
  pub solves : (type_of : List ℕ → TypeTree) (types : ℕ → TypeTree) → Solves h type_of types ↔ Solves g type_of types

-- a is the i-th of the names, and none of them
pub record IsPlace (names : List (List ℕ)) (a : List ℕ) (i : ℕ) : Type 0 where
  pub below : i < length names
  pub gives : (types : ℕ → TypeTree) (base : ℕ) → type_lookup (pairs_from types base names) a ≡ Some (types (base + i))

pub record HasNoPlace (names : List (List ℕ)) (a : List ℕ) : Type 0 where
  pub not_among : is_among names a ≡ false
  pub gives : (types : ℕ → TypeTree) (base : ℕ) → type_lookup (pairs_from types base names) a ≡ None

-- the type variables that are none of the names are no open ones
abbrev mutual
  pub IsRigidBut : List (List ℕ) → TypeTree → Type 0
  IsRigidBut names (TyVar a) = is_among names a ≡ false → IsOpen a → ⊥
  IsRigidBut names (TyApp c ts) = AreRigidBut names ts

  pub AreRigidBut : List (List ℕ) → TypeList → Type 0
  AreRigidBut names no_types = Unit {0}
  AreRigidBut names (more_types t ts) = IsRigidBut names t × AreRigidBut names ts

-- h is g with slots for a type, in which the types from slot `base` on stand for the names
pub record BuildsType (g h : Graph) (names : List (List ℕ)) (base slot : ℕ) (ty : TypeTree) : Type 0 where
  pub well_formed : IsWellFormed h
  pub more : slots g ≤ slots h
  pub slot_in : slot < slots h
  pub grows : Grows g h
  pub names_are : h.names.items ≡ g.names.items
  pub sound : (type_of : List ℕ → TypeTree) (types : ℕ → TypeTree) → Solves h type_of types → Solves g type_of types × (types slot ≡ type_subst (pairs_from types base names) ty)
  pub complete : (type_of : List ℕ → TypeTree) (types : ℕ → TypeTree) → Solves g type_of types → (types' : ℕ → TypeTree) × Agree (slots g) types types' × Solves h type_of types'

-- the same for several types
pub record BuildsTypes (g h : Graph) (names : List (List ℕ)) (base : ℕ) (parts : List ℕ) (tys : List TypeTree) : Type 0 where
  pub well_formed : IsWellFormed h
  pub more : slots g ≤ slots h
  pub parts_in : All (λ p. p < slots h) parts
  pub grows : Grows g h
  pub names_are : h.names.items ≡ g.names.items
  pub sound : (type_of : List ℕ → TypeTree) (types : ℕ → TypeTree) → Solves h type_of types → Solves g type_of types × (map types parts ≡ map (type_subst (pairs_from types base names)) tys)
  pub complete : (type_of : List ℕ → TypeTree) (types : ℕ → TypeTree) → Solves g type_of types → (types' : ℕ → TypeTree) × Agree (slots g) types types' × Solves h type_of types'

-- h is g where the slot `expected` has an instance of the generic type
pub record Instantiates (g h : Graph) (generic : TypeTree) (expected : ℕ) : Type 0 where
  pub well_formed : IsWellFormed h
  pub more : slots g ≤ slots h
  pub sound : (type_of : List ℕ → TypeTree) (types : ℕ → TypeTree) → Solves h type_of types → Solves g type_of types × IsGenericInstance generic (types expected)
  pub complete : (type_of : List ℕ → TypeTree) (types : ℕ → TypeTree) → Solves g type_of types → IsGenericInstance generic (types expected) → (types' : ℕ → TypeTree) × Agree (slots g) types types' × Solves h type_of types'

-- h is g with a slot for the free name a
pub record FindsName (g h : Graph) (a : List ℕ) (slot : ℕ) : Type 0 where
  pub well_formed : IsWellFormed h
  pub more : slots g ≤ slots h
  pub slot_in : slot < slots h
  pub sound : (type_of : List ℕ → TypeTree) (types : ℕ → TypeTree) → Solves h type_of types → Solves g type_of types × (type_of a ≡ types slot)
  pub complete : (type_of : List ℕ → TypeTree) (types : ℕ → TypeTree) → Solves g type_of types → (types' : ℕ → TypeTree) × Agree (slots g) types types' × Solves h type_of types'

-- h is g with a slot for a bound variable
pub record BuildsVariable (g h : Graph) (slot : ℕ) (annotation : Option TypeTree) : Type 0 where
  pub well_formed : IsWellFormed h
  pub more : slots g ≤ slots h
  pub slot_in : slot < slots h
  pub sound : (type_of : List ℕ → TypeTree) (types : ℕ → TypeTree) → Solves h type_of types → Solves g type_of types × Meets annotation (types slot)
  pub complete : (type_of : List ℕ → TypeTree) (types : ℕ → TypeTree) (t : TypeTree) → Solves g type_of types → Meets annotation t →
      (types' : ℕ → TypeTree) × Agree (slots g) types types' × Solves h type_of types' × (types' slot ≡ t)

-- h is g with slots for a bound variable and for what a function of it gives, where slot e has the type of the function
pub record OpensAbstraction (g h : Graph) (v r e : ℕ) (annotation : Option TypeTree) : Type 0 where
  pub first : Graph
  pub second : Graph
  pub third : Graph
  pub slot : ℕ
  pub variable : BuildsVariable g first v annotation
  pub range : IsFresh first second r Unknown
  pub whole : IsFunction second third slot v r
  pub same : IsEquated third h slot e

-- h is g where the slot e has the type that is written
pub record OpensAnnotation (g h : Graph) (e : ℕ) (ty : TypeTree) : Type 0 where
  pub middle : Graph
  pub slot : ℕ
  pub builds : BuildsType g middle [] 0 slot ty
  pub same : IsEquated middle h slot e

-- each index has an abstraction, of which there are so many around the term, and annotations have no open type variables
abbrev pub IsRigidOption : Option TypeTree → Type 0
IsRigidOption None = Unit {0}
IsRigidOption (Some a) = IsRigidBut [] a

abbrev pub IsClosedAt : ℕ → RawTree → Type 0
IsClosedAt depth (RawBound i) = i < depth
IsClosedAt depth (RawConstant c generic) = Unit {0}
IsClosedAt depth (RawFree x) = Unit {0}
IsClosedAt depth (RawApply f a) = IsClosedAt depth f × IsClosedAt depth a
IsClosedAt depth (RawAbstraction x annotation body) = IsRigidOption annotation × IsClosedAt (depth + 1) body
IsClosedAt depth (RawAnnotated e a) = IsRigidBut [] a × IsClosedAt depth e

-- h is g with slots and equations for the term: its solutions are the typings
pub record Generates (g h : Graph) (env : List ℕ) (raw : RawTree) (expected : ℕ) (term : SlotTree) : Type 0 where
  pub well_formed : IsWellFormed h
  pub more : slots g ≤ slots h
  pub slots_in : AreSlotsIn (slots h) term
  pub scoped : (names : List (List ℕ)) → IsScoped names raw → IsSlotScoped names term
  pub sound : (type_of : List ℕ → TypeTree) (types : ℕ → TypeTree) → Solves h type_of types →
      Solves g type_of types × IsTyping type_of (map types env) raw (typed types term) (types expected)
  pub complete : (type_of : List ℕ → TypeTree) (types : ℕ → TypeTree) (p : Nameless) → Solves g type_of types →
      IsTyping type_of (map types env) raw p (types expected) →
      (types' : ℕ → TypeTree) × Agree (slots g) types types' × Solves h type_of types' × (p ≡ typed types' term)
