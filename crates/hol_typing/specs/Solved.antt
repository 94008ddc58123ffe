-- What the solutions of a graph say of the typings of a term. Only contracts of hol_typing, hol_infer's private ones and proofs cite this.
use Rattle.std.specs.Prelude.{◌≡◌, ℕ, ◌+◌, ◌<◌, ◌≤◌, ◌^◌, List, [], ◌∷◌, ◌++◌, length, Option, Some, None, slice_get}
use Rattle.hol_types.specs.Tree.{TypeTree}
use Rattle.hol_terms.specs.Nameless.{Nameless, nameless_type}
use Rattle.hol_typing.specs.Raw.{RawTree}
use Rattle.hol_typing.specs.Typing.{IsTypingOf}
use Rattle.hol_typing.specs.Shape.{ShapeTree, shape_size, shape_holes}
use Rattle.hol_typing.specs.SlotTree.{SlotTree, SlotBound, SlotConstant, SlotFree, SlotApply, SlotAbstraction, typed, AreSlotsIn}
use Rattle.hol_typing.specs.Scoped.{IsScoped, IsSlotScoped}
use Rattle.hol_typing.specs.declared.generate.Graph.{Graph}
use Rattle.hol_typing.specs.Generate.{Solves, slots, IsWellFormed, Agree}
use Rattle.hol_typing.specs.Found.{shape_at, types_at, HasRigidNames, AreHolesBelow}

-- the solutions of the graph are the typings of the term
pub record IsGraphOf (raw : RawTree) (g : Graph) (term : SlotTree) : Type 0 where
  pub well_formed : IsWellFormed g
  pub slots_in : AreSlotsIn (slots g) term
  pub scoped : (names : List (List ℕ)) → IsScoped names raw → IsSlotScoped names term
  pub sound : (type_of : List ℕ → TypeTree) (types : ℕ → TypeTree) → Solves g type_of types → IsTypingOf raw (typed types term)
  pub complete : (p : Nameless) → IsTypingOf raw p → (type_of : List ℕ → TypeTree) × (types : ℕ → TypeTree) × Solves g type_of types × (p ≡ typed types term)

-- the solutions of the graph are the instances of the shapes, of which there may be more than it has slots
pub record IsSolvedBy (g : Graph) (shapes : List ShapeTree) : Type 0 where
  pub more : slots g ≤ length shapes
  pub solves : (at : ℕ → TypeTree) → (type_of : List ℕ → TypeTree) × Solves g type_of (types_at shapes at)
  pub instances : (type_of : List ℕ → TypeTree) (types : ℕ → TypeTree) → Solves g type_of types →
      (types' : ℕ → TypeTree) × Agree (slots g) types types' × ((i : ℕ) → types' i ≡ types_at shapes types' i)
  pub rigid : (i : ℕ) → HasRigidNames (shape_at shapes i)
  pub limit : ℕ
  pub small : limit < 2 ^ 64
  pub below : (i : ℕ) → i < length shapes → AreHolesBelow limit (shape_at shapes i)

-- the typings of the term are the instances of the shapes
pub record IsGeneralTyping (raw : RawTree) (shapes : List ShapeTree) (term : SlotTree) : Type 0 where
  pub slots_in : AreSlotsIn (length shapes) term
  pub scoped : (names : List (List ℕ)) → IsScoped names raw → IsSlotScoped names term
  pub typing : (at : ℕ → TypeTree) → IsTypingOf raw (typed (types_at shapes at) term)
  pub instances : (p : Nameless) → IsTypingOf raw p → (at : ℕ → TypeTree) × (p ≡ typed (types_at shapes at) term)
  pub rigid : (i : ℕ) → HasRigidNames (shape_at shapes i)
  pub limit : ℕ
  pub small : limit < 2 ^ 64
  pub below : (i : ℕ) → i < length shapes → AreHolesBelow limit (shape_at shapes i)

-- ---- sizes

abbrev pub slot_size_of : List ShapeTree → Option ℕ → ℕ
slot_size_of shapes None = 0
slot_size_of shapes (Some s) = shape_size (shape_at shapes s)

-- the size of a term under variables of the slots env
abbrev pub slot_term_size : List ShapeTree → List ℕ → SlotTree → ℕ
slot_term_size shapes env (SlotBound i) = 1 + slot_size_of shapes (slice_get env i)
slot_term_size shapes env (SlotConstant c s) = 1 + shape_size (shape_at shapes s)
slot_term_size shapes env (SlotFree x s) = 1 + shape_size (shape_at shapes s)
slot_term_size shapes env (SlotApply f a) = 1 + slot_term_size shapes env f + slot_term_size shapes env a
slot_term_size shapes env (SlotAbstraction x s b) = 1 + shape_size (shape_at shapes s) + slot_term_size shapes (s ∷ env) b

-- the open slots of a term as they occur
abbrev pub term_holes : List ShapeTree → SlotTree → List ℕ
term_holes shapes (SlotBound i) = []
term_holes shapes (SlotConstant c s) = shape_holes (shape_at shapes s)
term_holes shapes (SlotFree x s) = shape_holes (shape_at shapes s)
term_holes shapes (SlotApply f a) = term_holes shapes f ++ term_holes shapes a
term_holes shapes (SlotAbstraction x s b) = shape_holes (shape_at shapes s) ++ term_holes shapes b

-- under variables of these types the term has a type
abbrev pub IsWellTyped : List TypeTree → Nameless → Type 0
IsWellTyped env p = (t : TypeTree) × (nameless_type env p ≡ Some t)
