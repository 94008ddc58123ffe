-- The shapes of slots that are found so far. Only contracts of hol_typing, hol_infer's private ones and proofs cite this.
use Rattle.std.specs.Prelude.{◌≡◌, ℕ, ◌+◌, ◌<◌, ◌^◌, List, [], ◌∷◌, ◌++◌, length, get_or, map, cond, Option, Some, None, Bool, true, false}
use Rattle.std.specs.List.{sum_by, Contains}
use Rattle.hol_types.specs.Tree.{TypeTree}
use Rattle.hol_types.specs.Names.{tyvars, type_names, is_among}
use Rattle.hol_typing.specs.Typing.{IsOpen}
use Rattle.hol_typing.specs.Shape.{ShapeTree, ShapeList, Hole, Fixed, Built, no_shapes, more_shapes, shape_list, fill, instance_shape, part_shape}
use Rattle.hol_typing.specs.declared.cell.Cell.{Cell}
use Rattle.hol_typing.specs.declared.cell.Cell.TheVariants.{Unknown, Link, Rigid, App, Generic, Part}
use Rattle.hol_typing.specs.declared.cell.GenericPart.{GenericPart}
use Rattle.hol_typing.specs.declared.numbering.Numbering.{Numbering}
use Rattle.hol_typing.specs.Graph.{cell_at, Respects, bound_names}
use Rattle.hol_typing.specs.Generate.{Agree}
use Rattle.hol_typing.specs.Numbering.{base_at, limit_of, IsNumbered}

abbrev pub found_at : List (Option ShapeTree) → ℕ → Option ShapeTree
found_at found i = get_or found i None

-- the shapes of the parts are found, and are these
abbrev pub ArePartsFound : List (Option ShapeTree) → List ℕ → List ShapeTree → Type 0
ArePartsFound found parts shapes = map (found_at found) parts ≡ map Some shapes

-- a part has no shape yet
abbrev pub IsPartMissing : List (Option ShapeTree) → List ℕ → Type 0
IsPartMissing found parts = (j : ℕ) × Contains parts j × (found_at found j ≡ None)

-- the shape that is found
abbrev pub shape_found : Option ShapeTree → ShapeTree
shape_found None = Hole 0
shape_found (Some s) = s

-- the names that stand in the type, each with the shape that is found for its slot, of those from `base` on
abbrev pub bound_from : List (Option ShapeTree) → TypeTree → ℕ → List (List ℕ) → List (ShapeTree × List ℕ)
bound_from found ty base [] = []
bound_from found ty base (a ∷ names) = cond (is_among (type_names ty) a) ((shape_found (found_at found base), a) ∷ bound_from found ty (base + 1) names) (bound_from found ty (base + 1) names)

-- the slot of each of the names that stands in the type has a shape
abbrev pub AreRowFound : List (Option ShapeTree) → TypeTree → ℕ → List (List ℕ) → Type 0
AreRowFound found ty base [] = Unit {0}
AreRowFound found ty base (a ∷ names) = (is_among (type_names ty) a ≡ true → (s : ShapeTree) × (found_at found base ≡ Some s)) × AreRowFound found ty (base + 1) names

-- the shapes of the slots of a part's variables are found, and are these
abbrev pub AreBoundFound : List (Option ShapeTree) → GenericPart → List (ShapeTree × List ℕ) → Type 0
AreBoundFound found part bound = AreRowFound found part.ty part.base (bound_names part) × (bound ≡ bound_from found part.ty part.base (bound_names part))

-- the slot of a variable that stands in the part has no shape yet
abbrev pub IsBoundMissing : List (Option ShapeTree) → GenericPart → Type 0
IsBoundMissing found part =
    (k : ℕ) × (k < length (bound_names part)) × (is_among (type_names part.ty) (get_or (bound_names part) k []) ≡ true) × (found_at found (part.base + k) ≡ None)

-- the shape of one name's slot is put at the end where the name stands in the part; or it is missing
abbrev pub AddsBound : Bool → List (Option ShapeTree) → GenericPart → ℕ → List ℕ → List (ShapeTree × List ℕ) → List (ShapeTree × List ℕ) → Type 0
AddsBound true found part k a before after = AreRowFound found part.ty (part.base + k) (a ∷ []) × (after ≡ before ++ bound_from found part.ty (part.base + k) (a ∷ []))
AddsBound false found part k a before after = (is_among (type_names part.ty) a ≡ true) × (found_at found (part.base + k) ≡ None)

-- s is what the cell of slot i makes of the shapes of its parts
abbrev pub BuiltFrom : Numbering → List (Option ShapeTree) → ℕ → ShapeTree → Cell → Type 0
BuiltFrom numbering found i s Unknown = s ≡ Hole i
BuiltFrom numbering found i s (Link j) = found_at found j ≡ Some s
BuiltFrom numbering found i s (Rigid a) = s ≡ Fixed a
BuiltFrom numbering found i s (App c parts) = (shapes : List ShapeTree) × ArePartsFound found parts.items shapes × (s ≡ Built c (shape_list shapes))
BuiltFrom numbering found i s (Generic ty) = s ≡ instance_shape (base_at numbering i) (tyvars ty) ty
BuiltFrom numbering found i s (Part part) = (bound : List (ShapeTree × List ℕ)) × AreBoundFound found part bound × (s ≡ part_shape bound (base_at numbering i) (tyvars part.ty) part.ty)

-- a part of the cell has no shape yet
abbrev pub IsBlocked : List (Option ShapeTree) → Cell → Type 0
IsBlocked found Unknown = ⊥
IsBlocked found (Link j) = found_at found j ≡ None
IsBlocked found (Rigid a) = ⊥
IsBlocked found (App c parts) = IsPartMissing found parts.items
IsBlocked found (Generic ty) = ⊥
IsBlocked found (Part part) = IsBoundMissing found part

-- the type variables of annotations in the shape are no open ones
abbrev mutual
  pub HasRigidNames : ShapeTree → Type 0
  HasRigidNames (Hole k) = Unit {0}
  HasRigidNames (Fixed a) = IsOpen a → ⊥
  HasRigidNames (Built c ss) = HaveRigidNames ss

  pub HaveRigidNames : ShapeList → Type 0
  HaveRigidNames no_shapes = Unit {0}
  HaveRigidNames (more_shapes s ss) = HasRigidNames s × HaveRigidNames ss

-- the open slots of the shape are below n
abbrev mutual
  pub AreHolesBelow : ℕ → ShapeTree → Type 0
  AreHolesBelow n (Hole k) = k < n
  AreHolesBelow n (Fixed a) = Unit {0}
  AreHolesBelow n (Built c ss) = AllHolesBelow n ss

  pub AllHolesBelow : ℕ → ShapeList → Type 0
  AllHolesBelow n no_shapes = Unit {0}
  AllHolesBelow n (more_shapes s ss) = AreHolesBelow n s × AllHolesBelow n ss

pub record IsBuilt (cells : List Cell) (numbering : Numbering) (found : List (Option ShapeTree)) : Type 0 where
  pub built : (i : ℕ) (s : ShapeTree) → found_at found i ≡ Some s → BuiltFrom numbering found i s (cell_at cells i)
  -- the types of each solution are instances of the shapes, where the numbers have types that fit
  pub general : (types : ℕ → TypeTree) → Respects cells types → IsNumbered cells numbering types → (i : ℕ) (s : ShapeTree) → found_at found i ≡ Some s → types i ≡ fill types s
  pub rigid : (i : ℕ) (s : ShapeTree) → found_at found i ≡ Some s → HasRigidNames s
  pub below : (i : ℕ) (s : ShapeTree) → found_at found i ≡ Some s → AreHolesBelow (limit_of numbering) s

abbrev pub IsStuckAt : List Cell → List (Option ShapeTree) → ℕ → Type 0
IsStuckAt cells found i = found_at found i ≡ None → IsBlocked found (cell_at cells i)

-- no slot without a shape can get one
pub record IsStuck (cells : List Cell) (found : List (Option ShapeTree)) : Type 0 where
  pub stuck : (i : ℕ) → i < length cells → IsStuckAt cells found i

-- how many slots have no shape yet
abbrev pub none_weight : Option ShapeTree → ℕ
none_weight None = 1
none_weight (Some s) = 0

abbrev pub missing : List (Option ShapeTree) → ℕ
missing found = sum_by none_weight found

-- the shapes found, an open slot where there is none
abbrev pub shape_at : List ShapeTree → ℕ → ShapeTree
shape_at shapes i = get_or shapes i (Hole i)

-- the types that the shapes have where `at` gives types to the open slots
abbrev pub types_at : List ShapeTree → (ℕ → TypeTree) → ℕ → TypeTree
types_at shapes at i = fill at (shape_at shapes i)

-- what one step or one sweep leaves
abbrev pub StepGives : List Cell → List (Option ShapeTree) → List (Option ShapeTree) → ℕ → Bool → Type 0
StepGives cells before after i true = missing after < missing before
StepGives cells before after i false = (after ≡ before) × IsStuckAt cells after i

abbrev pub SweepGives : List Cell → List (Option ShapeTree) → List (Option ShapeTree) → Bool → Type 0
SweepGives cells before after true = missing after < missing before
SweepGives cells before after false = IsStuck cells after

-- The shapes are those of which the types of all solutions are instances, and all whose instances are solutions.
pub record AreGeneral (cells : List Cell) (shapes : List ShapeTree) : Type 0 where
  pub respects : (at : ℕ → TypeTree) → Respects cells (types_at shapes at)
  pub instances : (types : ℕ → TypeTree) → Respects cells types →
      (types' : ℕ → TypeTree) × Agree (length cells) types types' × ((i : ℕ) → types' i ≡ types_at shapes types' i)
  pub rigid : (i : ℕ) → HasRigidNames (shape_at shapes i)
  pub len : length shapes ≡ length cells
  pub limit : ℕ
  pub small : limit < 2 ^ 64
  pub below : (i : ℕ) → i < length shapes → AreHolesBelow limit (shape_at shapes i)
