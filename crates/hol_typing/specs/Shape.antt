-- Types as inference finds them: over slots, which stand for types that are still open. Only contracts of hol_typing, hol_infer's private ones and proofs cite this.
use Rattle.std.specs.Prelude.{◌≡◌, ℕ, ◌+◌, ◌<◌, List, [], ◌∷◌, ◌++◌, cond, bytes_eq, Option, Some, None, unwrap_or}
use Rattle.hol_types.specs.Tree.{TypeTree, TypeList, TyVar, TyApp, no_types, more_types}

mutual
  -- an open slot, a type variable of an annotation, or a constructor with its arguments
  pub data ShapeTree : Type 0 where
    Hole : ℕ → ShapeTree
    Fixed : List ℕ → ShapeTree
    Built : List ℕ → ShapeList → ShapeTree

  pub data ShapeList : Type 0 where
    no_shapes : ShapeList
    more_shapes : ShapeTree → ShapeList → ShapeList

abbrev pub shape_list : List ShapeTree → ShapeList
shape_list [] = no_shapes
shape_list (s ∷ ss) = more_shapes s (shape_list ss)

-- the number of nodes
abbrev mutual
  pub shape_size : ShapeTree → ℕ
  shape_size (Hole k) = 1
  shape_size (Fixed a) = 1
  shape_size (Built c ss) = 1 + shapes_size ss

  pub shapes_size : ShapeList → ℕ
  shapes_size no_shapes = 0
  shapes_size (more_shapes s ss) = shape_size s + shapes_size ss

-- the type, where `at` gives types to the open slots
abbrev mutual
  pub fill : (ℕ → TypeTree) → ShapeTree → TypeTree
  fill at (Hole k) = at k
  fill at (Fixed a) = TyVar a
  fill at (Built c ss) = TyApp c (fills at ss)

  pub fills : (ℕ → TypeTree) → ShapeList → TypeList
  fills at no_shapes = no_types
  fills at (more_shapes s ss) = more_types (fill at s) (fills at ss)

-- the open slots as they occur
abbrev mutual
  pub shape_holes : ShapeTree → List ℕ
  shape_holes (Hole k) = k ∷ []
  shape_holes (Fixed a) = []
  shape_holes (Built c ss) = shapes_holes ss

  pub shapes_holes : ShapeList → List ℕ
  shapes_holes no_shapes = []
  shapes_holes (more_shapes s ss) = shape_holes s ++ shapes_holes ss

-- the place of a name among the names, or their number
abbrev pub place_among : List (List ℕ) → List ℕ → ℕ
place_among [] a = 0
place_among (b ∷ names) a = cond (bytes_eq b a) 0 (1 + place_among names a)

-- the shape of a type whose variables are the open slots from `base` on, in the order of the names
abbrev mutual
  pub instance_shape : ℕ → List (List ℕ) → TypeTree → ShapeTree
  instance_shape base names (TyVar a) = Hole (base + place_among names a)
  instance_shape base names (TyApp c ts) = Built c (instance_shapes base names ts)

  pub instance_shapes : ℕ → List (List ℕ) → TypeList → ShapeList
  instance_shapes base names no_types = no_shapes
  instance_shapes base names (more_types t ts) = more_shapes (instance_shape base names t) (instance_shapes base names ts)

-- the shape that is put for the name a
abbrev pub shape_lookup : List (ShapeTree × List ℕ) → List ℕ → Option ShapeTree
shape_lookup [] a = None
shape_lookup (p ∷ bound) a = cond (bytes_eq p.1 a) (Some p.0) (shape_lookup bound a)

-- the same of a type in which shapes are put for some of its variables
abbrev mutual
  pub part_shape : List (ShapeTree × List ℕ) → ℕ → List (List ℕ) → TypeTree → ShapeTree
  part_shape bound base names (TyVar a) = unwrap_or (shape_lookup bound a) (Hole (base + place_among names a))
  part_shape bound base names (TyApp c ts) = Built c (part_shapes bound base names ts)

  pub part_shapes : List (ShapeTree × List ℕ) → ℕ → List (List ℕ) → TypeList → ShapeList
  part_shapes bound base names no_types = no_shapes
  part_shapes bound base names (more_types t ts) = more_shapes (part_shape bound base names t) (part_shapes bound base names ts)

-- each of the shapes has fewer than n nodes
abbrev pub AreWithin : ℕ → List (ShapeTree × List ℕ) → Type 0
AreWithin n [] = Unit {0}
AreWithin n (p ∷ bound) = (shape_size p.0 < n) × AreWithin n bound

-- each of the shapes has one node
abbrev pub AreSingle : List (ShapeTree × List ℕ) → Type 0
AreSingle [] = Unit {0}
AreSingle (p ∷ bound) = (shape_size p.0 ≡ 1) × AreSingle bound

-- the types of the shapes that are put for names
abbrev pub fill_pairs : (ℕ → TypeTree) → List (ShapeTree × List ℕ) → List (TypeTree × List ℕ)
fill_pairs at [] = []
fill_pairs at (p ∷ bound) = (fill at p.0, p.1) ∷ fill_pairs at bound
