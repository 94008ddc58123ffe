-- The order in which open slots occur, and the type variables that they become. Only contracts of hol_typing, hol_infer's private ones and proofs cite this.
use Rattle.std.specs.Prelude.{◌≡◌, ℕ, ◌+◌, List, [], ◌∷◌, ◌++◌, cond, ◌==◌, Bool, false, ◌||◌}
use Rattle.hol_types.specs.Tree.{TypeTree, TyVar}
use Rattle.hol_typing.specs.Typing.{open_name}
use Rattle.std.specs.Global.{Vec}
use Rattle.hol_typing.specs.Shape.{ShapeTree, shape_holes}

abbrev pub is_hole_among : List ℕ → ℕ → Bool
is_hole_among [] k = false
is_hole_among (j ∷ order) k = (j == k) || is_hole_among order k

-- the open slots with k at the end, unless it is there
abbrev pub add_hole : List ℕ → ℕ → List ℕ
add_hole order k = cond (is_hole_among order k) order (order ++ k ∷ [])

abbrev pub add_holes : List ℕ → List ℕ → List ℕ
add_holes order [] = order
add_holes order (k ∷ ks) = add_holes (add_hole order k) ks

-- the open slots of each of the shapes, each once
abbrev pub AreHolesOf : List (Vec ℕ × List ℕ) → List (ShapeTree × List ℕ) → Type 0
AreHolesOf [] [] = Unit {0}
AreHolesOf [] (p ∷ shapes) = ⊥
AreHolesOf (q ∷ bound) [] = ⊥
AreHolesOf (q ∷ bound) (p ∷ shapes) = (q.0.items ≡ add_holes [] (shape_holes p.0)) × (q.1 ≡ p.1) × AreHolesOf bound shapes

-- the place of a slot in the order
abbrev pub hole_index : List ℕ → ℕ → ℕ
hole_index [] k = 0
hole_index (j ∷ order) k = cond (j == k) 0 (1 + hole_index order k)

-- the type variable that an open slot becomes
abbrev pub open_type : List ℕ → ℕ → TypeTree
open_type order k = TyVar (open_name (hole_index order k))
