-- How the logic stores a shape: as a tree of numbers, by a function that maps no two shapes to one tree.
use Rattle.std.specs.Coded.{Coded}
use Rattle.std.proofs.Common.{◌≡◌, ℕ, refl, ap, arith}
use base.Stored.{Gv, gnil, gnum, gcons}
use Rattle.hol_types.specs.Code.{coded_name, head, tail, apart}
use Rattle.hol_typing.specs.Shape.{ShapeTree, ShapeList, Hole, Fixed, Built, no_shapes, more_shapes}

abbrev num : Gv → ℕ
num gnil = 0
num (gnum n) = n
num (gcons a b) = 0

abbrev mutual
  pub shape_code : ShapeTree → Gv
  shape_code (Hole k) = gcons (gnum 0) (gnum k)
  shape_code (Fixed a) = gcons (gnum 1) (coded_name.code a)
  shape_code (Built c ss) = gcons (gnum 2) (gcons (coded_name.code c) (shapes_code ss))

  pub shapes_code : ShapeList → Gv
  shapes_code no_shapes = gcons (gnum 0) gnil
  shapes_code (more_shapes s ss) = gcons (gnum 1) (gcons (shape_code s) (shapes_code ss))

mutual
  pub shape_inj : (x y : ShapeTree) → shape_code x ≡ shape_code y → x ≡ y
  shape_inj (Hole k) (Hole l) p = λ i. Hole (ap (λ g. num (tail g)) p i)
  shape_inj (Hole k) (Fixed b) p = absurd (apart 0 1 p (omega arith))
  shape_inj (Hole k) (Built d us) p = absurd (apart 0 2 p (omega arith))
  shape_inj (Fixed a) (Hole l) p = absurd (apart 1 0 p (omega arith))
  shape_inj (Fixed a) (Fixed b) p = λ i. Fixed (coded_name.inj a b (ap (λ g. tail g) p) i)
  shape_inj (Fixed a) (Built d us) p = absurd (apart 1 2 p (omega arith))
  shape_inj (Built c ts) (Hole l) p = absurd (apart 2 0 p (omega arith))
  shape_inj (Built c ts) (Fixed b) p = absurd (apart 2 1 p (omega arith))
  shape_inj (Built c ts) (Built d us) p = λ i. Built (coded_name.inj c d (ap (λ g. head (tail g)) p) i) (shapes_inj ts us (ap (λ g. tail (tail g)) p) i)

  pub shapes_inj : (xs ys : ShapeList) → shapes_code xs ≡ shapes_code ys → xs ≡ ys
  shapes_inj no_shapes no_shapes p = refl
  shapes_inj no_shapes (more_shapes u us) p = absurd (apart 0 1 p (omega arith))
  shapes_inj (more_shapes t ts) no_shapes p = absurd (apart 1 0 p (omega arith))
  shapes_inj (more_shapes t ts) (more_shapes u us) p = λ i. more_shapes (shape_inj t u (ap (λ g. head (tail g)) p) i) (shapes_inj ts us (ap (λ g. tail (tail g)) p) i)

abbrev pub coded_shape : Coded ShapeTree
coded_shape = record { code = shape_code; inj = shape_inj }
