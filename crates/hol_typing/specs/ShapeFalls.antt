-- Each part of a node has fewer nodes than the node.
use Rattle.std.specs.Prelude.{ℕ, ◌+◌, ◌≤◌, max, List, [], ◌∷◌}
use Rattle.std.proofs.Common.{arith}
use denote.Param.Weighed.{most}
use Rattle.hol_typing.specs.declared.shape.ShapeNode.{ShapeNode}
use Rattle.hol_typing.specs.declared.shape.ShapeNode.TheVariants.{Open, Rigid, App, Instance, Part}
use Rattle.hol_typing.specs.declared.shape.Shape.TheDeep.{deep-ShapeNode}
use Rattle.hol_typing.specs.Shape.{ShapeTree, shape_list, shape_size, shapes_size, AreWithin}
use Rattle.hol_typing.specs.ShapeView.{shape_of, HasNumbers}

most_le_size : (ss : List ShapeTree) → most (λ s. shape_size s + 1) ss ≤ shapes_size (shape_list ss) + 1
most_le_size [] = omega arith
most_le_size (s ∷ ss) = omega (arith, most_le_size ss)

most_le_within : (n : ℕ) (ps : List (ShapeTree × List ℕ)) → AreWithin n ps → max (most (λ p. max (shape_size p.0 + 1) 0) ps) 0 ≤ n
most_le_within n [] h = omega arith
most_le_within n (p ∷ ps) h = omega (arith, h.0, most_le_within n ps h.1)

pub deep_le_size : (n : ShapeNode) → HasNumbers n → max (deep-ShapeNode n) 0 ≤ shape_size (shape_of n)
deep_le_size (Open k) h = omega arith
deep_le_size (Rigid a) h = omega arith
deep_le_size (App c ss) h = omega (arith, most_le_size ss.items)
deep_le_size (Instance ty base) h = omega arith
deep_le_size (Part ty bound base) h =
    let l = most_le_within (shape_size (shape_of (Part ty bound base))) bound.items h.1 in
    let le : max (max (most (λ (p : ShapeTree × List ℕ). max (shape_size p.0 + 1) 0) bound.items) 0) 0 ≤ shape_size (shape_of (Part ty bound base)) = omega (arith, l) in
    le
