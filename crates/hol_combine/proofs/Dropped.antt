-- What an expression drops has fewer nodes than it.
use denote.Param.Weighed.{most}
use Rattle.std.specs.Prelude.{◌≡◌, ◌+◌, ◌*◌, ◌≤◌, ◌<◌, ℕ, max, List, [], ◌∷◌}
use Rattle.std.proofs.Common.{ap, sym, ◌∙◌, arith}
use Rattle.hol_combine.specs.declared.expr.ExprNode.{ExprNode}
use Rattle.hol_combine.specs.declared.expr.Expr.TheDeep.{deep-ExprNode}
use Rattle.hol_combine.specs.ExprValue.{ExprValue, expr_nodes}
use Rattle.hol_combine.specs.ExprView.{expr_of_node}
use Rattle.hol_combine.specs.Falls.{deep_le_nodes}

pub parts_fit : (kept n : ExprNode) (self whole : ExprValue) → kept ≡ n → expr_of_node kept ≡ self → expr_nodes self ≤ expr_nodes whole → max (deep-ExprNode n) 0 ≤ expr_nodes whole
parts_fit kept n self whole is view few =
    let same : expr_nodes (expr_of_node n) ≡ expr_nodes self = ap expr_nodes (ap expr_of_node (sym is) ∙ view) in
    let fall = deep_le_nodes n in
    omega (arith, same, fall, few)

pub most_twice : {X : Type 0} (f g : X → ℕ) → ((x : X) → f x ≤ 2 * g x) → (xs : List X) → most f xs ≤ 2 * most g xs
most_twice f g h [] = omega arith
most_twice f g h (x ∷ xs) = let here = h x in let rest = most_twice f g h xs in omega (arith, here, rest)

-- the part that is a list, by its place
pub only_part : (k m w t : ℕ) → k ≤ 2 * m → max (max m 0) 0 ≤ w → 2 * (w + 1) + 0 ≡ t → k < t
only_part k m w t twice h is = omega (arith, twice, h, is)

pub second_part : (a k m w t : ℕ) → k ≤ 2 * m → max (max a (max m 0)) 0 ≤ w → 2 * (w + 1) + 0 ≡ t → k < t
second_part a k m w t twice h is = omega (arith, twice, h, is)

pub third_part : (a b k m w t : ℕ) → k ≤ 2 * m → max (max a (max b (max m 0))) 0 ≤ w → 2 * (w + 1) + 0 ≡ t → k < t
third_part a b k m w t twice h is = omega (arith, twice, h, is)
