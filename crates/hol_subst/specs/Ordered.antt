-- What the code compares under binders, on the named terms themselves. Laws in proofs/ lead from here to nameless terms.
use Rattle.std.specs.Prelude.{ℕ, List, [], ◌∷◌, cond}
use Rattle.std.specs.Ordering.{ordering_then}
use Rattle.std.specs.declared.cmp.Ordering.{Ordering}
use Rattle.std.specs.declared.cmp.Ordering.TheVariants.{Less, Equal, Greater}
use Rattle.hol_types.specs.Tree.{TypeTree}
use Rattle.hol_types.specs.Equal.{variable_eq}
use Rattle.hol_types.specs.Order.{name_cmp, type_cmp}
use Rattle.hol_terms.specs.Named.{Named, var, constant, comb, abs}

-- variables by name, then by type
abbrev pub variable_cmp : List ℕ × TypeTree → List ℕ × TypeTree → Ordering
variable_cmp v w = ordering_then (name_cmp v.0 w.0) (type_cmp v.1 w.1)

-- v under the binders left against w under as many, right: the one bound further inside comes first, and a free one last
abbrev pub place_cmp : List (List ℕ × TypeTree) → List ℕ × TypeTree → List (List ℕ × TypeTree) → List ℕ × TypeTree → Ordering
place_cmp [] v [] w = variable_cmp v w
place_cmp [] v (r ∷ right) w = Less
place_cmp (l ∷ left) v [] w = Greater
place_cmp (l ∷ left) v (r ∷ right) w = cond (variable_eq l v) (cond (variable_eq r w) Equal Less) (cond (variable_eq r w) Greater (place_cmp left v right w))

-- the terms against each other under their binders
abbrev pub named_cmp : List (List ℕ × TypeTree) → Named → List (List ℕ × TypeTree) → Named → Ordering
named_cmp left (constant c s) right (constant d t) = ordering_then (name_cmp c d) (type_cmp s t)
named_cmp left (constant c s) right (var w) = Less
named_cmp left (constant c s) right (comb g y) = Less
named_cmp left (constant c s) right (abs w d) = Less
named_cmp left (var v) right (constant d t) = Greater
named_cmp left (var v) right (var w) = place_cmp left v right w
named_cmp left (var v) right (comb g y) = Less
named_cmp left (var v) right (abs w d) = Less
named_cmp left (comb f x) right (constant d t) = Greater
named_cmp left (comb f x) right (var w) = Greater
named_cmp left (comb f x) right (comb g y) = ordering_then (named_cmp left f right g) (named_cmp left x right y)
named_cmp left (comb f x) right (abs w d) = Less
named_cmp left (abs v b) right (constant d t) = Greater
named_cmp left (abs v b) right (var w) = Greater
named_cmp left (abs v b) right (comb g y) = Greater
named_cmp left (abs v b) right (abs w d) = ordering_then (type_cmp v.1 w.1) (named_cmp (v ∷ left) b (w ∷ right) d)
