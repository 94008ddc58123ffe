-- What the code compares and collects under binders, on the named terms themselves. Laws in proofs/ lead from here to nameless terms.
use Rattle.std.specs.Prelude.{◌≡◌, ℕ, List, [], ◌∷◌, ◌++◌, Bool, true, false, cond, not, ◌&&◌, ◌||◌, bytes_eq}
use Rattle.std.specs.Int.{bit_at}
use Rattle.hol_types.specs.Tree.{TypeTree}
use Rattle.hol_types.specs.Equal.{type_eq, variable_eq}
use Rattle.hol_types.specs.Filter.{name_place}
use Rattle.hol_terms.specs.Named.{Named, var, constant, comb, abs}
use Rattle.hol_terms.specs.Nameless.{base_of}

-- v is one of the variables of env
abbrev pub binds : List (List ℕ × TypeTree) → List ℕ × TypeTree → Bool
binds [] v = false
binds (u ∷ env) v = variable_eq u v || binds env v

-- v and w are bound at one depth, or are both free and the same
abbrev pub same_place : List (List ℕ × TypeTree) → List ℕ × TypeTree → List (List ℕ × TypeTree) → List ℕ × TypeTree → Bool
same_place [] v [] w = variable_eq v w
same_place [] v (r ∷ right) w = false
same_place (l ∷ left) v [] w = false
same_place (l ∷ left) v (r ∷ right) w = cond (variable_eq l v) (variable_eq r w) (cond (variable_eq r w) false (same_place left v right w))

-- a variable whose name has no bit among these stands for one thing under both
pub record AgreeBut (bits : ℕ) (left right : List (List ℕ × TypeTree)) : Type 0 where
  pub same : (v : List ℕ × TypeTree) → (bit_at bits (name_place 0 v.0) ≡ 1 → ⊥) → same_place left v right v ≡ true

-- the terms agree under their binders; base names count where with_bases is true
abbrev pub same_named : Bool → List (List ℕ × TypeTree) → Named → List (List ℕ × TypeTree) → Named → Bool
same_named with_bases left (var v) right (var w) = same_place left v right w
same_named with_bases left (constant c s) right (constant d t) = bytes_eq c d && type_eq s t
same_named with_bases left (comb f x) right (comb g y) = same_named with_bases left f right g && same_named with_bases left x right y
same_named with_bases left (abs v b) right (abs w c) = (not with_bases || bytes_eq (base_of v.0) (base_of w.0)) && (type_eq v.1 w.1 && same_named with_bases (v ∷ left) b (w ∷ right) c)
same_named with_bases left _ right _ = false

-- the list with v at its end, unless it is there
abbrev pub add_new : List (List ℕ × TypeTree) → List ℕ × TypeTree → List (List ℕ × TypeTree)
add_new vs v = cond (binds vs v) vs (vs ++ v ∷ [])

-- the list with each of the others added in turn
abbrev pub add_all : List (List ℕ × TypeTree) → List (List ℕ × TypeTree) → List (List ℕ × TypeTree)
add_all vs [] = vs
add_all vs (w ∷ ws) = add_all (add_new vs w) ws

-- v occurs free in the named term
abbrev pub occurs_in : List ℕ × TypeTree → Named → Bool
occurs_in v (var w) = variable_eq w v
occurs_in v (constant c s) = false
occurs_in v (comb f x) = occurs_in v f || occurs_in v x
occurs_in v (abs w b) = cond (variable_eq w v) false (occurs_in v b)
