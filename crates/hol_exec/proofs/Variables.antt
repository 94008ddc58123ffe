-- No constant occurs in a variable.
use Rattle.std.specs.Prelude.{◌≡◌, ◌+◌, ℕ, Bool, true, false, cond, List, [], ◌∷◌, refl}
use Rattle.hol_types.specs.Tree.{TypeTree}
use Rattle.hol_types.specs.Equal.{variable_eq}
use Rattle.hol_terms.specs.Nameless.{bound, place}
use Rattle.hol_exec.specs.Occurring.{constant_occurs}

pub place_none : (name : List ℕ) (env : List (List ℕ × TypeTree)) (i : ℕ) (v : List ℕ × TypeTree) → constant_occurs name (place env i v) ≡ false
place_none name [] i v = refl
place_none name (u ∷ env) i v = by (variable_eq u v) (place_none name env (i + 1) v)
  where
    by : (b : Bool) → constant_occurs name (place env (i + 1) v) ≡ false → constant_occurs name (cond b (bound i) (place env (i + 1) v)) ≡ false
    by true h = refl
    by false h = h
