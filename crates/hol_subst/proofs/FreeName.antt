-- The names of the free variables and constants of a term, found under binders.
use Rattle.std.proofs.Common.{◌≡◌, ℕ, ◌+◌, List, [], ◌∷◌, Bool, true, false, cond, not, ◌||◌, ◌&&◌, bytes_eq, refl}
use Rattle.hol_types.specs.Tree.{TypeTree}
use Rattle.hol_types.specs.Equal.{variable_eq}
use Rattle.hol_terms.specs.Nameless.{bound, place}
use Rattle.hol_terms.specs.Scoped.{binds}
use Rattle.hol_subst.specs.FreeName.{has_name}

-- an occurrence under binders has a name where it is free
pub has_place : (a : List ℕ) (env : List (List ℕ × TypeTree)) (i : ℕ) (v : List ℕ × TypeTree) → has_name a (place env i v) ≡ (bytes_eq v.0 a && not (binds env v))
has_place a [] i v = by (bytes_eq v.0 a)
  where
    by : (b : Bool) → b ≡ (b && true)
    by true = refl
    by false = refl
has_place a (u ∷ env) i v = by (variable_eq u v) (has_place a env (i + 1) v)
  where
    none : (b : Bool) → false ≡ (b && false)
    none true = refl
    none false = refl

    by : (b : Bool) → has_name a (place env (i + 1) v) ≡ (bytes_eq v.0 a && not (binds env v)) → has_name a (cond b (bound i) (place env (i + 1) v)) ≡ (bytes_eq v.0 a && not (b || binds env v))
    by true e = none (bytes_eq v.0 a)
    by false e = e
