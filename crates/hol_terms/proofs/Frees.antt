-- Collecting the free variables.
use Rattle.std.proofs.Common.{◌≡◌, ℕ, ◌+◌, List, [], ◌∷◌, ◌++◌, refl, Bool, true, false, cond}
use Rattle.hol_types.specs.Tree.{TypeTree}
use Rattle.hol_terms.specs.Nameless.{place, free_occurrences}
use Rattle.hol_types.specs.Equal.{variable_eq}
use Rattle.hol_terms.specs.Scoped.{binds, add_new, add_all}

pub add_all_append : (vs xs ys : List (List ℕ × TypeTree)) → add_all vs (xs ++ ys) ≡ add_all (add_all vs xs) ys
add_all_append vs [] ys = refl
add_all_append vs (x ∷ xs) ys = add_all_append (add_new vs x) xs ys

-- an occurrence is free where no binder is over its variable
pub place_free : (env : List (List ℕ × TypeTree)) (i : ℕ) (v : List ℕ × TypeTree) → free_occurrences (place env i v) ≡ cond (binds env v) [] (v ∷ [])
place_free [] i v = refl
place_free (u ∷ env) i v = by (variable_eq u v) (place_free env (i + 1) v) refl
  where
    by : (b : Bool) → free_occurrences (place env (i + 1) v) ≡ cond (binds env v) [] (v ∷ []) → variable_eq u v ≡ b → free_occurrences (place (u ∷ env) i v) ≡ cond (binds (u ∷ env) v) [] (v ∷ [])
    by true r e = rw e refl
    by false r e = rw e r

pub ruleset collecting = (add_all_append, place_free)
