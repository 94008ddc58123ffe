-- The names of type variables, collected under binders.
use Rattle.std.specs.Prelude.{◌≡◌, ℕ, ◌+◌, Bool, true, false, cond, ◌||◌, List, [], ◌∷◌, refl}
use Rattle.std.proofs.Common.{ap, sym, ◌∙◌}
use Rattle.hol_types.specs.Tree.{TypeTree}
use Rattle.hol_types.specs.Equal.{variable_eq}
use Rattle.hol_types.specs.Names.{tyvars, insert_names}
use Rattle.hol_types.proofs.Names.{insert_names_append}
use Rattle.hol_terms.specs.Nameless.{place}
use Rattle.hol_terms.specs.Scoped.{binds}
use Rattle.hol_subst.specs.TermTyvars.{type_names_in}

place_names : (env : List (List ℕ × TypeTree)) (i : ℕ) (v : List ℕ × TypeTree) → type_names_in (place env i v) ≡ cond (binds env v) [] (tyvars v.1)
place_names [] i v = refl
place_names (u ∷ env) i v = by (variable_eq u v) (place_names env (i + 1) v) refl
  where
    by : (b : Bool) → type_names_in (place env (i + 1) v) ≡ cond (binds env v) [] (tyvars v.1) → variable_eq u v ≡ b → type_names_in (place (u ∷ env) i v) ≡ cond (variable_eq u v || binds env v) [] (tyvars v.1)
    by true r e = rw e refl
    by false r e = rw e r

pub bound_adds : (names : List (List ℕ)) (env : List (List ℕ × TypeTree)) (v : List ℕ × TypeTree) → binds env v ≡ true → names ≡ insert_names names (type_names_in (place env 0 v))
bound_adds names env v e = sym (ap (insert_names names) (place_names env 0 v ∙ ap (λ b. cond b [] (tyvars v.1)) e))

pub free_adds : (names : List (List ℕ)) (env : List (List ℕ × TypeTree)) (v : List ℕ × TypeTree) → binds env v ≡ false → insert_names names (tyvars v.1) ≡ insert_names names (type_names_in (place env 0 v))
free_adds names env v e = sym (ap (insert_names names) (place_names env 0 v ∙ ap (λ b. cond b [] (tyvars v.1)) e))

pub ruleset terms = (bound_adds, free_adds, insert_names_append)
