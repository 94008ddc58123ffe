-- A variable occurs free in a named term where it is among the free occurrences of its nameless term.
use Rattle.std.proofs.Common.{◌≡◌, ℕ, List, [], ◌∷◌, ◌++◌, refl, ap, sym, ◌∙◌, Bool, true, false, cond, ◌||◌}
use Rattle.hol_types.specs.Tree.{TypeTree}
use Rattle.hol_types.specs.Equal.{variable_eq}
use Rattle.hol_terms.specs.Named.{Named, var, constant, comb, abs}
use Rattle.hol_terms.specs.Nameless.{nameless, free_occurrences}
use Rattle.hol_terms.specs.Scoped.{binds, occurs_in}
use Rattle.hol_terms.proofs.Frees.{place_free}
use Rattle.hol_terms.proofs.Same.{variable_eq_decides}

abbrev Variables : Type 0
Variables = List (List ℕ × TypeTree)

pub binds_append : (xs ys : Variables) (v : List ℕ × TypeTree) → binds (xs ++ ys) v ≡ (binds xs v || binds ys v)
binds_append [] ys v = refl
binds_append (x ∷ xs) ys v = by (variable_eq x v) (binds_append xs ys v)
  where
    by : (b : Bool) → binds (xs ++ ys) v ≡ (binds xs v || binds ys v) → (b || binds (xs ++ ys) v) ≡ ((b || binds xs v) || binds ys v)
    by true e = refl
    by false e = e

or_outside : (e a b : Bool) → (cond e false a || cond e false b) ≡ cond e false (a || b)
or_outside true a b = refl
or_outside false a b = refl

under_binder : (a e b : Bool) → cond (a || e) false b ≡ cond e false (cond a false b)
under_binder true true b = refl
under_binder true false b = refl
under_binder false e b = refl

at_place : (env : Variables) (w v : List ℕ × TypeTree) → binds (cond (binds env w) [] (w ∷ [])) v ≡ cond (binds env v) false (variable_eq w v)
at_place env w v = by (variable_eq w v) refl (binds env w) refl (binds env v) refl
  where
    same : variable_eq w v ≡ true → binds env w ≡ binds env v
    same q = ap (binds env) ((variable_eq_decides w v).0 q)

    by : (a : Bool) → variable_eq w v ≡ a → (b : Bool) → binds env w ≡ b → (c : Bool) → binds env v ≡ c → binds (cond (binds env w) [] (w ∷ [])) v ≡ cond (binds env v) false (variable_eq w v)
    by true q true r true s = rw (r, s) refl
    by true q true r false s = let z : true ≡ false = sym r ∙ same q ∙ s in absurd (cc)
    by true q false r true s = let z : true ≡ false = sym s ∙ sym (same q) ∙ r in absurd (cc)
    by true q false r false s = rw (r, s, q) refl
    by false q true r true s = rw (r, s) refl
    by false q true r false s = rw (r, s, q) refl
    by false q false r true s = rw (r, s, q) refl
    by false q false r false s = rw (r, s, q) refl

pub occurs_under : (env : Variables) (v : List ℕ × TypeTree) (t : Named) → binds (free_occurrences (nameless env t)) v ≡ cond (binds env v) false (occurs_in v t)
occurs_under env v (var w) = ap (λ xs. binds xs v) (place_free env 0 w) ∙ at_place env w v
occurs_under env v (constant c s) = by (binds env v)
  where
    by : (b : Bool) → false ≡ cond b false false
    by true = refl
    by false = refl
occurs_under env v (comb f x) = binds_append (free_occurrences (nameless env f)) (free_occurrences (nameless env x)) v ∙ (rw (occurs_under env v f, occurs_under env v x) (or_outside (binds env v) (occurs_in v f) (occurs_in v x)))
occurs_under env v (abs w b) = occurs_under (w ∷ env) v b ∙ under_binder (variable_eq w v) (binds env v) (occurs_in v b)

-- the same outside all binders
pub occurs_is : (v : List ℕ × TypeTree) (t : Named) → occurs_in v t ≡ binds (free_occurrences (nameless [] t)) v
occurs_is v t = sym (occurs_under [] v t)
