-- What an application of fitting types says, the type of a term from the types of its parts, and the type of a nameless term from the named one.
use Rattle.std.proofs.Common.{◌≡◌, ℕ, ◌+◌, List, [], ◌∷◌, map, Bool, true, false, cond, bytes_eq, codes, Some, None, slice_get, refl, ap, sym, ◌∙◌, add-zero, add-one, zero-add, arith}
use Rattle.std.specs.Option.{option_map, option_and_then}
use Rattle.std.proofs.lemmas.Slice.Eq.{bytes_eq-Decides}
use Rattle.hol_types.specs.Tree.{TypeTree, TypeList, TyVar, TyApp, no_types, more_types}
use Rattle.hol_types.specs.Fun.{fun_type, fun_parts, both_of}
use Rattle.hol_types.specs.Equal.{type_eq, variable_eq}
use Rattle.hol_types.proofs.OrderLaws.{type_cmp_decides}
use Rattle.hol_terms.specs.Named.{Named, var, constant, comb, abs, named_type, applied_type}
use Rattle.hol_terms.specs.Nameless.{place, nameless, nameless_type}
use Rattle.hol_terms.proofs.Same.{variable_eq_decides}

-- what is applied is of a type of functions
pub applied_is : (s t u : TypeTree) → applied_type s t ≡ Some u → s ≡ fun_type t u
applied_is (TyVar a) t u e = absurd (cc)
applied_is (TyApp c ts) t u e = by (bytes_eq c (codes "fun")) refl ts e
  where
    same : (b : Bool) (p q : TypeTree) → bytes_eq c (codes "fun") ≡ true → type_eq p t ≡ b → cond b (Some q) None ≡ Some u → TyApp c (more_types p (more_types q no_types)) ≡ fun_type t u
    same true p q h i f = let g : q ≡ u = cc in λ j. TyApp ((bytes_eq-Decides c (codes "fun")).0 h j) (more_types ((type_cmp_decides p t).0 i j) (more_types (g j) no_types))
    same false p q h i f = absurd (cc)

    by : (b : Bool) → bytes_eq c (codes "fun") ≡ b → (us : TypeList) → option_and_then (λ p. cond (type_eq p.0 t) (Some p.1) None) (cond b (both_of us) None) ≡ Some u → TyApp c us ≡ fun_type t u
    by true h no_types f = absurd (cc)
    by true h (more_types p no_types) f = absurd (cc)
    by true h (more_types p (more_types q no_types)) f = same (type_eq p t) p q h refl f
    by true h (more_types p (more_types q (more_types r us))) f = absurd (cc)
    by false h us f = absurd (cc)

-- a function fits an argument of its domain
pub applied_fits : (t u : TypeTree) → applied_type (fun_type t u) t ≡ Some u
applied_fits t u = ap (λ b. cond b (Some u) None) ((type_cmp_decides t t).1 refl)

pub comb_type : (f x : Named) (s t : TypeTree) → named_type f ≡ Some s → named_type x ≡ Some t → named_type (comb f x) ≡ applied_type s t
comb_type f x s t p q = rw (p, q) refl

-- an application that has a type has the range's, whatever the argument's
pub range_is : (f x : Named) (s t a b : TypeTree) → named_type f ≡ Some s → named_type x ≡ Some t → fun_parts s ≡ Some (a, b) → (named_type (comb f x) ≡ None → ⊥) → named_type (comb f x) ≡ Some b
range_is f x s t a b p q r fits = by (type_eq a t) refl
  where
    whole : named_type (comb f x) ≡ cond (type_eq a t) (Some b) None
    whole = comb_type f x s t p q ∙ ap (option_and_then (λ o. cond (type_eq o.0 t) (Some o.1) None)) r

    by : (c : Bool) → type_eq a t ≡ c → named_type (comb f x) ≡ Some b
    by true e = whole ∙ ap (λ c. cond c (Some b) None) e
    by false e = absurd (fits (whole ∙ ap (λ c. cond c (Some b) None) e))

pub abs_type : (v : List ℕ × TypeTree) (b : Named) (t : TypeTree) → named_type b ≡ Some t → named_type (abs v b) ≡ Some (fun_type v.1 t)
abs_type v b t p = rw p refl

-- the types of variables
abbrev pub types_of : List (List ℕ × TypeTree) → List TypeTree
types_of env = map (λ v. v.1) env

-- where the types from j on are those of env, a place under env, j binders passed, has the type of its variable
pub place_type : (types : List TypeTree) (env : List (List ℕ × TypeTree)) (j : ℕ) (v : List ℕ × TypeTree) → ((k : ℕ) → slice_get types (j + k) ≡ slice_get (types_of env) k) → nameless_type types (place env j v) ≡ Some v.1
place_type types [] j v h = refl
place_type types (u ∷ env) j v h = by (variable_eq u v) refl (place_type types env (j + 1) v (λ k. ap (slice_get types) (further k) ∙ h (k + 1) ∙ ap (slice_get (types_of (u ∷ env))) (add-one k)))
  where
    further : (k : ℕ) → j + 1 + k ≡ j + (k + 1)
    further k = omega arith

    by : (b : Bool) → variable_eq u v ≡ b → nameless_type types (place env (j + 1) v) ≡ Some v.1 → nameless_type types (place (u ∷ env) j v) ≡ Some v.1
    by true e r = rw e (ap (slice_get types) (sym (add-zero j)) ∙ h 0 ∙ ap (λ w. Some w.1) ((variable_eq_decides u v).0 e))
    by false e r = rw e r

-- under binders a nameless term has the type of the named one
pub type_under : (env : List (List ℕ × TypeTree)) (t : Named) → nameless_type (types_of env) (nameless env t) ≡ named_type t
type_under env (var v) = place_type (types_of env) env 0 v (λ k. ap (slice_get (types_of env)) (zero-add k))
type_under env (constant c s) = refl
type_under env (comb f x) = rw (type_under env f, type_under env x) refl
type_under env (abs v b) = ap (option_map (λ t. fun_type v.1 t)) (type_under (v ∷ env) b)

-- and outside all binders too
pub type_outside : (t : Named) → nameless_type [] (nameless [] t) ≡ named_type t
type_outside t = type_under [] t
