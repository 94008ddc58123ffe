-- Nameless terms, in de Bruijn's form, and the nameless term of a named one.
-- Source: N. G. de Bruijn, Lambda calculus notation with nameless dummies (Indagationes Mathematicae 34, 1972), with types, constants
-- and free variables by name as in HOL Light's fusion.ml. Two terms with one nameless term but for base names are alpha equivalent.
use Rattle.std.specs.Prelude.{ℕ, ◌+◌, List, [], ◌∷◌, ◌++◌, cond, ◌==◌, Option, Some, slice_get}
use Rattle.std.specs.Option.{option_map, option_and_then}
use Rattle.hol_types.specs.Tree.{TypeTree}
use Rattle.hol_types.specs.Fun.{fun_type}
use Rattle.hol_types.specs.Equal.{variable_eq}
use Rattle.hol_terms.specs.Named.{Named, var, constant, comb, abs, applied_type}

-- Index i is the i-th enclosing abstraction, counted from the inside from 0. An abstraction keeps the base of its variable's name, which
-- says how the variable is to be called where the term is written.
pub data Nameless : Type 0 where
  free : List ℕ × TypeTree → Nameless
  bound : ℕ → Nameless
  fixed : List ℕ → TypeTree → Nameless
  app : Nameless → Nameless → Nameless
  lam : List ℕ → TypeTree → Nameless → Nameless

-- a name without the primes at its end
abbrev pub with_letter : ℕ → List ℕ → List ℕ
with_letter x [] = cond (x == 39) [] (x ∷ [])
with_letter x (y ∷ ys) = x ∷ y ∷ ys

abbrev pub base_of : List ℕ → List ℕ
base_of [] = []
base_of (x ∷ xs) = with_letter x (base_of xs)

-- what an occurrence of v stands for under the binders env, the innermost first, i of them passed already
abbrev pub place : List (List ℕ × TypeTree) → ℕ → List ℕ × TypeTree → Nameless
place [] i v = free v
place (u ∷ env) i v = cond (variable_eq u v) (bound i) (place env (i + 1) v)

abbrev pub nameless : List (List ℕ × TypeTree) → Named → Nameless
nameless env (var v) = place env 0 v
nameless env (constant c s) = fixed c s
nameless env (comb f x) = app (nameless env f) (nameless env x)
nameless env (abs v b) = lam (base_of v.0) v.1 (nameless (v ∷ env) b)

-- the free variables in the order of their occurrences
abbrev pub free_occurrences : Nameless → List (List ℕ × TypeTree)
free_occurrences (free v) = v ∷ []
free_occurrences (bound i) = []
free_occurrences (fixed c s) = []
free_occurrences (app f x) = free_occurrences f ++ free_occurrences x
free_occurrences (lam a s b) = free_occurrences b

-- the type of a nameless term under binders of the types env, if each application fits
abbrev pub nameless_type : List TypeTree → Nameless → Option TypeTree
nameless_type env (free v) = Some v.1
nameless_type env (bound i) = slice_get env i
nameless_type env (fixed c s) = Some s
nameless_type env (app f x) = option_and_then (λ s. option_and_then (λ t. applied_type s t) (nameless_type env x)) (nameless_type env f)
nameless_type env (lam a s b) = option_map (λ t. fun_type s t) (nameless_type (s ∷ env) b)
