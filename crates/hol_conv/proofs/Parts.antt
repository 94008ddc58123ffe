-- The parts of terms, and bodies of abstractions with a variable that may be bound above a redex.
use Rattle.std.proofs.Common.{◌≡◌, ℕ, ◌+◌, List, [], ◌∷◌, refl, ap, sym, ◌∙◌, Bool, true, false, cond, Some, None, arith}
use Rattle.hol_types.specs.Tree.{TypeTree}
use Rattle.hol_types.specs.Equal.{variable_eq}
use Rattle.hol_terms.specs.Named.{Named, var, constant, comb, abs, named_type, term_nodes}
use Rattle.hol_terms.specs.Nameless.{Nameless, free, bound, fixed, app, lam, nameless, base_of, place}
use Rattle.hol_subst.specs.Closing.{close}
use Rattle.hol_subst.proofs.Closing.{close_under}

abbrev Var : Type 0
Var = List ℕ × TypeTree

-- ---- the body of an abstraction, with a variable that may be bound above a redex
pub body_same : (v w : Var) (b c : Named) → nameless [] (abs w c) ≡ nameless [] (abs v b) → nameless (v ∷ []) b ≡ close w 0 (nameless [] c)
body_same v w b c e = let f : nameless (w ∷ []) c ≡ nameless (v ∷ []) b = cc in sym f ∙ close_under [] w c

-- another body under the variable
pub rebuilt : (v w : Var) (b c d : Named) → nameless [] (abs w c) ≡ nameless [] (abs v b) → lam (base_of v.0) v.1 (close w 0 (nameless [] d)) ≡ nameless [] (abs w d)
rebuilt v w b c d e =
    let base : base_of w.0 ≡ base_of v.0 = cc in
    let domain : w.1 ≡ v.1 = cc in
    λ i. lam (sym base i) (sym domain i) (sym (close_under [] w d) i)

pub domain_same : (v w : Var) (b c : Named) → nameless [] (abs w c) ≡ nameless [] (abs v b) → w.1 ≡ v.1
domain_same v w b c e = let f : w.1 ≡ v.1 = cc in f

-- ---- nodes
abbrev nodes : Nameless → ℕ
nodes (free v) = 1
nodes (bound i) = 1
nodes (fixed c s) = 1
nodes (app f x) = 1 + nodes f + nodes x
nodes (lam a s b) = 1 + nodes b

place_nodes : (env : List Var) (i : ℕ) (v : Var) → nodes (place env i v) ≡ 1
place_nodes [] i v = refl
place_nodes (u ∷ env) i v = by (variable_eq u v) (place_nodes env (i + 1) v)
  where
    by : (c : Bool) → nodes (place env (i + 1) v) ≡ 1 → nodes (cond c (bound i) (place env (i + 1) v)) ≡ 1
    by true e = refl
    by false e = e

nodes_are : (env : List Var) (t : Named) → nodes (nameless env t) ≡ term_nodes t
nodes_are env (var v) = place_nodes env 0 v
nodes_are env (constant c s) = refl
nodes_are env (comb f x) = λ i. 1 + nodes_are env f i + nodes_are env x i
nodes_are env (abs v b) = λ i. 1 + nodes_are (v ∷ env) b i

pub nodes_of_body : (v w : List ℕ × TypeTree) (b c : Named) → nameless [] (abs w c) ≡ nameless [] (abs v b) → term_nodes c ≡ term_nodes b
nodes_of_body v w b c h =
    let same : 1 + term_nodes c ≡ 1 + term_nodes b = sym (nodes_are [] (abs w c)) ∙ ap nodes h ∙ nodes_are [] (abs v b) in
    omega (arith, same)

-- ---- types
pub fits_itself : (f x t : Named) (s : TypeTree) → t ≡ comb f x → named_type t ≡ Some s → named_type (comb f x) ≡ None → ⊥
fits_itself f x t s e h n = let no : Some s ≡ None = sym h ∙ ap named_type e ∙ n in absurd (cc)
