-- Substitution in named terms, with what becomes of bound variables.
-- Source: HOL Light's fusion.ml, vsubst and inst. Both take the name of a bound variable by `variant`, where it would capture a variable
-- that comes into its body, and keep it everywhere else.
use Rattle.std.specs.Prelude.{◌≡◌, ℕ, List, [], ◌∷◌, true, false, cond}
use Rattle.hol_types.specs.Tree.{TypeTree}
use Rattle.hol_types.specs.Subst.{type_subst}
use Rattle.hol_types.specs.Equal.{variable_eq}
use Rattle.hol_terms.specs.Named.{Named, var, constant, comb, abs}
use Rattle.hol_terms.specs.Primes.{HasFewestPrimes}
use Rattle.hol_terms.specs.Scoped.{occurs_in}
use Rattle.hol_subst.specs.Substitution.{variable_inst}

-- What stands for each variable is given by a function f. A binder u, which takes the place of a binder v of the body b, would capture
-- what stands for another free variable of the body.
pub record Captures (f : List ℕ × TypeTree → Named) (v : List ℕ × TypeTree) (b : Named) (u : List ℕ × TypeTree) : Type 0 where
  pub other : List ℕ × TypeTree
  pub in_body : occurs_in other b ≡ true
  pub differs : variable_eq v other ≡ false
  pub comes : occurs_in u (f other) ≡ true

-- u is the binder that takes the place of v, at the type s: v's name with the fewest primes more that let it capture nothing. So it is v's
-- name where that captures nothing.
pub record IsBinder (f : List ℕ × TypeTree → Named) (v : List ℕ × TypeTree) (s : TypeTree) (b : Named) (u : List ℕ × TypeTree) : Type 0 where
  pub type_is : u.1 ≡ s
  pub name : HasFewestPrimes (λ a. Captures f v b (a, s)) v.0 u.0

-- u stands for v, and what f gives for all others
abbrev pub put : List ℕ × TypeTree → List ℕ × TypeTree → (List ℕ × TypeTree → Named) → List ℕ × TypeTree → Named
put v u f w = cond (variable_eq v w) (var u) (f w)

-- r is the named term with what f gives for its free variables, and what g gives for the types of its constants and bound variables
abbrev pub IsSubstituted : (List ℕ × TypeTree → Named) → (TypeTree → TypeTree) → Named → Named → Type 0
IsSubstituted f g (var v) r = r ≡ f v
IsSubstituted f g (constant c s) r = r ≡ constant c (g s)
IsSubstituted f g (comb s t) r = (p : Named) × (q : Named) × (r ≡ comb p q) × IsSubstituted f g s p × IsSubstituted f g t q
IsSubstituted f g (abs v b) r = (u : List ℕ × TypeTree) × (c : Named) × (r ≡ abs u c) × IsBinder f v (g v.1) b u × IsSubstituted (put v u f) g b c

-- t for the variable that u is, and other for the rest
abbrev pub named_at : Named → Named → Named → List ℕ × TypeTree → Named
named_at (var u) t other v = cond (variable_eq u v) t other
named_at (constant c s) t other v = other
named_at (comb f x) t other v = other
named_at (abs u b) t other v = other

-- the term of the first pair of the variable v, or v itself
abbrev pub named_for : List (Named × Named) → List ℕ × TypeTree → Named
named_for [] v = var v
named_for (p ∷ pairs) v = named_at p.1 p.0 (named_for pairs v) v

-- r is what vsubst makes of t by pairs of a term and a variable
abbrev pub IsVsubst : List (Named × Named) → Named → Named → Type 0
IsVsubst pairs t r = IsSubstituted (λ v. named_for pairs v) (λ s. s) t r

-- r is what inst makes of t by pairs of a type and the name of a type variable
abbrev pub IsInst : List (TypeTree × List ℕ) → Named → Named → Type 0
IsInst pairs t r = IsSubstituted (λ v. var (variable_inst pairs v)) (λ s. type_subst pairs s) t r
