-- What substitution in a named term looks at, cited by private contracts alone. Laws in proofs/ lead from here to nameless terms.
use Rattle.std.specs.Prelude.{◌≡◌, ℕ, ◌<◌, List, [], ◌∷◌, map, Bool, true, false, cond, not, ◌&&◌, ◌||◌, Some}
use Rattle.hol_types.specs.Tree.{TypeTree}
use Rattle.hol_types.specs.Equal.{variable_eq}
use Rattle.hol_terms.specs.Named.{Named, var, abs, named_type}
use Rattle.hol_terms.specs.Nameless.{Nameless, nameless}
use Rattle.hol_terms.specs.Scoped.{occurs_in}
use Rattle.hol_subst.specs.Substitution.{term_subst}
use Rattle.hol_subst.specs.Substituted.{IsSubstituted}
use Rattle.hol_terms.specs.Primes.{HasFewestPrimes}

-- pairs of a named term and a variable, with nameless terms
abbrev pub named_pairs : List (Named × (List ℕ × TypeTree)) → List (Nameless × (List ℕ × TypeTree))
named_pairs pairs = map (λ p. (nameless [] p.0, p.1)) pairs

-- the term of the first pair of the variable v, or other where there is none
abbrev pub given_or : List (Named × (List ℕ × TypeTree)) → List ℕ × TypeTree → Named → Named
given_or [] v other = other
given_or (p ∷ pairs) v other = cond (variable_eq p.1 v) p.0 (given_or pairs v other)

-- what stands for the variable v
abbrev pub given : List (Named × (List ℕ × TypeTree)) → List ℕ × TypeTree → Named
given pairs v = given_or pairs v (var v)

-- some pair is of the variable v
abbrev pub has_pair : List (Named × (List ℕ × TypeTree)) → List ℕ × TypeTree → Bool
has_pair [] v = false
has_pair (p ∷ pairs) v = variable_eq p.1 v || has_pair pairs v

-- each term has the type of its variable, and no two pairs are of one variable
abbrev pub Fit : List (Named × (List ℕ × TypeTree)) → Type 0
Fit [] = Unit {0}
Fit (p ∷ pairs) = (named_type p.0 ≡ Some p.1.1) × (has_pair pairs p.1 ≡ false) × Fit pairs

-- the variable of some pair is free in t
abbrev pub touches : List (Named × (List ℕ × TypeTree)) → Named → Bool
touches [] t = false
touches (p ∷ pairs) t = occurs_in p.1 t || touches pairs t

-- v is free in the term of a pair whose variable is free in b
abbrev pub comes_in : List (Named × (List ℕ × TypeTree)) → List ℕ × TypeTree → Named → Bool
comes_in [] v b = false
comes_in (p ∷ pairs) v b = (occurs_in v p.0 && occurs_in p.1 b) || comes_in pairs v b

-- v is free in b after the pairs, no two of one variable, are substituted there
abbrev pub is_taken : List (Named × (List ℕ × TypeTree)) → Named → List ℕ × TypeTree → Bool
is_taken pairs b v = (occurs_in v b && not (has_pair pairs v)) || comes_in pairs v b

-- u is v with the fewest primes more that are not taken
pub record IsRenaming (pairs : List (Named × (List ℕ × TypeTree))) (b : Named) (v u : List ℕ × TypeTree) : Type 0 where
  pub same_type : u.1 ≡ v.1
  pub name : HasFewestPrimes (λ a. is_taken pairs b (a, v.1) ≡ true) v.0 u.0

-- rest is what is left of the pairs in the body b of an abstraction over v: none of v, and those of the other variables of b
pub record IsRest (v : List ℕ × TypeTree) (b : Named) (pairs rest : List (Named × (List ℕ × TypeTree))) : Type 0 where
  pub own : has_pair rest v ≡ false
  pub others : (w : List ℕ × TypeTree) → variable_eq v w ≡ false → occurs_in w b ≡ true → given rest w ≡ given pairs w
  pub fit : Fit pairs → Fit rest

-- r is t with the terms of the pairs for its free variables
pub record IsResult (pairs : List (Named × (List ℕ × TypeTree))) (t r : Named) : Type 0 where
  pub terms : nameless [] r ≡ term_subst (named_pairs pairs) 0 (nameless [] t)
  pub names : IsSubstituted (λ v. given pairs v) (λ s. s) t r

-- in the body b of an abstraction over v the substitution of pairs goes on with inner, and u is bound in the place of v
pub record IsEntry (pairs : List (Named × (List ℕ × TypeTree))) (v : List ℕ × TypeTree) (b : Named) (u : List ℕ × TypeTree) (inner : List (Named × (List ℕ × TypeTree))) : Type 0 where
  pub fit : Fit inner
  pub gives : (r : Named) → IsResult inner b r → IsResult pairs (abs v b) (abs u r)
