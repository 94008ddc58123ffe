-- No free variable has a longer name than the longest, so adding primes comes to an end.
use Rattle.std.proofs.Common.{◌≡◌, ℕ, ◌≤◌, List, [], ◌∷◌, ◌++◌, length, max, Bool, true, false, ◌||◌, refl, ap, sym, ◌∙◌, arith}
use Rattle.hol_types.specs.Tree.{TypeTree}
use Rattle.hol_types.specs.Equal.{variable_eq}
use Rattle.hol_terms.specs.Nameless.{Nameless, free_occurrences}
use Rattle.hol_terms.specs.Scoped.{binds}
use Rattle.hol_terms.proofs.Primes.{IsTried, tried_more}
use Rattle.hol_terms.proofs.Same.{variable_eq_decides}
use Rattle.hol_subst.specs.Variant.{is_free_in}

abbrev Var : Type 0
Var = List ℕ × TypeTree

-- the length of the longest name
abbrev pub longest : List (List ℕ × TypeTree) → ℕ
longest [] = 0
longest (v ∷ vs) = max (length v.0) (longest vs)

abbrev pub longest_in : List Nameless → ℕ
longest_in [] = 0
longest_in (n ∷ ns) = max (longest (free_occurrences n)) (longest_in ns)

pub binds_short : (vs : List Var) (u : Var) → binds vs u ≡ true → length u.0 ≤ longest vs
binds_short [] u e = absurd (cc)
binds_short (v ∷ vs) u e = by (variable_eq v u) refl e (binds_short vs u)
  where
    by : (b : Bool) → variable_eq v u ≡ b → (b || binds vs u) ≡ true → (binds vs u ≡ true → length u.0 ≤ longest vs) → length u.0 ≤ max (length v.0) (longest vs)
    by true q g r = let p : length v.0 ≡ length u.0 = ap (λ x. length x.0) ((variable_eq_decides v u).0 q) in omega arith
    by false q g r = let p : length u.0 ≤ longest vs = r g in omega arith

pub free_short : (ns : List Nameless) (u : Var) → is_free_in ns u ≡ true → length u.0 ≤ longest_in ns
free_short [] u e = absurd (cc)
free_short (n ∷ ns) u e = by (binds (free_occurrences n) u) refl e (free_short ns u)
  where
    by : (b : Bool) → binds (free_occurrences n) u ≡ b → (b || is_free_in ns u) ≡ true → (is_free_in ns u ≡ true → length u.0 ≤ longest_in ns) → length u.0 ≤ max (longest (free_occurrences n)) (longest_in ns)
    by true q g r = let p : length u.0 ≤ longest (free_occurrences n) = binds_short (free_occurrences n) u q in omega arith
    by false q g r = let p : length u.0 ≤ longest_in ns = r g in omega arith

-- one prime more on a variable whose name is taken
pub tried_variable : (taken : List ℕ × TypeTree → Bool) (v c w : List ℕ × TypeTree) → c.1 ≡ v.1 → IsTried (λ a. taken (a, v.1) ≡ true) v.0 c.0 → taken c ≡ true → w ≡ (c.0 ++ 39 ∷ [], c.1) → IsTried (λ a. taken (a, v.1) ≡ true) v.0 w.0
tried_variable taken v c w t h o e = tried_more (λ a. taken (a, v.1) ≡ true) v.0 c.0 w.0 h (ap (λ s. taken (c.0, s)) (sym t) ∙ o) (ap (λ u. u.0) e)
