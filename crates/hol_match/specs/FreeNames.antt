-- Names for new free variables, as a function: a base with the fewest primes that make it the name of no free variable and no constant of some terms.
-- Source: as mk_primed_var of the HOL Light Reference Manual, where the constants of the terms alone count.
use Rattle.std.specs.Prelude.{ℕ, zero, suc, ◌+◌, List, [], ◌∷◌, ◌++◌, cond, codes}
use Rattle.hol_terms.specs.Nameless.{Nameless, free, bound, fixed, app, lam}
use Rattle.hol_subst.specs.FreeName.{is_taken}

-- how many free variables and constants occur
abbrev pub count_names : Nameless → ℕ
count_names (free v) = 1
count_names (bound i) = 0
count_names (fixed c s) = 1
count_names (app f x) = count_names f + count_names x
count_names (lam a s b) = count_names b

abbrev pub count_all : List Nameless → ℕ
count_all [] = 0
count_all (n ∷ avoid) = count_names n + count_all avoid

-- a with the fewest primes that make it a name that is not taken: at most n
abbrev pub untaken : List Nameless → ℕ → List ℕ → List ℕ
untaken avoid zero a = a
untaken avoid (suc n) a = cond (is_taken avoid a) (untaken avoid n (a ++ codes "'")) a

-- no more primes are needed than names occur
abbrev pub free_name : List Nameless → List ℕ → List ℕ
free_name avoid base = untaken avoid (count_all avoid) base
