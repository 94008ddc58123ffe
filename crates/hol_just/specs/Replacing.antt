-- Replacement of each occurrence of a term by another (HOL Light's basics.ml, subst). An occurrence is a subterm that equals the term up to bound names and none of
-- whose free variables is bound outside of it. In a nameless term such a variable is an index, so that the occurrences are the subterms that equal the term; and what
-- comes in keeps its free variables free.
use Rattle.std.specs.Prelude.{cond}
use Rattle.hol_terms.specs.Nameless.{Nameless, free, bound, fixed, app, lam}
use Rattle.hol_terms.specs.Alpha.{alpha_eq}

-- n with t for each s; an occurrence inside another goes with it
abbrev pub replace_each : Nameless → Nameless → Nameless → Nameless
replace_each s t (free v) = cond (alpha_eq (free v) s) t (free v)
replace_each s t (bound i) = bound i
replace_each s t (fixed c a) = cond (alpha_eq (fixed c a) s) t (fixed c a)
replace_each s t (app f x) = cond (alpha_eq (app f x) s) t (app (replace_each s t f) (replace_each s t x))
replace_each s t (lam a d b) = cond (alpha_eq (lam a d b) s) t (lam a d (replace_each s t b))
