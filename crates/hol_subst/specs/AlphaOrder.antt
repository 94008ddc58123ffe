-- The order of terms: constants, then bound variables, free variables, applications and abstractions; within a kind the parts from the left.
-- Source: lexicographic order of finite trees in de Bruijn's form. HOL Light's fusion.ml has alphaorder for the same use, by OCaml's compare.
use Rattle.std.specs.Ordering.{nat_cmp, ordering_then}
use Rattle.std.specs.declared.cmp.Ordering.{Ordering}
use Rattle.std.specs.declared.cmp.Ordering.TheVariants.{Less, Greater}
use Rattle.hol_types.specs.Order.{name_cmp, type_cmp}
use Rattle.hol_terms.specs.Nameless.{Nameless, free, bound, fixed, app, lam}
use Rattle.hol_terms.specs.Alpha.{strip}

-- names by bytes, then types; of bound variables the inner before the outer; of an abstraction the type, then the body, then the base name
abbrev pub nameless_cmp : Nameless → Nameless → Ordering
nameless_cmp (fixed c s) (fixed d t) = ordering_then (name_cmp c d) (type_cmp s t)
nameless_cmp (fixed c s) (bound j) = Less
nameless_cmp (fixed c s) (free w) = Less
nameless_cmp (fixed c s) (app g y) = Less
nameless_cmp (fixed c s) (lam e t d) = Less
nameless_cmp (bound i) (fixed d t) = Greater
nameless_cmp (bound i) (bound j) = nat_cmp i j
nameless_cmp (bound i) (free w) = Less
nameless_cmp (bound i) (app g y) = Less
nameless_cmp (bound i) (lam e t d) = Less
nameless_cmp (free v) (fixed d t) = Greater
nameless_cmp (free v) (bound j) = Greater
nameless_cmp (free v) (free w) = ordering_then (name_cmp v.0 w.0) (type_cmp v.1 w.1)
nameless_cmp (free v) (app g y) = Less
nameless_cmp (free v) (lam e t d) = Less
nameless_cmp (app f x) (fixed d t) = Greater
nameless_cmp (app f x) (bound j) = Greater
nameless_cmp (app f x) (free w) = Greater
nameless_cmp (app f x) (app g y) = ordering_then (nameless_cmp f g) (nameless_cmp x y)
nameless_cmp (app f x) (lam e t d) = Less
nameless_cmp (lam a s b) (fixed d t) = Greater
nameless_cmp (lam a s b) (bound j) = Greater
nameless_cmp (lam a s b) (free w) = Greater
nameless_cmp (lam a s b) (app g y) = Greater
nameless_cmp (lam a s b) (lam e t d) = ordering_then (type_cmp s t) (ordering_then (nameless_cmp b d) (name_cmp a e))

-- the order up to bound names: base names are left out
abbrev pub alpha_cmp : Nameless → Nameless → Ordering
alpha_cmp s t = nameless_cmp (strip s) (strip t)
