-- Alpha equivalence. Two named terms are alpha equivalent where their nameless terms are equal but for base names.
-- Source: de Bruijn's form, where alpha equivalent terms are equal. HOL Light's fusion.ml has it as aconv.
use Rattle.std.specs.Prelude.{[], Bool, false, ◌&&◌, ◌==◌, bytes_eq}
use Rattle.hol_types.specs.Equal.{type_eq, variable_eq}
use Rattle.hol_terms.specs.Nameless.{Nameless, free, bound, fixed, app, lam}

-- the term with an empty name in place of each base name
abbrev pub strip : Nameless → Nameless
strip (free v) = free v
strip (bound i) = bound i
strip (fixed c s) = fixed c s
strip (app f x) = app (strip f) (strip x)
strip (lam a s b) = lam [] s (strip b)

-- the test whether the stripped terms are equal
abbrev pub alpha_eq : Nameless → Nameless → Bool
alpha_eq (free v) (free w) = variable_eq v w
alpha_eq (bound i) (bound j) = i == j
alpha_eq (fixed c s) (fixed d t) = bytes_eq c d && type_eq s t
alpha_eq (app f x) (app g y) = alpha_eq f g && alpha_eq x y
alpha_eq (lam a s b) (lam c t d) = type_eq s t && alpha_eq b d
alpha_eq _ _ = false
