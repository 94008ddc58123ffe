-- Which constants occur in a term, by name.
-- Source: this project.
use Rattle.std.specs.Prelude.{◌||◌, ℕ, List, Bool, false, bytes_eq}
use Rattle.hol_terms.specs.Nameless.{Nameless, free, bound, fixed, app, lam}

abbrev pub constant_occurs : List ℕ → Nameless → Bool
constant_occurs name (free v) = false
constant_occurs name (bound i) = false
constant_occurs name (fixed c a) = bytes_eq name c
constant_occurs name (app f x) = constant_occurs name f || constant_occurs name x
constant_occurs name (lam base a b) = constant_occurs name b
