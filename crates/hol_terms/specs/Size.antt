-- The size of a term: a variable, also a bound occurrence, or a constant counts 1 and its type's nodes, an application 1 and both
-- parts, an abstraction 1, the nodes of the bound variable's type, and the body.
use Rattle.std.specs.Prelude.{ℕ, ◌+◌, List, ◌∷◌, Option, Some, None, slice_get}
use Rattle.hol_types.specs.Tree.{TypeTree, type_size}
use Rattle.hol_terms.specs.Named.{Named, var, constant, comb, abs}
use Rattle.hol_terms.specs.Nameless.{Nameless, free, bound, fixed, app, lam}

-- the nodes of the type, if there is one
abbrev pub size_at : Option TypeTree → ℕ
size_at None = 0
size_at (Some s) = type_size s

-- of a nameless term under binders of the types env, the innermost first
abbrev pub term_size : List TypeTree → Nameless → ℕ
term_size env (free v) = 1 + type_size v.1
term_size env (bound i) = 1 + size_at (slice_get env i)
term_size env (fixed c s) = 1 + type_size s
term_size env (app f x) = 1 + term_size env f + term_size env x
term_size env (lam a s b) = 1 + type_size s + term_size (s ∷ env) b

-- the same of a named term
abbrev pub named_size : Named → ℕ
named_size (var v) = 1 + type_size v.1
named_size (constant c s) = 1 + type_size s
named_size (comb f x) = 1 + named_size f + named_size x
named_size (abs v b) = 1 + type_size v.1 + named_size b
