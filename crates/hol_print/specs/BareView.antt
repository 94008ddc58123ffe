-- The nameless term that a bare term of the code stands for. Private contracts cite it.
use Rattle.std.specs.Prelude.{ℕ, ◌+◌}
use Rattle.hol_print.specs.declared.bare.Bare.{Bare, Free, Bound, Constant, App', Lam'}
use Rattle.hol_terms.specs.Nameless.{Nameless, free, bound, fixed, app, lam, base_of}

abbrev pub bare_of : Bare → Nameless
bare_of (Free v) = free v.now
bare_of (Bound i) = bound i
bare_of (Constant c s) = fixed c.now s.now
bare_of (App' p f q x) = app (bare_of f) (bare_of x)
bare_of (Lam' v p b) = lam (base_of v.now.0) v.now.1 (bare_of b)

-- the number of nodes
abbrev pub nodes : Nameless → ℕ
nodes (free v) = 1
nodes (bound i) = 1
nodes (fixed c s) = 1
nodes (app f x) = 1 + nodes f + nodes x
nodes (lam a s b) = 1 + nodes b
