-- Shifting of indices, so that a nameless term can be put under binders.
-- Source: de Bruijn's form of terms (Indagationes Mathematicae 34, 1972).
use Rattle.std.specs.Prelude.{ℕ, ◌+◌, cond, nat_lt}
use Rattle.hol_terms.specs.Nameless.{Nameless, free, bound, fixed, app, lam}

-- each index from k on becomes n more: the term, of which k binders are passed, is put under n more
abbrev pub shift : ℕ → ℕ → Nameless → Nameless
shift n k (free v) = free v
shift n k (bound i) = bound (cond (nat_lt i k) i (i + n))
shift n k (fixed c s) = fixed c s
shift n k (app f x) = app (shift n k f) (shift n k x)
shift n k (lam a s b) = lam a s (shift n (k + 1) b)
