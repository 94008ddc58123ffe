-- Binding a free variable by an abstraction, and taking an abstraction's body apart again.
-- Source: de Bruijn's form of terms, as in A. Charguéraud, The Locally Nameless Representation (Journal of Automated Reasoning 49, 2012).
use Rattle.std.specs.Prelude.{ℕ, ◌+◌, ◌-◌, List, cond, nat_lt, ◌==◌}
use Rattle.hol_types.specs.Tree.{TypeTree}
use Rattle.hol_types.specs.Equal.{variable_eq}
use Rattle.hol_terms.specs.Nameless.{Nameless, free, bound, fixed, app, lam, base_of}
use Rattle.hol_subst.specs.Shift.{shift}

-- the free variable v becomes the index k, where k binders are passed: the body of an abstraction over v, at k = 0
abbrev pub close : List ℕ × TypeTree → ℕ → Nameless → Nameless
close v k (free w) = cond (variable_eq v w) (bound k) (free w)
close v k (bound i) = bound (cond (nat_lt i k) i (i + 1))
close v k (fixed c s) = fixed c s
close v k (app f x) = app (close v k f) (close v k x)
close v k (lam a s b) = lam a s (close v (k + 1) b)

-- the index k becomes the term r, where k binders are passed: an abstraction's body applied to r, at k = 0
abbrev pub open_with : Nameless → ℕ → Nameless → Nameless
open_with r k (free w) = free w
open_with r k (bound i) = cond (nat_lt i k) (bound i) (cond (i == k) (shift k 0 r) (bound (i - 1)))
open_with r k (fixed c s) = fixed c s
open_with r k (app f x) = app (open_with r k f) (open_with r k x)
open_with r k (lam a s b) = lam a s (open_with r (k + 1) b)

-- the abstraction of v in n
abbrev pub bind : List ℕ × TypeTree → Nameless → Nameless
bind v n = lam (base_of v.0) v.1 (close v 0 n)
