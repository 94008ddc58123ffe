-- A term taken out from under binders: the inverse of shifting, which puts it under them.
-- Source: de Bruijn's form of terms (Indagationes Mathematicae 34, 1972).
use Rattle.std.specs.Prelude.{ℕ, ◌+◌, ◌-◌, cond, nat_lt, Option, Some, None}
use Rattle.std.specs.Option.{option_map, option_and_then}
use Rattle.hol_terms.specs.Nameless.{Nameless, free, bound, fixed, app, lam}

-- the index i, of which those from k on were n more, if it is none of the n
abbrev pub lowered_index : ℕ → ℕ → ℕ → Option Nameless
lowered_index n k i = cond (nat_lt i k) (Some (bound i)) (cond (nat_lt i (k + n)) None (Some (bound (i - n))))

-- the term that gives this one where its indices from k on become n more; none where a variable of the n binders stands in it
abbrev pub lowered : ℕ → ℕ → Nameless → Option Nameless
lowered n k (free v) = Some (free v)
lowered n k (bound i) = lowered_index n k i
lowered n k (fixed c s) = Some (fixed c s)
lowered n k (app f x) = option_and_then (λ g. option_map (λ y. app g y) (lowered n k x)) (lowered n k f)
lowered n k (lam a s b) = option_map (λ d. lam a s d) (lowered n (k + 1) b)
