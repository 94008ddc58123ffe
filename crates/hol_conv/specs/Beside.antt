-- What the code counts in place of the whole term, cited by private clauses alone: the nodes beside a part, up to 20,001.
use Rattle.std.specs.Prelude.{ℕ, zero, suc, ◌+◌, List, ◌∷◌, cond, nat_lt, min, Option, Some, None}
use Rattle.hol_types.specs.Tree.{TypeTree, type_size}
use Rattle.hol_terms.specs.Nameless.{Nameless, free, bound, fixed, app, lam}
use Rattle.hol_terms.specs.Size.{term_size}
use Rattle.hol_conv.specs.Turns.{Outcome, finished, limit, too_large}
use Rattle.hol_conv.specs.Once.{and_then}

-- one node more and those of a part
abbrev pub beside : ℕ → ℕ → ℕ
beside outside nodes = min (outside + (1 + min nodes 20001)) 20001

-- the turn in which a part becomes u
abbrev pub paid_beside : List TypeTree → ℕ → ℕ → Nameless → Outcome
paid_beside env outside zero u = limit
paid_beside env outside (suc left) u = cond (nat_lt 20000 (outside + term_size env u)) too_large (finished u left)

abbrev pub paid_beside_or : List TypeTree → ℕ → ℕ → Outcome → Option Nameless → Outcome
paid_beside_or env outside left parts None = parts
paid_beside_or env outside left parts (Some u) = paid_beside env outside left u

-- what the topmost redexes of a part come to
abbrev pub once_beside : (List TypeTree → Nameless → Option Nameless) → List TypeTree → ℕ → ℕ → Nameless → Outcome
once_beside contract env outside left (free v) = paid_beside_or env outside left (finished (free v) left) (contract env (free v))
once_beside contract env outside left (bound i) = paid_beside_or env outside left (finished (bound i) left) (contract env (bound i))
once_beside contract env outside left (fixed c s) = paid_beside_or env outside left (finished (fixed c s) left) (contract env (fixed c s))
once_beside contract env outside left (app f x) =
    paid_beside_or env outside left
    (and_then (λ g more. and_then (λ y rest. finished (app g y) rest) (once_beside contract env (beside outside (term_size env g)) more x)) (once_beside contract env (beside outside (term_size env x)) left f))
    (contract env (app f x))
once_beside contract env outside left (lam a s b) =
    paid_beside_or env outside left
    (and_then (λ d rest. finished (lam a s d) rest) (once_beside contract (s ∷ env) (beside outside (type_size s)) left b))
    (contract env (lam a s b))

-- the same, where the part itself is no redex
abbrev pub inner_once : (List TypeTree → Nameless → Option Nameless) → List TypeTree → ℕ → ℕ → Nameless → Outcome
inner_once contract env outside left (free v) = finished (free v) left
inner_once contract env outside left (bound i) = finished (bound i) left
inner_once contract env outside left (fixed c s) = finished (fixed c s) left
inner_once contract env outside left (app f x) = and_then (λ g more. and_then (λ y rest. finished (app g y) rest) (once_beside contract env (beside outside (term_size env g)) more x)) (once_beside contract env (beside outside (term_size env x)) left f)
inner_once contract env outside left (lam a s b) = and_then (λ d rest. finished (lam a s d) rest) (once_beside contract (s ∷ env) (beside outside (type_size s)) left b)
