-- Each topmost redex replaced once, in preorder. What a redex became is not searched again, nor is what stands above it.
-- Source: HOL Light's equal.ml, ONCE_DEPTH_CONV; the turns and the limit on sizes are this project's.
use Rattle.std.specs.Prelude.{◌≡◌, ℕ, zero, suc, ◌+◌, List, [], ◌∷◌, cond, nat_lt, Option, Some, None, unwrap_or}
use Rattle.std.specs.Option.{option_map}
use Rattle.hol_types.specs.Tree.{TypeTree}
use Rattle.hol_terms.specs.Nameless.{Nameless, free, bound, fixed, app, lam}
use Rattle.hol_terms.specs.Size.{term_size}
use Rattle.hol_match.specs.RuleSets.{RuleEntry}
use Rattle.hol_match.specs.Contracta.{contractum}
use Rattle.hol_conv.specs.Turns.{Outcome, finished, limit, too_large}

-- ---- without turns and sizes

-- the term under binders of the types env with each topmost redex replaced
abbrev pub topmost : (List TypeTree → Nameless → Option Nameless) → List TypeTree → Nameless → Nameless
topmost contract env (free v) = unwrap_or (contract env (free v)) (free v)
topmost contract env (bound i) = unwrap_or (contract env (bound i)) (bound i)
topmost contract env (fixed c s) = unwrap_or (contract env (fixed c s)) (fixed c s)
topmost contract env (app f x) = unwrap_or (contract env (app f x)) (app (topmost contract env f) (topmost contract env x))
topmost contract env (lam a s b) = unwrap_or (contract env (lam a s b)) (lam a s (topmost contract (s ∷ env) b))

-- how many topmost redexes it has
abbrev pub topmost_count : (List TypeTree → Nameless → Option Nameless) → List TypeTree → Nameless → ℕ
topmost_count contract env (free v) = unwrap_or (option_map (λ u. 1) (contract env (free v))) 0
topmost_count contract env (bound i) = unwrap_or (option_map (λ u. 1) (contract env (bound i))) 0
topmost_count contract env (fixed c s) = unwrap_or (option_map (λ u. 1) (contract env (fixed c s))) 0
topmost_count contract env (app f x) = unwrap_or (option_map (λ u. 1) (contract env (app f x))) (topmost_count contract env f + topmost_count contract env x)
topmost_count contract env (lam a s b) = unwrap_or (option_map (λ u. 1) (contract env (lam a s b))) (topmost_count contract (s ∷ env) b)

-- ---- a turn each

-- the turn in which a part becomes u, where so many turns are left: `whole` says what the whole term is then
abbrev pub paid : (Nameless → Nameless) → ℕ → Nameless → Outcome
paid whole zero u = limit
paid whole (suc left) u = cond (nat_lt 20000 (term_size [] (whole u))) too_large (finished u left)

-- the turn, where the part is a redex, and otherwise what its parts come to
abbrev pub paid_or : (Nameless → Nameless) → ℕ → Outcome → Option Nameless → Outcome
paid_or whole left parts None = parts
paid_or whole left parts (Some u) = paid whole left u

-- what comes after a part that came to an end
abbrev pub and_then : (Nameless → ℕ → Outcome) → Outcome → Outcome
and_then go (finished u left) = go u left
and_then go limit = limit
and_then go too_large = too_large

-- What the topmost redexes of a part come to, one after the other: in the function, then in the argument; in the body.
abbrev pub once : (List TypeTree → Nameless → Option Nameless) → List TypeTree → (Nameless → Nameless) → ℕ → Nameless → Outcome
once contract env whole left (free v) = paid_or whole left (finished (free v) left) (contract env (free v))
once contract env whole left (bound i) = paid_or whole left (finished (bound i) left) (contract env (bound i))
once contract env whole left (fixed c s) = paid_or whole left (finished (fixed c s) left) (contract env (fixed c s))
once contract env whole left (app f x) =
    paid_or whole left
    (and_then (λ g more. and_then (λ y rest. finished (app g y) rest) (once contract env (λ y. whole (app g y)) more x)) (once contract env (λ g. whole (app g x)) left f))
    (contract env (app f x))
once contract env whole left (lam a s b) =
    paid_or whole left
    (and_then (λ d rest. finished (lam a s d) rest) (once contract (s ∷ env) (λ d. whole (lam a s d)) left b))
    (contract env (lam a s b))

-- the same of a whole term and of rules
abbrev pub rewritten_once : List RuleEntry → ℕ → Nameless → Outcome
rewritten_once rules turns t = once (λ env n. contractum env rules n) [] (λ u. u) turns t

-- where it comes to an end, each topmost redex is replaced, and each has cost a turn
abbrev pub OnceReplacesTopmost : Type 0
OnceReplacesTopmost = (rules : List RuleEntry) (turns left : ℕ) (t u : Nameless) → rewritten_once rules turns t ≡ finished u left → (u ≡ topmost (λ env n. contractum env rules n) [] t) × (left + topmost_count (λ env n. contractum env rules n) [] t ≡ turns)
