-- Turns: a term is changed again and again, as long as a turn finds something to change.
-- Source: this project. HOL Light's rewriting and beta conversion have neither turns nor a limit on sizes.
use Rattle.std.specs.Prelude.{ℕ, zero, suc, List, [], ◌∷◌, cond, nat_lt, Option, Some, None}
use Rattle.std.specs.Option.{option_map, option_or}
use Rattle.hol_types.specs.Tree.{TypeTree}
use Rattle.hol_terms.specs.Nameless.{Nameless, free, bound, fixed, app, lam}
use Rattle.hol_terms.specs.Size.{term_size}

-- One turn: the term with its first redex in preorder replaced, itself, then in the function, then in the argument; in an abstraction's
-- body. What a part becomes under binders of the types env, if it is a redex, `contract` says.
abbrev pub turn : (List TypeTree → Nameless → Option Nameless) → List TypeTree → Nameless → Option Nameless
turn contract env (free v) = contract env (free v)
turn contract env (bound i) = contract env (bound i)
turn contract env (fixed c s) = contract env (fixed c s)
turn contract env (app f x) = option_or (contract env (app f x)) (option_or (option_map (λ g. app g x) (turn contract env f)) (option_map (λ y. app f y) (turn contract env x)))
turn contract env (lam a s b) = option_or (contract env (lam a s b)) (option_map (λ d. lam a s d) (turn contract (s ∷ env) b))

-- What comes of all turns: a term in which a turn finds nothing, and the turns that are left; or there is something to change and no turn
-- is left; or a turn made a term of over 20,000 nodes.
pub data Outcome : Type 0 where
  finished : Nameless → ℕ → Outcome
  limit : Outcome
  too_large : Outcome

-- the end, where the turn found nothing, and otherwise what `go` says of what the turn made
abbrev pub ended : Nameless → ℕ → (Nameless → Outcome) → Option Nameless → Outcome
ended t left go None = finished t left
ended t left go (Some u) = go u

abbrev pub all_turns : (Nameless → Option Nameless) → ℕ → Nameless → Outcome
all_turns turn zero t = ended t 0 (λ u. limit) (turn t)
all_turns turn (suc left) t = ended t (suc left) (λ u. cond (nat_lt 20000 (term_size [] u)) too_large (all_turns turn left u)) (turn t)
