-- Beta reduction, a redex a turn: an abstraction applied to a term becomes its body at that term.
-- Source: the lambda calculus, in de Bruijn's form (Indagationes Mathematicae 34, 1972), where HOL Light's equal.ml has BETA_CONV; the order is this project's.
use Rattle.std.specs.Prelude.{Option, Some, None}
use Rattle.std.specs.Option.{option_map, option_or}
use Rattle.hol_terms.specs.Nameless.{Nameless, free, bound, fixed, app, lam}
use Rattle.hol_subst.specs.Closing.{open_with}

-- what f applied to x becomes, where f is an abstraction
abbrev pub reduct : Nameless → Nameless → Option Nameless
reduct (free v) x = None
reduct (bound i) x = None
reduct (fixed c s) x = None
reduct (app f y) x = None
reduct (lam a s b) x = Some (open_with x 0 b)

-- the term with its first redex in preorder replaced: itself, then in the function, then in the argument; in an abstraction's body
abbrev pub beta_turn : Nameless → Option Nameless
beta_turn (free v) = None
beta_turn (bound i) = None
beta_turn (fixed c s) = None
beta_turn (app f x) = option_or (reduct f x) (option_or (option_map (λ g. app g x) (beta_turn f)) (option_map (λ y. app f y) (beta_turn x)))
beta_turn (lam a s b) = option_map (λ d. lam a s d) (beta_turn b)
