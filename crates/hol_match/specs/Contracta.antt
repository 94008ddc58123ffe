-- What rules make of a term: an instance of the right side of the first rule whose left side matches it.
-- Source: term rewriting, as HOL Light's REWR_CONV has it (simp.ml); that the first rule counts is this project's.
--
-- What follows from the definitions, in the cases that are easily taken for another:
-- - A variable that stays (it is free in a hypothesis) is met by itself alone. Where a binder above the term has its name and type, the
--   term has an index in its place, and the two are not equal. What the rule's right side has of such variables is free in the result,
--   whatever is bound above.
-- - A left side that is a pattern variable matches each term of a type that its type matches, T and the term that the rule gave too.
-- - A pattern `\x. t x` matches an abstraction whose body is an application to the bound variable, which isn't in the function. Nothing is
--   matched after eta or beta: `t x`, t a pattern variable, matches applications alone.
-- - Where several rules match, the first one counts, though a later one fits more closely.
use Rattle.std.specs.Prelude.{◌≡◌, List, [], ◌∷◌, Option, None}
use Rattle.std.specs.Option.{option_map, option_or}
use Rattle.hol_types.specs.Tree.{TypeTree}
use Rattle.hol_terms.specs.Nameless.{Nameless, free, bound, fixed, app, lam}
use Rattle.hol_match.specs.Instance.{instantiated}
use Rattle.hol_match.specs.RuleSets.{RuleEntry, fit_under}

-- what the rule makes of a term under binders of the types env, the innermost first
abbrev pub contracted : List TypeTree → RuleEntry → Nameless → Option Nameless
contracted env e t = option_map (λ a. instantiated a 0 e.rule.right) (fit_under env e t)

-- what the first rule that matches the term makes of it
abbrev pub contractum : List TypeTree → List RuleEntry → Nameless → Option Nameless
contractum env [] t = None
contractum env (e ∷ es) t = option_or (contracted env e t) (contractum env es t)

-- what the rules make of each term
abbrev pub contracta : List RuleEntry → List TypeTree → Nameless → Option Nameless
contracta rules env t = contractum env rules t

-- ---- terms that no rule matches anywhere

-- no rule matches the term, whatever binders it stands under
abbrev pub MakeNothing : List RuleEntry → Nameless → Type 0
MakeNothing rules t = (env : List TypeTree) → contractum env rules t ≡ None

-- nor any part of it
abbrev pub HasNoRedex : List RuleEntry → Nameless → Type 0
HasNoRedex rules (free v) = MakeNothing rules (free v)
HasNoRedex rules (bound i) = MakeNothing rules (bound i)
HasNoRedex rules (fixed c s) = MakeNothing rules (fixed c s)
HasNoRedex rules (app f x) = MakeNothing rules (app f x) × HasNoRedex rules f × HasNoRedex rules x
HasNoRedex rules (lam a s b) = MakeNothing rules (lam a s b) × HasNoRedex rules b
