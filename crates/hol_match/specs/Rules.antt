-- The rules of a theorem, by which terms are rewritten.
-- Source: this project. HOL Light's simp.ml (mk_rewrites) takes a theorem apart in the same way; conditions and orders are left out here.
use Rattle.std.specs.Prelude.{ℕ, zero, suc, ◌+◌, List, [], ◌∷◌, ◌++◌, Bool, cond, not, ◌&&◌, ◌||◌, Option, Some, None, unwrap_or}
use Rattle.std.specs.Option.{option_and_then}
use Rattle.std.specs.List.{list_all, filter}
use Rattle.hol_types.specs.Tree.{TypeTree}
use Rattle.hol_types.specs.Names.{is_among}
use Rattle.hol_terms.specs.Nameless.{Nameless, free, bound, fixed, app, lam, free_occurrences, base_of}
use Rattle.hol_terms.specs.Scoped.{binds, add_all}
use Rattle.hol_subst.specs.TermTyvars.{term_tyvars}
use Rattle.hol_subst.specs.Closing.{close, open_with}
use Rattle.hol_formulas.specs.Equation.{Sides, dest_eq}
use Rattle.hol_formulas.specs.Formula.{Abstraction, truth, falsity, universal, dest_forall, dest_conj, dest_neg}
use Rattle.hol_match.specs.Fixed.{fixed_names, fixed_variables}
use Rattle.hol_match.specs.FreeNames.{free_name}

-- the left side is rewritten to the right side
pub record RuleValue : Type 0 where
  pub left : Nameless
  pub right : Nameless

abbrev pub rule : Nameless → Nameless → RuleValue
rule l r = record { left = l; right = r }

-- ---- one rule, beside hypotheses with these type variables and free variables, which stay

-- the variable stays, or is in l, so that a match of l says what it becomes
abbrev pub is_given : List (List ℕ × TypeTree) → Nameless → List ℕ × TypeTree → Bool
is_given variables l v = binds variables v || binds (free_occurrences l) v

-- the same of a type variable
abbrev pub is_type_given : List (List ℕ) → Nameless → List ℕ → Bool
is_type_given names l a = is_among names a || is_among (term_tyvars l) a

-- each pattern variable of r, for a term or a type, is in l
abbrev pub is_determined : List (List ℕ) → List (List ℕ × TypeTree) → Nameless → Nameless → Bool
is_determined names variables l r = list_all (is_given variables l) (add_all [] (free_occurrences r)) && list_all (is_type_given names l) (term_tyvars r)

-- an equation rewrites its left side to its right side
abbrev pub equation_rule : List (List ℕ) → List (List ℕ × TypeTree) → Sides → Option RuleValue
equation_rule names variables s = cond (is_determined names variables s.left s.right) (Some (rule s.left s.right)) None

-- ~q rewrites q to F, where p is such a negation, and all else rewrites to T
abbrev pub statement_rule : Option Nameless → Nameless → RuleValue
statement_rule None p = rule p truth
statement_rule (Some q) p = rule q falsity

abbrev pub single_rule : List (List ℕ) → List (List ℕ × TypeTree) → Nameless → RuleValue
single_rule names variables p = unwrap_or (option_and_then (equation_rule names variables) (dest_eq p)) (statement_rule (dest_neg p) p)

-- ---- all rules

-- the variable of x, called by its base name with the fewest primes that make it the name of no free variable and no constant of the terms
abbrev pub apart : List Nameless → Abstraction → List ℕ × TypeTree
apart avoid x = (free_name avoid x.base, x.domain)

-- the body at it
abbrev pub body_apart : List Nameless → Abstraction → Nameless
body_apart avoid x = open_with (free (apart avoid x)) 0 x.body

-- the rules of p beside hypotheses: those of what it quantifies over, or of its parts in order, or its own
abbrev pub rules_by : (Nameless → List RuleValue) → List Nameless → Nameless → Option Abstraction → Option (Nameless × Nameless) → List RuleValue
rules_by f hyps p (Some x) parts = f (body_apart (p ∷ hyps) x)
rules_by f hyps p None (Some q) = f q.0 ++ f q.1
rules_by f hyps p None None = single_rule (fixed_names [] hyps) (fixed_variables [] hyps) p ∷ []

-- in at most so many steps
abbrev pub rules_in : ℕ → List Nameless → Nameless → List RuleValue
rules_in zero hyps p = []
rules_in (suc n) hyps p = rules_by (λ q. rules_in n hyps q) hyps p (dest_forall p) (dest_conj p)

-- variables, constants, applications and abstractions
abbrev pub nodes : Nameless → ℕ
nodes (free v) = 1
nodes (bound i) = 1
nodes (fixed c s) = 1
nodes (app f x) = 1 + nodes f + nodes x
nodes (lam a s b) = 1 + nodes b

-- The rules of p, where all pattern variables of p are bound by its outer quantifiers: these are taken off, and conjunctions give the
-- rules of their parts, both repeatedly. No more steps are needed than p has nodes: RuleLaws.antt.
abbrev pub rules_under : List Nameless → Nameless → List RuleValue
rules_under hyps p = rules_in (nodes p) hyps p

-- p, generalized over each of the variables in turn, as by GEN: the last is outermost
abbrev pub generalized : List (List ℕ × TypeTree) → Nameless → Nameless
generalized [] p = p
generalized (v ∷ vs) p = generalized vs (universal (record { base = base_of v.0; domain = v.1; body = close v 0 p }))

-- the free variables of the conclusion that are none of the hypotheses'
abbrev pub pattern_variables : List (List ℕ × TypeTree) → Nameless → List (List ℕ × TypeTree)
pattern_variables variables p = filter (λ v. not (binds variables v)) (add_all [] (free_occurrences p))

-- the rules of a theorem are those of its conclusion, generalized over the variables that may be instantiated
abbrev pub rules_of : List Nameless → Nameless → List RuleValue
rules_of hyps p = rules_under hyps (generalized (pattern_variables (fixed_variables [] hyps) p) p)
