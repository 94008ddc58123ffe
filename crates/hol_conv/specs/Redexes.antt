-- What the code takes for a redex, cited by private clauses alone.
use Rattle.std.specs.Prelude.{List, ℕ, Bool, false, not, Option, None}
use Rattle.hol_types.specs.Tree.{TypeTree}
use Rattle.hol_terms.specs.Nameless.{Nameless, free, bound, fixed, app, lam}
use Rattle.hol_match.specs.Apart.{IsApart}
use Rattle.hol_match.specs.Contracta.{contractum}
use Rattle.hol_match.specs.Outlines.{is_abstraction, rules_depth, rules_pass_over}
use Rattle.hol_match.specs.SetView.{set_rules}
use Rattle.hol_conv.specs.Beta.{reduct}
use Rattle.hol_conv.specs.declared.redexes.Redexes.{Redexes}
use Rattle.hol_conv.specs.declared.redexes.Redexes.TheVariants.{Beta, Rules}

-- what an application of an abstraction becomes
abbrev pub beta_contractum : Nameless → Option Nameless
beta_contractum (free v) = None
beta_contractum (bound i) = None
beta_contractum (fixed c s) = None
beta_contractum (app f x) = reduct f x
beta_contractum (lam a s b) = None

-- what a term under binders of the types env becomes, if it is a redex
abbrev pub contraction : Redexes → List TypeTree → Nameless → Option Nameless
contraction Beta = λ env n. beta_contractum n
contraction (Rules set) = λ env n. contractum env (set_rules set.now.rules.items) n

-- the variable may be bound above a redex
abbrev pub IsOutside : Redexes → List ℕ × TypeTree → Type 0
IsOutside Beta v = Unit {0}
IsOutside (Rules set) v = IsApart (set_rules set.now.rules.items) v

-- ---- terms of which only the outline and the type count

-- an application of an abstraction
abbrev pub is_applied_abstraction : Nameless → Bool
is_applied_abstraction (free v) = false
is_applied_abstraction (bound i) = false
is_applied_abstraction (fixed c s) = false
is_applied_abstraction (app f x) = is_abstraction f
is_applied_abstraction (lam a s b) = false

-- each left side is of another outline than the term, or a variable: then a compound term of the same outline and type is no redex, if
-- this term is none
abbrev pub passes_over : Redexes → Nameless → Bool
passes_over Beta n = not (is_applied_abstraction n)
passes_over (Rules set) n = rules_pass_over (set_rules set.now.rules.items) n

-- so many levels of the outline are looked at
abbrev pub depth : Redexes → ℕ
depth Beta = 2
depth (Rules set) = rules_depth (set_rules set.now.rules.items)
