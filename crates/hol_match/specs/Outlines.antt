-- What of a term is seen without its variables and types: where applications, abstractions and constants of which names stand.
-- Source: this project; HOL Light's nets.ml sorts rules by outlines too.
use Rattle.std.specs.Prelude.{◌≡◌, ℕ, zero, suc, max, List, [], ◌∷◌, Bool, true, false, ◌&&◌, ◌||◌, not, bytes_eq, nat_lt}
use Rattle.std.specs.List.{list_any}
use Rattle.hol_terms.specs.Nameless.{Nameless, free, bound, fixed, app, lam}
use Rattle.hol_terms.specs.Size.{term_size}
use Rattle.hol_match.specs.RuleSets.{RuleEntry}

-- the term is a constant of this name
abbrev pub is_named : List ℕ → Nameless → Bool
is_named c (free v) = false
is_named c (bound i) = false
is_named c (fixed d s) = bytes_eq c d
is_named c (app f x) = false
is_named c (lam a s b) = false

abbrev pub is_abstraction : Nameless → Bool
is_abstraction (free v) = false
is_abstraction (bound i) = false
is_abstraction (fixed c s) = false
is_abstraction (app f x) = false
is_abstraction (lam a s b) = true

-- where the pattern is a constant, the term is one of its name; where it is an application, so is the term, and its parts may match;
-- where it is an abstraction, so is the term
abbrev pub may_match : Nameless → Nameless → Bool
may_match (free v) t = true
may_match (bound i) t = true
may_match (fixed c s) t = is_named c t
may_match (app p q) (free v) = false
may_match (app p q) (bound i) = false
may_match (app p q) (fixed c s) = false
may_match (app p q) (app f x) = may_match p f && may_match q x
may_match (app p q) (lam a s b) = false
may_match (lam a s b) t = is_abstraction t

-- ---- how deep a term is looked at

-- so many levels of a term are looked at, where this is the pattern
abbrev pub depth : Nameless → ℕ
depth (free v) = 1
depth (bound i) = 1
depth (fixed c s) = 1
depth (app p q) = suc (max (depth p) (depth q))
depth (lam a s b) = 1

-- and where these are the rules
abbrev pub rules_depth : List RuleEntry → ℕ
rules_depth [] = 1
rules_depth (e ∷ es) = max (depth e.rule.left) (rules_depth es)

-- one of the left sides has more than 20,000 nodes
abbrev pub has_large_side : List RuleEntry → Bool
has_large_side rules = list_any (λ e. nat_lt 20000 (term_size [] e.rule.left)) rules

-- the terms are equal but for what lies so many levels deep, and an abstraction may be any other one
abbrev pub AreAlike : ℕ → Nameless → Nameless → Type 0
AreAlike zero t u = Unit {0}
AreAlike (suc k) (free v) u = u ≡ free v
AreAlike (suc k) (bound i) u = u ≡ bound i
AreAlike (suc k) (fixed c s) u = u ≡ fixed c s
AreAlike (suc k) (app f x) u = (g : Nameless) × (y : Nameless) × (u ≡ app g y) × AreAlike k f g × AreAlike k x y
AreAlike (suc k) (lam a s b) u = is_abstraction u ≡ true

-- ---- terms that are passed over

abbrev pub is_variable : Nameless → Bool
is_variable (free v) = true
is_variable (bound i) = false
is_variable (fixed c s) = false
is_variable (app f x) = false
is_variable (lam a s b) = false

-- each rule's left side is a variable, or of another outline than the term
abbrev pub rules_pass_over : List RuleEntry → Nameless → Bool
rules_pass_over [] t = true
rules_pass_over (e ∷ es) t = (is_variable e.rule.left || not (may_match e.rule.left t)) && rules_pass_over es t
