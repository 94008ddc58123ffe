-- Rules in buckets by the constants at the heads of their left sides, so that a term is tried with those of its head's bucket, and with those of
-- bucket 0, where all without a head are. In loose buckets a variable that stays counts as a head too, and no rule is there of whose left side
-- all stays: it matches what is that side up to bound names alone, so it is found by the order of terms. Only private clauses speak of these.
-- Source: this project.
use Rattle.std.specs.Prelude.{ℕ, zero, suc, ◌+◌, ◌*◌, ◌%◌, List, [], ◌∷◌, map, Bool, true, false, cond, not, ◌&&◌, ◌||◌, nat_eq, nat_lt, Option, Some, None}
use Rattle.std.specs.Ordering.{is_eq}
use Rattle.hol_types.specs.Tree.{TypeTree}
use Rattle.hol_terms.specs.Nameless.{Nameless, free, bound, fixed, app, lam}
use Rattle.hol_subst.specs.AlphaOrder.{alpha_cmp}
use Rattle.hol_match.specs.Fixed.{all_stay}
use Rattle.hol_match.specs.Instance.{InstanceValue}
use Rattle.hol_match.specs.RuleSets.{RuleEntry, fit, or_later}
use Rattle.hol_match.specs.Outlines.{is_variable, may_match}

-- the number of a name of whose bytes those before these gave n
abbrev pub name_number : ℕ → List ℕ → ℕ
name_number n [] = n
name_number n (x ∷ xs) = name_number ((31 * n + x) % 16777216) xs

-- the bucket, of m, of the constant at the term's head, or of the variable there if that is known, if it has at most k arguments
abbrev pub head_bucket : (List ℕ × TypeTree → Bool) → ℕ → Nameless → ℕ → ℕ
head_bucket known m (free v) k = cond (known v) (name_number 0 v.0 % m) 0
head_bucket known m (bound i) k = 0
head_bucket known m (fixed c s) k = name_number 0 c % m
head_bucket known m (app f x) zero = 0
head_bucket known m (app f x) (suc k) = head_bucket known m f k
head_bucket known m (lam a s b) k = 0

abbrev pub bucket_of : (List ℕ × TypeTree → Bool) → ℕ → Nameless → ℕ
bucket_of known m t = head_bucket known m t 16

-- all of the rule's left side stays
abbrev pub is_settled : RuleEntry → Bool
is_settled e = all_stay (map (λ p. p.1) e.stays.types) (map (λ p. p.1) e.stays.terms) e.rule.left

-- the rule is in a bucket: in the loose ones are only those of which something doesn't stay
abbrev pub is_bucketed : Bool → RuleEntry → Bool
is_bucketed loose e = not (loose && is_settled e)

-- the variable stays in the rule, with its type variables
abbrev pub stays_in : RuleEntry → List ℕ × TypeTree → Bool
stays_in e v = all_stay (map (λ p. p.1) e.stays.types) (map (λ p. p.1) e.stays.terms) (free v)

-- ---- the rules of one bucket

-- the bucket of a rule; in the loose buckets the variables that stay in it are known
abbrev pub rule_bucket : Bool → ℕ → RuleEntry → ℕ
rule_bucket loose m e = bucket_of (λ v. loose && stays_in e v) m e.rule.left

-- and that of what such a rule matches
abbrev pub term_bucket : Bool → ℕ → Nameless → ℕ
term_bucket loose m t = bucket_of (λ v. loose) m t

-- the rule is in bucket b, of m
abbrev pub is_in : Bool → ℕ → ℕ → RuleEntry → Bool
is_in loose m b e = is_bucketed loose e && nat_eq (rule_bucket loose m e) b

-- the number of the first of these rules that passes the test, the first of all having number i; the number after all where none does
abbrev pub next_in : (RuleEntry → Bool) → ℕ → List RuleEntry → ℕ
next_in test i [] = i
next_in test i (e ∷ es) = cond (test e) i (next_in test (i + 1) es)

-- the first rule that passes the test and matches the term, by its number
abbrev pub first_in : (RuleEntry → Bool) → ℕ → List RuleEntry → Nameless → Option (ℕ × InstanceValue)
first_in test i [] t = None
first_in test i (e ∷ es) t = or_later i (cond (test e) (fit e t) None) (first_in test (i + 1) es t)

-- each rule of the bucket has a variable for its left side, or another outline than the term
abbrev pub bucket_passes_over : ℕ → ℕ → List RuleEntry → Nameless → Bool
bucket_passes_over m b [] t = true
bucket_passes_over m b (e ∷ es) t = cond (is_in false m b e) (is_variable e.rule.left || not (may_match e.rule.left t)) true && bucket_passes_over m b es t

-- ---- the rules of which all stays

-- the number of the first one whose left side is the term up to bound names
abbrev pub first_settled : ℕ → List RuleEntry → Nameless → Option ℕ
first_settled i [] t = None
first_settled i (e ∷ es) t = cond (is_settled e && is_eq (alpha_cmp e.rule.left t)) (Some i) (first_settled (i + 1) es t)

-- of two rules that match, the one with the lower number
abbrev pub earlier : Option (ℕ × InstanceValue) → Option (ℕ × InstanceValue) → Option (ℕ × InstanceValue)
earlier None b = b
earlier (Some a) None = Some a
earlier (Some a) (Some b) = cond (nat_lt b.0 a.0) (Some b) (Some a)
