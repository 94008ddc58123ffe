-- The rules of some theorems, each with the number of its theorem and its place among that theorem's rules, and the first one that fits a term.
-- Source: this project.
use Rattle.std.specs.Prelude.{◌≡◌, ℕ, ◌+◌, List, [], ◌∷◌, ◌++◌, length, drop, Option, Some, None, slice_get}
use Rattle.std.specs.Option.{option_map, option_or}
use Rattle.hol_types.specs.Tree.{TypeTree}
use Rattle.hol_terms.specs.Nameless.{Nameless, nameless_type}
use Rattle.hol_kernel.specs.Sequent.{Sequent}
use Rattle.hol_match.specs.Listed.{listed}
use Rattle.hol_match.specs.Instance.{InstanceValue, instance_of}
use Rattle.hol_match.specs.Fixed.{stays_of}
use Rattle.hol_match.specs.Matching.{matched_under}
use Rattle.hol_match.specs.Matches.{IsMatch}
use Rattle.hol_match.specs.Rules.{RuleValue, rules_of}

-- a rule, its theorem's number, its place among that theorem's rules, and what of its left side stays
pub record RuleEntry : Type 0 where
  pub rule : RuleValue
  pub theorem : ℕ
  pub place : ℕ
  pub stays : InstanceValue

-- both sides of the rule have one type
abbrev pub IsTypedRule : RuleValue → Type 0
IsTypedRule r = (s : TypeTree) × (nameless_type [] r.left ≡ Some s) × (nameless_type [] r.right ≡ Some s)

-- the rules of the theorem of number i, the first one at place k
abbrev pub entries : ℕ → ℕ → InstanceValue → List RuleValue → List RuleEntry
entries i k s [] = []
entries i k s (r ∷ rules) = record { rule = r; theorem = i; place = k; stays = s } ∷ entries i (k + 1) s rules

-- the rules of the sequents, in order, the first sequent having number i
abbrev pub rule_entries : ℕ → List Sequent → List RuleEntry
rule_entries i [] = []
rule_entries i (s ∷ sequents) = entries i 0 (stays_of (listed s.hyps)) (rules_of (listed s.hyps) s.concl) ++ rule_entries (i + 1) sequents

-- ---- the first rule that fits

-- what is found beside what stays
abbrev pub beside : InstanceValue → InstanceValue → InstanceValue
beside s q = instance_of (drop (length s.types) q.types) (drop (length s.terms) q.terms)

-- the match of the rule's left side with a term under binders of the types env
abbrev pub fit_under : List TypeTree → RuleEntry → Nameless → Option InstanceValue
fit_under env e t = option_map (beside e.stays) (matched_under env 0 e.rule.left e.stays t)

-- the same of a whole term
abbrev pub fit : RuleEntry → Nameless → Option InstanceValue
fit e t = fit_under [] e t

-- the match of the rule of number i, or else what a later rule gives
abbrev pub or_later : ℕ → Option InstanceValue → Option (ℕ × InstanceValue) → Option (ℕ × InstanceValue)
or_later i None later = later
or_later i (Some a) later = Some (i, a)

-- the number of the first rule that matches the term, and its match; the first rule has number i
abbrev pub first_fit : ℕ → List RuleEntry → Nameless → Option (ℕ × InstanceValue)
first_fit i [] t = None
first_fit i (e ∷ es) t = or_later i (fit e t) (first_fit (i + 1) es t)

-- the first rule whose left side matches a term under binders of the types env
abbrev pub first_entry : List RuleEntry → List TypeTree → Nameless → Option RuleEntry
first_entry [] env t = None
first_entry (e ∷ es) env t = option_or (option_map (λ a. e) (fit_under env e t)) (first_entry es env t)

-- the rule of number f.0 is there, its sides have one type, and f.1 is a match of its left side with the term
pub record IsFit (es : List RuleEntry) (t : Nameless) (f : ℕ × InstanceValue) : Type 0 where
  pub entry : RuleEntry
  pub is : slice_get es f.0 ≡ Some entry
  pub typed : IsTypedRule entry.rule
  pub matches : IsMatch entry.stays entry.rule.left t f.1
