-- Variables that can be bound above a redex: none of them is what a rule brings along. Private clauses and those of opened abstractions
-- speak of it.
use Rattle.std.specs.Prelude.{◌≡◌, ℕ, List, [], ◌∷◌, map, Bool, true, false, not, ◌&&◌, ◌||◌, bytes_eq}
use Rattle.hol_types.specs.Tree.{TypeTree}
use Rattle.hol_terms.specs.Nameless.{free_occurrences}
use Rattle.hol_terms.specs.Scoped.{binds, add_all}
use Rattle.hol_match.specs.Rules.{RuleValue}
use Rattle.hol_match.specs.RuleSets.{RuleEntry}

-- one of the variables has the name
abbrev pub is_named : List (List ℕ × TypeTree) → List ℕ → Bool
is_named [] a = false
is_named (v ∷ vs) a = bytes_eq v.0 a || is_named vs a

-- the variable stays in no rule, and its name is that of no variable of a right side
abbrev pub IsApart : List RuleEntry → List ℕ × TypeTree → Type 0
IsApart [] v = Unit {0}
IsApart (e ∷ es) v = (binds (map (λ p. p.1) e.stays.terms) v ≡ false) × (is_named (free_occurrences e.rule.right) v.0 ≡ false) × IsApart es v

-- the same as a test
abbrev pub are_apart : List RuleEntry → List ℕ × TypeTree → Bool
are_apart [] v = true
are_apart (e ∷ es) v = not (binds (map (λ p. p.1) e.stays.terms) v) && (not (is_named (free_occurrences e.rule.right) v.0) && are_apart es v)

-- the variables that stay in some rule and those of the right sides, each once, after others
abbrev pub rule_variables : List (List ℕ × TypeTree) → List RuleEntry → List (List ℕ × TypeTree)
rule_variables vs [] = vs
rule_variables vs (e ∷ es) = rule_variables (add_all (add_all vs (map (λ p. p.1) e.stays.terms)) (add_all [] (free_occurrences e.rule.right))) es

-- those of the right sides alone
abbrev pub right_variables : List (List ℕ × TypeTree) → List RuleValue → List (List ℕ × TypeTree)
right_variables vs [] = vs
right_variables vs (r ∷ rules) = right_variables (add_all vs (add_all [] (free_occurrences r.right))) rules

-- variables that are those of the rules before are those of the rules after
abbrev pub AddsVariables : List RuleEntry → List RuleEntry → List (List ℕ × TypeTree) → List (List ℕ × TypeTree) → Type 0
AddsVariables before after old new = old ≡ rule_variables [] before → new ≡ rule_variables [] after
