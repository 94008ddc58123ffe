-- The rules of a formula go by those of its parts; what is found among rules, and what they make of a term, goes by the first that matches.
use Rattle.std.specs.Prelude.{◌≡◌, List, [], slice_get}
use Rattle.std.specs.Option.{option_and_then}
use Rattle.hol_types.specs.Tree.{TypeTree}
use Rattle.hol_terms.specs.Nameless.{Nameless}
use Rattle.hol_formulas.specs.Formula.{dest_forall, dest_conj}
use Rattle.hol_match.specs.Rules.{rules_by, rules_under}
use Rattle.hol_match.specs.RuleSets.{RuleEntry, first_entry, first_fit}
use Rattle.hol_match.specs.Contracta.{contracted, contractum}

abbrev pub RulesGoByParts : Type 0
RulesGoByParts = (hyps : List Nameless) (p : Nameless) → rules_under hyps p ≡ rules_by (rules_under hyps) hyps p (dest_forall p) (dest_conj p)

-- the rule of the number that first_fit finds is the first that matches, and where it finds none, there is none
abbrev pub FoundIsFirst : Type 0
FoundIsFirst = (rules : List RuleEntry) (t : Nameless) → first_entry rules [] t ≡ option_and_then (λ f. slice_get rules f.0) (first_fit 0 rules t)

-- rules make of a term what the first that matches makes of it
abbrev pub FirstMakes : Type 0
FirstMakes = (rules : List RuleEntry) (env : List TypeTree) (t : Nameless) → contractum env rules t ≡ option_and_then (λ e. contracted env e t) (first_entry rules env t)
