-- Rules that are kept, to be put into sets. Only private clauses speak of this.
-- Source: this project.
use Rattle.std.specs.Prelude.{◌≡◌, List, map}
use Rattle.std.specs.List.{AllByRecursion}
use Rattle.hol_kernel.specs.Given.{Given, given_sequent}
use Rattle.hol_match.specs.Fixed.{stays, stays_of}
use Rattle.hol_match.specs.Listed.{listed}
use Rattle.hol_match.specs.Rules.{rules_of}
use Rattle.hol_match.specs.RuleSets.{RuleEntry, rule_entries, first_entry}
use Rattle.hol_match.specs.RuleView.{rule_values}
use Rattle.hol_match.specs.Sources.{IsFrom}
use Rattle.hol_match.specs.Ways.{rule_ways}
use Rattle.hol_match.specs.declared.rule.Rule.{Rule}
use Rattle.hol_match.specs.declared.source.Source.{Source}

-- they are the rules of what was given, and what stays in them is what stays beside its hypotheses
pub record AreKeptOf (s : Source) (rules : List Rule) : Type 0 where
  pub are : rule_values rules ≡ rules_of (listed (given_sequent s.given).hyps) (given_sequent s.given).concl
  pub stay : stays s.fixed ≡ stays_of (listed (given_sequent s.given).hyps)
  pub from : AllByRecursion (IsFrom s) (rule_ways rules)

-- the first to match is the first of the rules of these theorems
abbrev pub FirstOf : List Given → List RuleEntry → Type 0
FirstOf thms rules = first_entry rules ≡ first_entry (rule_entries 0 (map given_sequent thms))
