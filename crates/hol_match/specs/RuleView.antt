-- What contracts see of the program's rules.
use Rattle.std.specs.Prelude.{List, [], map}
use Rattle.hol_terms.specs.Nameless.{nameless}
use Rattle.hol_match.specs.Rules.{RuleValue, rule}
use Rattle.hol_match.specs.declared.rule.Rule.{Rule}

abbrev pub rule_value : Rule → RuleValue
rule_value r = rule (nameless [] r.left) (nameless [] r.right)

abbrev pub rule_values : List Rule → List RuleValue
rule_values rules = map rule_value rules
