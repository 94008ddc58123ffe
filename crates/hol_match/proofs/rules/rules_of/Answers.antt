use Rattle.std.proofs.Common.{◌≡◌, ◌∙◌, ◌++◌, ap, sym, subst, [], map, rules}
use Rattle.std.specs.List.{AllByRecursion}
use Rattle.hol_terms.specs.Nameless.{nameless}
use Rattle.hol_match.specs.Rules.{rules_under, generalized, pattern_variables}
use Rattle.hol_match.specs.RuleView.{rule_values}
use Rattle.hol_match.specs.Ways.{way, rule_ways, IsOnWay}
use Rattle.hol_match.proofs.rules.rules_of.Goals as goal

pub returns-clause-are : goal.returns-clause-are
returns-clause-are c =
    let none : c.new-rules.result.items ≡ [] = search rules in
    c.in_ok-add_rules.ensures.are
    ∙ ap (λ rs. rule_values rs ++ rules_under (map (λ t. nameless [] t) c.args.hyps.now) (nameless [] c.in_ok-whole.whole)) none
    ∙ ap (rules_under (map (λ t. nameless [] t) c.args.hyps.now))
    (c.in_ok-whole.ensures.whole
    ∙ ap (λ vs. generalized vs (nameless [] c.args.p.now)) (c.requires.variables ∙ ap (λ ws. pattern_variables ws (nameless [] c.args.p.now)) c.requires.fixed.1))

pub returns-clause-ways : goal.returns-clause-ways
returns-clause-ways c =
    let none : c.new-rules.result.items ≡ [] = search rules in
    let whole = nameless [] c.in_ok-whole.whole in
    let names = c.args.fixed.now.names.items in
    let variables = c.args.fixed.now.variables.items in
    let start : AllByRecursion (IsOnWay names variables whole) (rule_ways c.new-rules.result.items) = subst (λ rs. AllByRecursion (IsOnWay names variables whole) (rule_ways rs)) (sym none) tt in
    subst (λ n. AllByRecursion (IsOnWay names variables n) (rule_ways c.add_rules.new.rules.items)) c.in_ok-whole.ensures.whole
    (c.in_ok-add_rules.ensures.ways whole (ap (λ w. way w whole) c.in_ok-way.ensures) start)
