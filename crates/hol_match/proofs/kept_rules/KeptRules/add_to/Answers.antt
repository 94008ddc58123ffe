use Rattle.std.proofs.Common.{rules, ◌≡◌, ◌∙◌, ◌++◌}
use Rattle.hol_match.specs.Fixed.{stays}
use Rattle.hol_match.specs.RuleSets.{entries}
use Rattle.hol_match.specs.RuleView.{rule_values}
use Rattle.hol_match.specs.SetView.{set_rules}
use Rattle.hol_match.specs.Apart.{rule_variables}
use Rattle.hol_match.proofs.Apartness.{variables_added}
use Rattle.hol_match.proofs.kept_rules.KeptRules.add_to.Goals as goal

pub returns-clause-variables : goal.returns-clause-variables
returns-clause-variables c =
    let S = c.self.inside.source.value in
    let own = c.self.inside.rules.items in
    let before = set_rules c.args.all.now.items in
    let fixed : c.fixed.result.now ≡ S.fixed = search rules in
    let slice : c.deref-2.result.now ≡ own = search rules in
    let put : set_rules c.add_rules.new.all.items ≡ before ++ entries c.args.i 0 (stays S.fixed) (rule_values own) = search rules in
    variables_added before (set_rules c.add_rules.new.all.items) (entries c.args.i 0 (stays S.fixed) (rule_values own)) c.args.variables.now.items c.add_rule_variables.new.variables.items put
    (c.in_ok-add_rule_variables.ensures c.args.i ∙ (λ k. rule_variables c.args.variables.now.items (entries c.args.i 0 (stays (fixed k)) (rule_values (slice k)))))
