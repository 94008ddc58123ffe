use Rattle.std.proofs.Common.{rules, ◌≡◌, [], Some, slice_get}
use Rattle.hol_terms.specs.Nameless.{nameless}
use Rattle.hol_match.specs.Instance.{instantiated}
use Rattle.hol_match.specs.RuleSets.{first_fit}
use Rattle.hol_match.specs.SetView.{set_rule, set_rules}
use Rattle.hol_match.proofs.Contracta.{found_contracts, found_rule}
use Rattle.hol_match.proofs.FirstEntries.{found_entry}
use Rattle.hol_match.proofs.rule_set.RuleSet.contract.Goals as goal

-- the rule that was found
pub returns-in_ok-term-in-Some-clause-first : goal.returns-in_ok-term-in-Some-clause-first
returns-in_ok-term-in-Some-clause-first c =
    let R = c.args.self.now.rules.items in
    let T = nameless [] c.args.t.now in
    let first : first_fit 0 (set_rules R) T ≡ Some (c.in-Some.i, c.in-Some.found) = search rules in
    let there : slice_get R c.in-Some.i ≡ Some c.rule-rule.result.now = search rules in
    found_entry R T (c.in-Some.i, c.in-Some.found) c.rule-rule.result.now first there

-- at its match
pub returns-in_ok-term-in-Some-clause-is : goal.returns-in_ok-term-in-Some-clause-is
returns-in_ok-term-in-Some-clause-is c =
    let R = c.args.self.now.rules.items in
    let T = nameless [] c.args.t.now in
    let U = nameless [] c.in_ok-term-in-Some.term in
    let first : first_fit 0 (set_rules R) T ≡ Some (c.in-Some.i, c.in-Some.found) = search rules in
    let there : slice_get R c.in-Some.i ≡ Some c.rule-rule.result.now = search rules in
    let made : U ≡ instantiated c.in-Some.found 0 (set_rule c.rule-rule.result.now).rule.right = search rules in
    found_contracts R T (c.in-Some.i, c.in-Some.found) c.rule-rule.result.now U first there made

pub returns-in_ok-term-in-Some-clause-rule : goal.returns-in_ok-term-in-Some-clause-rule
returns-in_ok-term-in-Some-clause-rule c =
    let R = c.args.self.now.rules.items in
    let T = nameless [] c.args.t.now in
    let U = nameless [] c.in_ok-term-in-Some.term in
    let first : first_fit 0 (set_rules R) T ≡ Some (c.in-Some.i, c.in-Some.found) = search rules in
    let there : slice_get R c.in-Some.i ≡ Some c.rule-rule.result.now = search rules in
    let made : U ≡ instantiated c.in-Some.found 0 (set_rule c.rule-rule.result.now).rule.right = search rules in
    found_rule R T (c.in-Some.i, c.in-Some.found) c.rule-rule.result.now U first there made
