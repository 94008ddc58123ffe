use Rattle.std.proofs.Common.{map}
use Rattle.hol_kernel.specs.Given.{given_sequent}
use Rattle.hol_match.specs.RuleSets.{rule_entries}
use Rattle.hol_match.specs.SetView.{set_rules}
use Rattle.hol_match.proofs.FirstEntries.{same_contracta}
use Rattle.hol_match.proofs.Repeated.{first_last}
use Rattle.hol_match.proofs.rule_set.all_rules.Goals as goal

pub returns-clause-first : goal.returns-clause-first
returns-clause-first c = first_last c.args.thms.now c.loop-i.i (set_rules c.loop-i.all.items) c.loop-i-test.false c.loop-i.invariant.0

pub returns-clause-rules : goal.returns-clause-rules
returns-clause-rules c =
    let rules = set_rules c.loop-i.all.items in
    same_contracta rules (rule_entries 0 (map given_sequent c.args.thms.now)) (first_last c.args.thms.now c.loop-i.i rules c.loop-i-test.false c.loop-i.invariant.0)
