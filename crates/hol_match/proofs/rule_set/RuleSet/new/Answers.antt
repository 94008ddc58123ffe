use Rattle.std.proofs.Common.{map}
use Rattle.std.proofs.lemmas.Result.{IfOk-weaker}
use Rattle.hol_kernel.specs.Given.{given_sequent}
use Rattle.hol_match.specs.Contracta.{contracta}
use Rattle.hol_match.specs.RuleSets.{rule_entries, first_entry}
use Rattle.hol_match.proofs.Spared.{spared_first, spared_contracta, spared_given}
use Rattle.hol_match.proofs.rule_set.RuleSet.new.Goals as goal

-- what is left out counts for nothing
pub returns-clause-first : goal.returns-clause-first
returns-clause-first c =
    IfOk-weaker c.made.result _ _ (λ set so. spared_first c.in_ok-all.all.items set.rules.items (first_entry (rule_entries 0 (map given_sequent c.args.thms.now))) so c.in_ok-all.ensures.first) c.made.ensures

pub returns-clause-rules : goal.returns-clause-rules
returns-clause-rules c =
    IfOk-weaker c.made.result _ _ (λ set so. spared_contracta c.in_ok-all.all.items set.rules.items (contracta (rule_entries 0 (map given_sequent c.args.thms.now))) so c.in_ok-all.ensures.rules) c.made.ensures

pub returns-clause-given : goal.returns-clause-given
returns-clause-given c = IfOk-weaker c.made.result _ _ (λ set so. spared_given c.in_ok-all.all.items set.rules.items c.args.thms.now so c.in_ok-all.ensures.given) c.made.ensures
