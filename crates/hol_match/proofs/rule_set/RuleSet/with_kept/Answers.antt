use Rattle.std.proofs.Common.{◌++◌, map, refl}
use Rattle.std.proofs.lemmas.Result.{IfOk-weaker}
use Rattle.hol_kernel.specs.Given.{given_sequent}
use Rattle.hol_match.specs.Contracta.{contracta}
use Rattle.hol_match.specs.RuleSets.{rule_entries}
use Rattle.hol_match.specs.SetView.{set_rules}
use Rattle.hol_match.proofs.FirstEntries.{same_contracta}
use Rattle.hol_match.proofs.Spared.{spared_contracta, spared_given}
use Rattle.hol_match.proofs.rule_set.RuleSet.with_kept.Goals as goal

pub returns-clause-rules : goal.returns-clause-rules
returns-clause-rules c =
    let all = c.add_kept.new.all.items in
    let asked = rule_entries 0 (map given_sequent (c.args.thms.now ++ c.args.kept.now)) in
    IfOk-weaker c.made.result _ _ (λ set so. spared_contracta all set.rules.items (contracta asked) so (same_contracta (set_rules all) asked (c.in_ok-add_kept.ensures.first c.args.thms.now refl c.in_ok-all.ensures.first))) c.made.ensures

pub returns-clause-given : goal.returns-clause-given
returns-clause-given c =
    IfOk-weaker c.made.result _ _ (λ set so. spared_given c.add_kept.new.all.items set.rules.items (c.args.thms.now ++ c.args.kept.now) so (c.in_ok-add_kept.ensures.given c.args.thms.now refl c.in_ok-all.ensures.given)) c.made.ensures
