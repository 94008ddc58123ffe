use Rattle.std.proofs.lemmas.Result.{IfOk-weaker}
use Rattle.hol_match.specs.SetView.{set_rule}
use Rattle.hol_replay.proofs.RuleTheorems.{equation_taken}
use Rattle.hol_replay.proofs.rule_theorems.as_equation.Goals as goal

pub returns-then-branch : goal.returns-then-branch
returns-then-branch c =
    let R = c.args.rule.now in
    let fixed = R.source.value.fixed in
    IfOk-weaker c.copy.result _ _ (λ r e. equation_taken fixed.names.items fixed.variables.items c.args.th.now r (set_rule R).rule c.in_ok-is_taken.field-0 e c.if-branch.true c.in_ok-is_taken.ensures c.requires) c.copy.ensures
