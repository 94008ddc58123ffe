use Rattle.std.proofs.Common.{[]}
use Rattle.std.proofs.lemmas.Result.{IfOk-weaker}
use Rattle.hol_terms.specs.Nameless.{nameless}
use Rattle.hol_match.proofs.Buckets.{found_all, found_first}
use Rattle.hol_match.proofs.rule_set.RuleSet.find.Goals as goal

-- all of few rules are in buckets
pub returns-then-not-self-clause-first : goal.returns-then-not-self-clause-first
returns-then-not-self-clause-first c =
    let S = c.args.self.now in
    IfOk-weaker c.bucketed_rule.result _ _ (λ o found. found_all S.many S.rules.items (nameless [] c.args.t.now) o c.if-not-self.true found) c.bucketed_rule.ensures.first

-- the first rule of either kind
pub returns-clause-first : goal.returns-clause-first
returns-clause-first c =
    let S = c.args.self.now in
    found_first S.many S.rules.items (nameless [] c.args.t.now) c.in_ok-bucketed.bucketed c.in_ok-settled.settled c.earlier.result c.if-not-self.false c.in_ok-bucketed.ensures.first
    c.in_ok-settled.ensures.first c.earlier.ensures
