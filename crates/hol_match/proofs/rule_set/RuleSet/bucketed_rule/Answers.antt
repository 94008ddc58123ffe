use Rattle.std.proofs.Common.{[], length}
use Rattle.std.proofs.lemmas.Result.{IfOk-weaker}
use Rattle.hol_terms.specs.Nameless.{nameless}
use Rattle.hol_match.proofs.Buckets.{found_beside, found_bucketed}
use Rattle.hol_match.proofs.rule_set.RuleSet.bucketed_rule.Goals as goal

-- where the term has no head
pub returns-then-bucket-eq0-clause-first : goal.returns-then-bucket-eq0-clause-first
returns-then-bucket-eq0-clause-first c =
    let S = c.args.self.now in
    IfOk-weaker c.first_in.result _ _
    (λ o found. found_beside S.many (length S.loose.first.items) c.bucket_of-bucket.result S.rules.items (nameless [] c.args.t.now) o c.bucket_of-bucket.ensures.bucket c.if-bucket-eq0.true found)
    c.first_in.ensures.first

-- the first rule of either bucket
pub returns-clause-first : goal.returns-clause-first
returns-clause-first c =
    let S = c.args.self.now in
    found_bucketed S.many (length S.loose.first.items) c.bucket_of-bucket.result S.rules.items (nameless [] c.args.t.now) c.in_ok-beside.beside c.in_ok-own.own c.earlier.result c.bucket_of-bucket.ensures.bucket
    c.in_ok-beside.ensures.first c.in_ok-own.ensures.first c.earlier.ensures
