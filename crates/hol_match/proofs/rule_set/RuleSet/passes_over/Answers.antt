use Rattle.std.proofs.Common.{◌∙◌, [], length, sym}
use Rattle.hol_terms.specs.Nameless.{nameless}
use Rattle.hol_match.specs.SetView.{set_rules}
use Rattle.hol_match.proofs.Buckets.{passes_all, passes_not}
use Rattle.hol_match.proofs.rule_set.RuleSet.passes_over.Goals as goal

pub returns-then-bucket_passes_over : goal.returns-then-bucket_passes_over
returns-then-bucket_passes_over c =
    let S = c.args.self.now in
    c.bucket_passes_over-then-bucket_passes_over.ensures
    ∙ passes_all (length S.heads.first.items) c.bucket_of-bucket.result (set_rules S.rules.items) (nameless [] c.args.t.now) c.bucket_of-bucket.ensures.bucket (sym c.bucket_passes_over.ensures ∙ c.if-bucket_passes_over.true)

pub returns-else-bucket_passes_over : goal.returns-else-bucket_passes_over
returns-else-bucket_passes_over c =
    let S = c.args.self.now in
    c.if-bucket_passes_over.false
    ∙ passes_not (length S.heads.first.items) (set_rules S.rules.items) (nameless [] c.args.t.now) (sym c.bucket_passes_over.ensures ∙ c.if-bucket_passes_over.false)
