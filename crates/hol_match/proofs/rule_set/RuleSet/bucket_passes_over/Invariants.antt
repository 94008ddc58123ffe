use Rattle.std.proofs.Common.{◌≡◌, ◌-◌, false, drop, length, []}
use Rattle.hol_terms.specs.Nameless.{nameless}
use Rattle.hol_match.specs.Heads.{is_in, bucket_passes_over}
use Rattle.hol_match.specs.SetView.{set_rules}
use Rattle.hol_match.proofs.Buckets.{IsOn}
use Rattle.hol_match.proofs.rule_set.RuleSet.bucket_passes_over.Given as goal

abbrev pub invariant-rules : goal.invariant-rules
invariant-rules l = record {
  over :
      bucket_passes_over (length l.self.heads.first.items) l.bucket (set_rules l.self.rules.items) (nameless [] l.t)
      ≡ bucket_passes_over (length l.self.heads.first.items) l.bucket (set_rules (drop l.i l.self.rules.items)) (nameless [] l.t);
  on : IsOn (is_in false (length l.self.heads.first.items) l.bucket) l.self.rules.items l.i;
}

abbrev pub decreases-rules : goal.decreases-rules
decreases-rules l = length l.self.rules.items - l.i
