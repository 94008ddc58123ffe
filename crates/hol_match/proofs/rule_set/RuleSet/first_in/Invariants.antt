use Rattle.std.proofs.Common.{◌≡◌, ◌-◌, drop, length, []}
use Rattle.hol_terms.specs.Nameless.{nameless}
use Rattle.hol_match.specs.Heads.{is_in, first_in}
use Rattle.hol_match.specs.SetView.{set_rules}
use Rattle.hol_match.proofs.Buckets.{IsOn}
use Rattle.hol_match.proofs.rule_set.RuleSet.first_in.Given as goal

abbrev pub invariant-rules : goal.invariant-rules
invariant-rules l = record {
  first :
      first_in (is_in l.self.many (length l.self.loose.first.items) l.bucket) 0 (set_rules l.self.rules.items) (nameless [] l.t)
      ≡ first_in (is_in l.self.many (length l.self.loose.first.items) l.bucket) l.i (set_rules (drop l.i l.self.rules.items)) (nameless [] l.t);
  on : IsOn (is_in l.self.many (length l.self.loose.first.items) l.bucket) l.self.rules.items l.i;
}

abbrev pub decreases-rules : goal.decreases-rules
decreases-rules l = length l.self.rules.items - l.i
