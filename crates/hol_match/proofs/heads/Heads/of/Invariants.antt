use Rattle.std.proofs.Common.{◌≡◌, ◌<◌, ◌≤◌, length}
use Rattle.hol_match.proofs.Buckets.{FirstFrom, NextFrom}
use Rattle.hol_match.proofs.heads.Heads.of.Given as goal

abbrev pub invariant-rules : goal.invariant-rules
invariant-rules l = record {
  some : 0 < length l.heads.first.items;
  long : length l.heads.next.items ≡ length l.rules;
  within : l.left ≤ length l.rules;
  first : FirstFrom l.loose l.left l.rules l.heads.first.items;
  next : NextFrom l.loose l.left (length l.heads.first.items) l.rules l.heads.next.items;
}

abbrev pub decreases-rules : goal.decreases-rules
decreases-rules l = l.left
