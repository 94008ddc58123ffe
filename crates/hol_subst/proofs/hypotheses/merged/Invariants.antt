use Rattle.std.proofs.Common.{◌≡◌, ◌≤◌, ◌+◌, ◌-◌, true, ◌++◌, drop, length}
use Rattle.std.specs.Set.{sorted_merge}
use Rattle.hol_subst.specs.Hypotheses.{hyp_of}
use Rattle.hol_subst.specs.AlphaOrder.{nameless_cmp}
use Rattle.hol_subst.proofs.hypotheses.merged.Given as goal

abbrev pub invariant-loop-i : goal.invariant-loop-i
invariant-loop-i l =
    record {
      first_in : l.i ≤ length l.first;
      second_in : l.j ≤ length l.second;
      left : sorted_merge (λ p q. nameless_cmp (hyp_of p) (hyp_of q)) true l.first l.second ≡ l.all.items ++ sorted_merge (λ p q. nameless_cmp (hyp_of p) (hyp_of q)) true (drop l.i l.first) (drop l.j l.second);
    }

abbrev pub decreases-loop-i : goal.decreases-loop-i
decreases-loop-i l = (length l.first - l.i) + (length l.second - l.j)
