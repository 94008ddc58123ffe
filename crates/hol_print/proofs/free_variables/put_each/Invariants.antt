use Rattle.std.proofs.Common.{◌≡◌, drop}
use Rattle.hol_print.specs.ShowGoal.{put_all}
use Rattle.hol_print.specs.InOrder.{IsInOrder}
use Rattle.hol_print.proofs.free_variables.put_each.Given as goal

abbrev pub invariant-loop-v : goal.invariant-loop-v
invariant-loop-v l =
    record {
      put : put_all l.initial.among.items l.variables ≡ put_all l.among.items (drop l.v-index l.variables);
      ordered : IsInOrder l.among.items;
    }
