use Rattle.std.proofs.Common.{◌≡◌, [], map, drop}
use Rattle.hol_terms.specs.Nameless.{nameless}
use Rattle.hol_print.specs.ShowGoal.{put_terms}
use Rattle.hol_print.specs.InOrder.{IsInOrder}
use Rattle.hol_print.proofs.shown_terms.ShownTerms.put_assumptions.Given as goal

abbrev pub invariant-loop-i : goal.invariant-loop-i
invariant-loop-i l =
    record {
      put : put_terms l.initial.among.items (map (nameless []) l.assumptions) ≡ put_terms l.among.items (map (nameless []) (drop l.i l.assumptions));
      ordered : IsInOrder l.among.items;
    }
