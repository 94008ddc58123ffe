use Rattle.std.proofs.Common.{◌≡◌, ◌≤◌, [], map, drop}
use Rattle.hol_terms.specs.Nameless.{nameless}
use Rattle.hol_goal.specs.UsedView.{used_value}
use Rattle.hol_combine.specs.ExprView.{theorem_tac_value}
use Rattle.hol_combine.specs.Runs.{first_assum}
use Rattle.hol_combine.proofs.theorem_tacs.first_assum.Given as goal

abbrev pub invariant-loop-p : goal.invariant-loop-p
invariant-loop-p g l = record {
  answer : first_assum (g.T.Tacs.known_of l.tacs) (theorem_tac_value l.tac) (map (nameless []) (drop l.p-index l.p-items)) l.goal (used_value l.used) ≡ first_assum (g.T.Tacs.known_of l.tacs) (theorem_tac_value l.tac) l.goal.assumptions l.goal (used_value l.fn.used);
  left : l.used.left ≤ l.fn.used.left;
}
