use Rattle.std.proofs.Common.{reverse}
use Rattle.hol_goal.specs.UsedView.{used_value}
use Rattle.hol_combine.specs.Runs.{run}
use Rattle.hol_combine.specs.Suits.{suits_expr}
use Rattle.hol_combine.specs.Pending.{reached_value, HasLeft}
use Rattle.hol_combine.specs.Steps.{steps_left}
use Rattle.hol_combine.specs.Advancing.{IsGoing}
use Rattle.hol_combine.proofs.running.run_expr.Given as goal

-- what the run has come to, within what is pending, comes to the run of the whole
abbrev pub invariant-steps : goal.invariant-steps
invariant-steps g l = record {
  goes : IsGoing (g.T.Tacs.known_of l.tacs) (suits_expr l.expr) l.goal (run (g.T.Tacs.known_of l.tacs) l.expr l.goal (used_value l.fn.used)) (reverse l.outer.items) (reached_value l.reached);
  left : HasLeft l.fn.used.left l.reached;
}

abbrev pub decreases-steps : goal.decreases-steps
decreases-steps g l = steps_left (g.T.Tacs.known_of l.tacs) (reverse l.outer.items) (reached_value l.reached)
