use Rattle.std.specs.Prelude.{refl}
use Rattle.hol_exec.proofs.Steps.{left_same}
use Rattle.hol_exec.proofs.running.run.left.Goals as goal

pub leaves-requires : goal.leaves-requires
leaves-requires c =
    left_same c.args.basis c.args.basis (record { goals = c.args.step.goals.items; moves = c.args.step.just }) c.in_ok-step.step c.args.goal.now c.in_ok-goal.goal refl c.in_ok-step.ensures c.in_ok-goal.ensures c.requires
