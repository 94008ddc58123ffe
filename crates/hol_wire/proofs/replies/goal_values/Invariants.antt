use Rattle.std.proofs.Common.{◌≡◌, map}
use Rattle.serde_json.specs.View.{view}
use Rattle.hol_exec.specs.ShowGoal.{goal_text}
use Rattle.hol_wire.specs.Replies.{goal_data}
use Rattle.hol_wire.proofs.replies.goal_values.Given as goal

abbrev pub invariant-loop-goal : goal.invariant-loop-goal
invariant-loop-goal l = map view l.values.items ≡ map goal_data (map goal_text l.yielded)
