use Rattle.std.proofs.Common.{◌≡◌, ◌++◌, take}
use Rattle.hol_goal.proofs.lists.add_copies.Given as goal

abbrev pub invariant-loop-goal : goal.invariant-loop-goal
invariant-loop-goal l = l.to.items ≡ l.initial.to.items ++ take l.goal-index l.goals
