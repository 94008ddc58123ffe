-- What follows in a chain of THEN, and after THENL. Only private clauses speak of it.
use Rattle.std.specs.Prelude.{List}
use Rattle.hol_goal.specs.Goal.{GoalValue}
use Rattle.hol_goal.specs.Answer.{UsedValue}
use Rattle.hol_combine.specs.ExprValue.{ExprValues, no_exprs, more_exprs}
use Rattle.hol_combine.specs.Runs.{KnownValue, RunValue, Leaves, then_on, each, as_many, count, run, run_each}

-- each in order, on all the goals that those before it left
abbrev pub run_more : KnownValue → ExprValues → List GoalValue → UsedValue → RunValue
run_more known no_exprs goals used = Leaves goals used
run_more known (more_exprs t ts) goals used = then_on (each (run known t) goals used) (run_more known ts)

-- each on the goal of its place, where there are as many
abbrev pub run_list : KnownValue → ExprValues → List GoalValue → UsedValue → RunValue
run_list known ts goals used = as_many (count ts) goals used (run_each known ts goals used)
