use Rattle.std.proofs.Common.{◌≡◌, ◌++◌, drop}
use Rattle.hol_exec.specs.Keys.{keys_of_parameters}
use Rattle.hol_exec.proofs.reads.keys.add_parameters.Given as goal

abbrev pub invariant-loop-variable : goal.invariant-loop-variable
invariant-loop-variable l =
    l.initial.keys.items ++ keys_of_parameters l.parameters ≡ l.keys.items ++ keys_of_parameters (drop l.variable-index l.parameters)
