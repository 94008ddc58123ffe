use Rattle.std.proofs.Common.{◌≡◌, ◌++◌, drop}
use Rattle.hol_theory.specs.Constants.{constant_names}
use Rattle.hol_theory.proofs.env.Env.names_with.Given as goal

abbrev pub invariant-loop-entry : goal.invariant-loop-entry
invariant-loop-entry l = l.names ++ constant_names (drop l.entry-index l.more) ≡ constant_names (l.self ++ l.more)
