use Rattle.std.proofs.Common.{◌≡◌, ◌++◌, drop}
use Rattle.hol_notation_tactics.specs.Parts.{parts_of_arguments}
use Rattle.hol_notation_tactics.proofs.parts.add_arguments.Given as goal

abbrev pub invariant-loop-argument : goal.invariant-loop-argument
invariant-loop-argument l = l.initial.parts.items ++ parts_of_arguments l.arguments ≡ l.parts.items ++ parts_of_arguments (drop l.argument-index l.arguments)
