use Rattle.std.proofs.Common.{◌≡◌, take}
use Rattle.hol_notation_tactics.proofs.tac_call.TacCall.copy.Given as goal

abbrev pub invariant-loop-argument : goal.invariant-loop-argument
invariant-loop-argument l = l.arguments.items ≡ take l.argument-index l.argument-items
