use Rattle.std.proofs.Common.{◌≡◌, reverse, length}
use Rattle.hol_notation_reader.specs.Build.{applied}
use Rattle.hol_notation_reader.proofs.terms.applied.Given as goal

abbrev pub invariant-loop-argument : goal.invariant-loop-argument
invariant-loop-argument l = applied l.term (reverse l.left.items) ≡ applied l.fn.function (reverse l.fn.arguments.items)

abbrev pub decreases-loop-argument : goal.decreases-loop-argument
decreases-loop-argument l = length l.left.items
