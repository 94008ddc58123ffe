use Rattle.std.proofs.Common.{◌≡◌, ◌++◌, reverse}
use Rattle.hol_combine.specs.Going.{copies}
use Rattle.hol_combine.proofs.parts.push_each.Given as goal

abbrev pub invariant-loop : goal.invariant-loop
invariant-loop l = reverse l.numbers.items ≡ copies l.counter l.number ++ reverse l.initial.numbers.items
