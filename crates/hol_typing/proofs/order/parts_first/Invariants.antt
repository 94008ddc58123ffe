use Rattle.std.proofs.Common.{◌<◌, length}
use Rattle.std.specs.List.{All}
use Rattle.hol_typing.proofs.order.parts_first.Given as goal

abbrev pub invariant-loop : goal.invariant-loop
invariant-loop l = All (λ s. s < length l.cells) l.order.items
