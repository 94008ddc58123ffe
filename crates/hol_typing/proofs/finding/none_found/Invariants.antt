use Rattle.std.proofs.Common.{◌≡◌, ℕ, length, None}
use Rattle.hol_typing.specs.Found.{found_at}
use Rattle.hol_typing.proofs.finding.none_found.Given as goal

abbrev pub invariant-loop : goal.invariant-loop
invariant-loop l = record {
  len : length l.found.items ≡ l.counter;
  none : (i : ℕ) → found_at l.found.items i ≡ None;
}
