use Rattle.std.proofs.Common.{◌≡◌}
use Rattle.hol_theory.proofs.older.Older.join_short.Given as goal

abbrev pub invariant-loop : goal.invariant-loop
invariant-loop l = l.self ≡ l.fn.self
