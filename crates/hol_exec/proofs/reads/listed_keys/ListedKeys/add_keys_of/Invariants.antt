use Rattle.std.proofs.Common.{take, map}
use Rattle.hol_exec.proofs.Changing.{AreMore}
use Rattle.hol_exec.proofs.reads.listed_keys.ListedKeys.add_keys_of.Given as goal

abbrev pub invariant-loop-i : goal.invariant-loop-i
invariant-loop-i l = AreMore l.initial.self l.self (map (λ entry. entry.0) (take l.i l.entries))
