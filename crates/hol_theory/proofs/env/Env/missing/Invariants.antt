use Rattle.std.proofs.Common.{◌≡◌, ◌++◌, drop}
use Rattle.hol_theory.specs.Adding.{missing}
use Rattle.hol_theory.proofs.env.Env.missing.Given as goal

abbrev pub invariant-loop-i : goal.invariant-loop-i
invariant-loop-i l = l.more.items ++ missing l.self (drop l.i l.other) ≡ missing l.self l.other
