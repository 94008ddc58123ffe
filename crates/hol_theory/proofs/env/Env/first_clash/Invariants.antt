use Rattle.std.proofs.Common.{◌≡◌, drop}
use Rattle.hol_theory.specs.Adding.{first_clash}
use Rattle.hol_theory.proofs.env.Env.first_clash.Given as goal

abbrev pub invariant-loop-i : goal.invariant-loop-i
invariant-loop-i l = first_clash l.self l.other ≡ first_clash l.self (drop l.i l.other)
