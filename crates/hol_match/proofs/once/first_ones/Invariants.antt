use Rattle.std.proofs.Common.{take}
use Rattle.hol_match.specs.Spared.{IsSpared}
use Rattle.hol_match.proofs.once.first_ones.Given as goal

abbrev pub invariant-loop-rule : goal.invariant-loop-rule
invariant-loop-rule l = IsSpared (take l.rule-index l.rules) l.kept.items
