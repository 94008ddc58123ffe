use Rattle.std.proofs.Common.{drop}
use Rattle.hol_replay.proofs.RuleTheorems.{IsGoing}
use Rattle.hol_replay.proofs.rule_theorems.generalized.Given as goal

abbrev pub invariant-loop-v : goal.invariant-loop-v
invariant-loop-v l = IsGoing l.variables (drop l.v-index l.variables) l.th l.whole
