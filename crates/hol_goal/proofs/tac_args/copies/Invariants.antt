use Rattle.std.proofs.Common.{◌≡◌, take}
use Rattle.hol_goal.proofs.tac_args.copies.Given as goal

abbrev pub invariant-loop-th : goal.invariant-loop-th
invariant-loop-th l = l.copied.items ≡ take l.th-index l.ths
