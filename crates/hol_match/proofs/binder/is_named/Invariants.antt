use Rattle.std.proofs.Common.{◌≡◌, drop}
use Rattle.hol_match.specs.Apart.{is_named}
use Rattle.hol_match.proofs.binder.is_named.Given as goal

abbrev pub invariant-loop-v : goal.invariant-loop-v
invariant-loop-v l = is_named l.variables l.name ≡ is_named (drop l.v-index l.variables) l.name
