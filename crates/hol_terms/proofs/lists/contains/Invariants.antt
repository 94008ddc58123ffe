use Rattle.std.proofs.Common.{◌≡◌, drop}
use Rattle.hol_terms.specs.Scoped.{binds}
use Rattle.hol_terms.proofs.lists.contains.Given as goal

abbrev pub invariant-loop-u : goal.invariant-loop-u
invariant-loop-u l = binds l.variables l.v ≡ binds (drop l.u-index l.variables) l.v
