use Rattle.std.proofs.Common.{◌≡◌, drop}
use Rattle.std.specs.List.{list_all}
use Rattle.hol_terms.specs.Scoped.{binds}
use Rattle.hol_match.proofs.fixed.has_variables.Given as goal

abbrev pub invariant-loop-v : goal.invariant-loop-v
invariant-loop-v l = list_all (binds l.variables) l.own ≡ list_all (binds l.variables) (drop l.v-index l.own)
