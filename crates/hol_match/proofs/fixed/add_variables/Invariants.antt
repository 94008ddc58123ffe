use Rattle.std.proofs.Common.{◌≡◌, drop}
use Rattle.hol_terms.specs.Scoped.{add_all}
use Rattle.hol_match.proofs.fixed.add_variables.Given as goal

abbrev pub invariant-loop-v : goal.invariant-loop-v
invariant-loop-v l = add_all l.initial.variables.items l.own ≡ add_all l.variables.items (drop l.v-index l.own)
