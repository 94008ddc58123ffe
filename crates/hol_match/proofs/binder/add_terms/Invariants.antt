use Rattle.std.proofs.Common.{◌≡◌, ◌++◌, map, drop}
use Rattle.hol_terms.specs.Named.{var}
use Rattle.hol_match.proofs.binder.add_terms.Given as goal

abbrev pub invariant-loop-v : goal.invariant-loop-v
invariant-loop-v l = l.initial.terms.items ++ map (λ v. var v) l.variables ≡ l.terms.items ++ map (λ v. var v) (drop l.v-index l.variables)
