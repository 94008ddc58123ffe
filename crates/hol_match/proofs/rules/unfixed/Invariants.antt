use Rattle.std.proofs.Common.{◌≡◌, ◌++◌, drop, not}
use Rattle.std.specs.List.{filter}
use Rattle.hol_terms.specs.Scoped.{binds}
use Rattle.hol_match.proofs.rules.unfixed.Given as goal

abbrev pub invariant-loop-v : goal.invariant-loop-v
invariant-loop-v l = filter (λ v. not (binds l.fixed.variables.items v)) l.all ≡ l.rest.items ++ filter (λ v. not (binds l.fixed.variables.items v)) (drop l.v-index l.all)
