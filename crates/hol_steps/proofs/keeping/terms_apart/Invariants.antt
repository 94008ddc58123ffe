use Rattle.std.proofs.Common.{◌≡◌, ◌++◌, map, drop}
use Rattle.hol_terms.specs.Named.{var}
use Rattle.hol_steps.proofs.keeping.terms_apart.Given as goal

abbrev pub invariant-loop-v : goal.invariant-loop-v
invariant-loop-v l = map (λ v. var v) l.others ≡ l.terms.items ++ map (λ v. var v) (drop l.v-index l.others)
