use Rattle.std.proofs.Common.{◌≡◌, drop, map}
use Rattle.std.specs.List.{list_any}
use Rattle.hol_theory.specs.Key.{key_eq}
use Rattle.hol_exec.proofs.reads.has_key.Given as goal

abbrev pub invariant-loop-value : goal.invariant-loop-value
invariant-loop-value l = list_any (key_eq l.key) (map (λ value. value.0) l.values) ≡ list_any (key_eq l.key) (map (λ value. value.0) (drop l.value-index l.values))
