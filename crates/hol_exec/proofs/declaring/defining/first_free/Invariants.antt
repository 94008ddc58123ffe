use Rattle.std.proofs.Common.{◌≡◌, drop, map}
use Rattle.std.specs.Prelude.{None}
use Rattle.hol_exec.proofs.Defined.{earliest}
use Rattle.hol_exec.proofs.declaring.defining.first_free.Given as goal

abbrev pub invariant-loop-variable : goal.invariant-loop-variable
invariant-loop-variable l = earliest None (map (λ v. v.0) l.variable-items) ≡ earliest l.first (map (λ v. v.0) (drop l.variable-index l.variable-items))
