use Rattle.std.proofs.Common.{◌≡◌, drop}
use Rattle.std.specs.Prelude.{not}
use Rattle.std.specs.List.{find}
use Rattle.hol_types.specs.Names.{is_among}
use Rattle.hol_exec.proofs.declaring.defining.first_outside.Given as goal

abbrev pub invariant-loop-name : goal.invariant-loop-name
invariant-loop-name l = find (λ n. not (is_among l.others n)) l.names ≡ find (λ n. not (is_among l.others n)) (drop l.name-index l.names)
