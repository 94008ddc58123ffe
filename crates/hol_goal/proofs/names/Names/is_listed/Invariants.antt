use Rattle.std.proofs.Common.{◌≡◌, map, drop, bytes_eq}
use Rattle.std.specs.List.{list_any}
use Rattle.hol_goal.specs.NamesView.{all_names}
use Rattle.hol_goal.proofs.names.Names.is_listed.Given as goal

abbrev pub invariant-loop-part : goal.invariant-loop-part
invariant-loop-part l = list_any (bytes_eq l.name) l.self ≡ list_any (bytes_eq l.name) (all_names (map (λ part. part.value) (drop l.part-index l.part-items)))
