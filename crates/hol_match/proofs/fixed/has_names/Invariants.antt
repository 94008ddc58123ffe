use Rattle.std.proofs.Common.{◌≡◌, drop}
use Rattle.std.specs.List.{list_all}
use Rattle.hol_types.specs.Names.{is_among}
use Rattle.hol_match.proofs.fixed.has_names.Given as goal

abbrev pub invariant-loop-name : goal.invariant-loop-name
invariant-loop-name l = list_all (is_among l.names) l.own ≡ list_all (is_among l.names) (drop l.name-index l.own)
