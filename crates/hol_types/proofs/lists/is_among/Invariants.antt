use Rattle.std.proofs.Common.{◌≡◌, drop}
use Rattle.hol_types.specs.Names.{is_among}
use Rattle.hol_types.proofs.lists.is_among.Given as goal

abbrev pub invariant-loop-other : goal.invariant-loop-other
invariant-loop-other l = is_among l.names l.name ≡ is_among (drop l.other-index l.names) l.name
