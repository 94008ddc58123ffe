use Rattle.std.proofs.Common.{◌≡◌, drop}
use Rattle.hol_subst.specs.TermTyvars.{are_among}
use Rattle.hol_subst.proofs.tyvars.are_among.Given as goal

abbrev pub invariant-loop-name : goal.invariant-loop-name
invariant-loop-name l = are_among l.own l.names ≡ are_among l.own (drop l.name-index l.names)
