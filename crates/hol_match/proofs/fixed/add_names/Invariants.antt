use Rattle.std.proofs.Common.{◌≡◌, drop}
use Rattle.hol_match.specs.Fixed.{add_names}
use Rattle.hol_match.proofs.fixed.add_names.Given as goal

abbrev pub invariant-loop-name : goal.invariant-loop-name
invariant-loop-name l = add_names l.initial.names.items l.own ≡ add_names l.names.items (drop l.name-index l.own)
