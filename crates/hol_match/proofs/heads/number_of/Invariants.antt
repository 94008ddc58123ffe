use Rattle.std.proofs.Common.{◌≡◌, ◌<◌, drop}
use Rattle.hol_match.specs.Heads.{name_number}
use Rattle.hol_match.proofs.heads.number_of.Given as goal

abbrev pub invariant-loop-byte : goal.invariant-loop-byte
invariant-loop-byte l = (l.number < 16777216) × (name_number l.number (drop l.byte-index l.byte-items) ≡ name_number 0 l.byte-items)
