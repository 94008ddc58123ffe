use Rattle.std.proofs.Common.{◌≡◌, ◌++◌, drop}
use Rattle.hol_notation_tactics.specs.Parts.{calls_in}
use Rattle.hol_notation_tactics.proofs.parts.calls_in.Given as goal

abbrev pub invariant-loop-part : goal.invariant-loop-part
invariant-loop-part l = calls_in l.parts ≡ l.calls.items ++ calls_in (drop l.part-index l.parts)
