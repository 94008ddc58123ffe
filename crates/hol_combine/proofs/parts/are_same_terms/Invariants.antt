use Rattle.std.proofs.Common.{◌≡◌, [], map, drop}
use Rattle.hol_terms.specs.Nameless.{nameless}
use Rattle.hol_combine.specs.Runs.{are_same_terms}
use Rattle.hol_combine.proofs.parts.are_same_terms.Given as goal

abbrev pub invariant-loop-i : goal.invariant-loop-i
invariant-loop-i l = are_same_terms (map (nameless []) l.terms) (map (nameless []) l.others) ≡ are_same_terms (map (nameless []) (drop l.i l.terms)) (map (nameless []) (drop l.i l.others))
