use Rattle.std.proofs.Common.{◌≡◌, [], map, drop}
use Rattle.std.specs.List.{list_any}
use Rattle.hol_terms.specs.Nameless.{nameless}
use Rattle.hol_terms.specs.Alpha.{alpha_eq}
use Rattle.hol_steps.proofs.pieces.is_one_of.Given as goal

abbrev pub invariant-loop-p : goal.invariant-loop-p
invariant-loop-p l = list_any (alpha_eq (nameless [] l.term)) (map (nameless []) l.list) ≡ list_any (alpha_eq (nameless [] l.term)) (map (nameless []) (drop l.p-index l.list))
