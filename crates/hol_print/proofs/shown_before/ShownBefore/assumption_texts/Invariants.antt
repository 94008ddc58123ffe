use Rattle.std.proofs.Common.{◌≡◌, [], map, take, string_bytes, String, Global}
use Rattle.hol_terms.specs.Nameless.{nameless}
use Rattle.hol_print.specs.ShowTerm.{show}
use Rattle.hol_print.proofs.shown_before.ShownBefore.assumption_texts.Given as goal

abbrev pub invariant-loop-i : goal.invariant-loop-i
invariant-loop-i l = map (λ (text : String Global). string_bytes text) l.texts.items ≡ map show (map (nameless []) (take l.i l.asl))
