use Rattle.std.proofs.Common.{◌≡◌, map, take, string_bytes, String, Global}
use Rattle.hol_document.specs.Asked.{theorem_texts}
use Rattle.hol_document.proofs.asked.theorem_texts.Given as goal

abbrev pub invariant-loop-i : goal.invariant-loop-i
invariant-loop-i l = map (λ (t : String Global). string_bytes t) l.texts.items ≡ theorem_texts (take l.i l.env)
