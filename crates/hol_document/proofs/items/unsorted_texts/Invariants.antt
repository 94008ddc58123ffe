use Rattle.std.proofs.Common.{◌≡◌, map, take, string_bytes, String, Global}
use Rattle.hol_document.specs.ItemTexts.{item_text}
use Rattle.hol_document.proofs.items.unsorted_texts.Given as goal

abbrev pub invariant-loop-item : goal.invariant-loop-item
invariant-loop-item l = map (λ (text : String Global). string_bytes text) l.texts.items ≡ map item_text (take l.item-index l.items)
