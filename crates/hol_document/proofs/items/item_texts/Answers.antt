use Rattle.std.proofs.Common.{ap, ◌∙◌, map, string_bytes, String, Global}
use Rattle.hol_document.specs.ItemTexts.{item_text}
use Rattle.hol_document.proofs.Sorting.{item_texts_sorted}
use Rattle.hol_document.proofs.items.item_texts.Goals as goal

pub returns : goal.returns
returns c = item_texts_sorted (λ (text : String Global). string_bytes text) c.args.basis.now _ _ (c.in_ok-texts.ensures ∙ ap (map item_text) c.items.ensures.items) c.in_ok-sort.ensures.permutation c.in_ok-sort.ensures.sorted
