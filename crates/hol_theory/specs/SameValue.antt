-- Whether what stands under a key is the same: arities, types, items with the base names of their terms, theorems with their bases, expressions with their
-- bases and with what each of their theorems rests on.
use Rattle.std.specs.Prelude.{◌≡◌, ◌↔◌, Bool, IsTrue}
use Rattle.std.specs.Ordering.{eq_by_cmp, is_eq}
use Rattle.std.specs.Cmp.{Equal-is, tied_itself}
use Rattle.std.proofs.Common.{ap, sym, ◌∙◌}
use Rattle.hol_subst.specs.CodeOrder.{coded_cmp, coded_total, coded_same}
use Rattle.hol_theory.specs.Entry.{EntryValue}
use Rattle.hol_theory.specs.Codes.{coded_entry}

abbrev pub same_value : EntryValue → EntryValue → Bool
same_value = eq_by_cmp (coded_cmp coded_entry)

pub same_values_are : (a b : EntryValue) → IsTrue (same_value a b) ↔ (a ≡ b)
same_values_are a b = (
  (λ e. coded_same coded_entry a b ((Equal-is (coded_cmp coded_entry a b)).0 e)),
  (λ e. ap (same_value a) (sym e) ∙ ap is_eq (tied_itself (coded_total coded_entry) a)),
)
