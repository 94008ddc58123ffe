-- Whether two reads, and two lists of tested names, are the same: names, terms with their base names, theorems with their bases, numbers.
use Rattle.std.specs.Prelude.{◌≡◌, ◌↔◌, Bool, IsTrue}
use Rattle.std.specs.Ordering.{eq_by_cmp, is_eq}
use Rattle.std.specs.Cmp.{Equal-is, tied_itself}
use Rattle.std.proofs.Common.{ap, sym, ◌∙◌}
use Rattle.hol_subst.specs.CodeOrder.{coded_cmp, coded_total, coded_same}
use Rattle.hol_exec.specs.ReadsValue.{ReadsValue}
use Rattle.hol_exec.specs.Codes.{coded_reads, coded_tested}
use Rattle.hol_exec.specs.Tested.{TestedValue}

abbrev pub same_reads : ReadsValue → ReadsValue → Bool
same_reads = eq_by_cmp (coded_cmp coded_reads)

pub same_reads_are : (a b : ReadsValue) → IsTrue (same_reads a b) ↔ (a ≡ b)
same_reads_are a b = (
  (λ e. coded_same coded_reads a b ((Equal-is (coded_cmp coded_reads a b)).0 e)),
  (λ e. ap (same_reads a) (sym e) ∙ ap is_eq (tied_itself (coded_total coded_reads) a)),
)

-- the same of tested names
abbrev pub same_tested : TestedValue → TestedValue → Bool
same_tested = eq_by_cmp (coded_cmp coded_tested)

pub same_tested_are : (a b : TestedValue) → IsTrue (same_tested a b) ↔ (a ≡ b)
same_tested_are a b = (
  (λ e. coded_same coded_tested a b ((Equal-is (coded_cmp coded_tested a b)).0 e)),
  (λ e. ap (same_tested a) (sym e) ∙ ap is_eq (tied_itself (coded_total coded_tested) a)),
)
