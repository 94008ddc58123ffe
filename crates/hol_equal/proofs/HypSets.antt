-- Sets of hypotheses.
use Rattle.std.specs.Prelude.{◌≡◌}
use Rattle.std.specs.FinSet as set
use Rattle.hol_terms.specs.Nameless.{Nameless}
use Rattle.hol_kernel.specs.Sequent.{Hyps, no_hyps}
use Rattle.hol_kernel.proofs.HypothesisLists.{hyps_total, hyps_same}
use Rattle.hol_kernel.proofs.SortedSets.{union_none_left, union_none_right, remove_none}

pub none_left : (hs : Hyps) → set.union no_hyps hs ≡ hs
none_left hs = union_none_left hyps_total hyps_same hs

pub none_right : (hs : Hyps) → set.union hs no_hyps ≡ hs
none_right hs = union_none_right hyps_total hyps_same hs

pub none_without : (k : Nameless) → set.remove no_hyps k ≡ no_hyps
none_without k = remove_none hyps_total hyps_same k
