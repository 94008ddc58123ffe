-- A set of hypotheses as a list in the order of terms, as the kernel lists them.
use Rattle.std.specs.Prelude.{List, [], ◌∷◌, true}
use Rattle.std.specs.FinSet as set
use Rattle.std.specs.Set.{sorted_merge}
use Rattle.hol_terms.specs.Nameless.{Nameless}
use Rattle.hol_subst.specs.AlphaOrder.{nameless_cmp}
use Rattle.hol_subst.specs.Hypotheses.{Hyps}

abbrev pub in_order : List Nameless → List Nameless
in_order [] = []
in_order (n ∷ ns) = sorted_merge nameless_cmp true (n ∷ []) (in_order ns)

abbrev pub listed : Hyps → List Nameless
listed hs = in_order (set.items hs)
