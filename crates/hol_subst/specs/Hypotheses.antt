-- Finite sets of terms, taken up to the names of bound variables: the hypotheses of a theorem (fusion.ml: term_union, term_remove, term_image).
use Rattle.std.specs.Prelude.{List, [], map, Option, Some, None}
use Rattle.std.specs.FinSet as set
use Rattle.hol_terms.specs.Nameless.{Nameless, nameless}
use Rattle.hol_terms.specs.Named as named
use Rattle.hol_terms.specs.Alpha.{strip}
use Rattle.hol_subst.specs.AlphaOrder.{nameless_cmp}

-- the hypotheses, with their base names left out: in this order they are in alpha_order
abbrev pub Hyps : Type 0
Hyps = set.FinSet nameless_cmp

abbrev pub no_hyps : Hyps
no_hyps = set.empty

-- p alone
abbrev pub only_hyp : Nameless → Hyps
only_hyp p = set.insert no_hyps (strip p)

-- what a map of terms makes of the hypotheses
abbrev pub hyps_image : (Nameless → Nameless) → Hyps → Hyps
hyps_image f hs = set.from_list (map (λ h. strip (f h)) (set.items hs))

-- a named term as it counts among hypotheses
abbrev pub hyp_of : named.Named → Nameless
hyp_of p = strip (nameless [] p)

-- the hypotheses that a list of named terms stands for
abbrev pub hyps_of : List named.Named → Hyps
hyps_of ps = set.from_list (map hyp_of ps)

-- the list that is shared, or no term
abbrev pub listed : {R : Type 0} → Option R → (R → List named.Named) → List named.Named
listed None items = []
listed (Some r) items = items r
