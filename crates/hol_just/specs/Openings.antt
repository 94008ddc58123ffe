-- Outer quantifiers are taken off one after the other, however many there are.
use Rattle.std.specs.Prelude.{◌≡◌, List}
use Rattle.hol_terms.specs.Nameless.{Nameless}
use Rattle.hol_formulas.specs.Formula.{dest_forall}
use Rattle.hol_just.specs.MatchMp.{opened, opened_at}

abbrev pub OpeningGoesByQuantifiers : Type 0
OpeningGoesByQuantifiers = (avoid : List Nameless) (p : Nameless) → opened avoid p ≡ opened_at opened avoid p (dest_forall p)
