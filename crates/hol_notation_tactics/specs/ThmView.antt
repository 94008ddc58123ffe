-- The theorem expression that a node stands for: what contracts see of it.
use Rattle.std.specs.Prelude.{string_bytes}
use Rattle.hol_notation_tactics.specs.declared.thm_expr.ThmExprNode.{ThmExprNode}
use Rattle.hol_notation_tactics.specs.declared.thm_expr.ThmExprNode.TheVariants.{Name as TheName, Assume as TheAssume, Refl as TheRefl, Spec as TheSpec, Sym as TheSym, Conjunct1 as TheConjunct1, Conjunct2 as TheConjunct2, Mp as TheMp, InstType as TheInstType}
use Rattle.hol_notation_tactics.specs.Text.{ThmText, Cited, Assume, Refl, Spec, Sym, Conjunct1, Conjunct2, Mp, InstType}

abbrev pub thm_of_node : ThmExprNode → ThmText
thm_of_node (TheName name) = Cited (string_bytes name)
thm_of_node (TheAssume p) = Assume p
thm_of_node (TheRefl t) = Refl t
thm_of_node (TheSpec t th) = Spec t th
thm_of_node (TheSym th) = Sym th
thm_of_node (TheConjunct1 th) = Conjunct1 th
thm_of_node (TheConjunct2 th) = Conjunct2 th
thm_of_node (TheMp a b) = Mp a b
thm_of_node (TheInstType ps th) = InstType ps.items th
