use Rattle.std.proofs.Common.{◌≡◌, [], map, take}
use Rattle.hol_terms.specs.Nameless.{nameless}
use Rattle.hol_subst.specs.Substitution.{types_inst}
use Rattle.hol_subst.proofs.instances.inst_all.Given as goal

abbrev pub invariant-loop-term : goal.invariant-loop-term
invariant-loop-term l = (l.types ≡ l.pairs) × (map (λ r. nameless [] r) l.instances.items ≡ map (λ p. types_inst l.pairs (nameless [] p)) (take l.term-index l.terms))
