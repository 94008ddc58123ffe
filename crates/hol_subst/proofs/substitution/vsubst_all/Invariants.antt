use Rattle.std.proofs.Common.{◌≡◌, [], map, take}
use Rattle.hol_terms.specs.Nameless.{nameless}
use Rattle.hol_subst.specs.Pairs.{nameless_pairs}
use Rattle.hol_subst.specs.Substitution.{term_subst}
use Rattle.hol_subst.proofs.substitution.vsubst_all.Given as goal

abbrev pub invariant-loop-term : goal.invariant-loop-term
invariant-loop-term l = map (λ r. nameless [] r) l.instances.items ≡ map (λ p. term_subst (nameless_pairs l.pairs) 0 (nameless [] p)) (take l.term-index l.terms)
