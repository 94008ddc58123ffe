use Rattle.std.proofs.Common.{◌≡◌, [], drop}
use Rattle.std.specs.List.{list_any}
use Rattle.hol_terms.specs.Nameless.{nameless, free_occurrences}
use Rattle.hol_terms.specs.Scoped.{binds}
use Rattle.hol_subst.proofs.hypotheses.is_free_in_one.Given as goal

abbrev pub invariant-loop-p : goal.invariant-loop-p
invariant-loop-p l = list_any (λ p. binds (free_occurrences (nameless [] p)) l.v) l.terms ≡ list_any (λ p. binds (free_occurrences (nameless [] p)) l.v) (drop l.p-index l.terms)
