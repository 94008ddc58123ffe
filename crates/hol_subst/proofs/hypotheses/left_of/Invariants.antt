use Rattle.std.proofs.Common.{◌≡◌, not, [], take}
use Rattle.std.specs.List.{filter}
use Rattle.hol_terms.specs.Nameless.{nameless}
use Rattle.hol_terms.specs.Alpha.{alpha_eq}
use Rattle.hol_subst.proofs.hypotheses.left_of.Given as goal

abbrev pub invariant-loop-q : goal.invariant-loop-q
invariant-loop-q l = l.rest.items ≡ filter (λ q. not (alpha_eq (nameless [] q) (nameless [] l.p))) (take l.q-index l.terms)
