use Rattle.std.proofs.Common.{◌≡◌, length}
use Rattle.hol_terms.specs.Nameless.{place}
use Rattle.hol_terms.specs.Scope.{binders}
use Rattle.hol_print.proofs.bare.occurrence.Given as goal

abbrev pub invariant-outwards : goal.invariant-outwards
invariant-outwards l = place (binders l.scope) 0 l.v ≡ place (binders l.around) l.passed l.v

abbrev pub decreases-outwards : goal.decreases-outwards
decreases-outwards l = length (binders l.around)
