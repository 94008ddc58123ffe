use Rattle.std.proofs.Common.{◌∙◌, ap}
use Rattle.hol_terms.specs.Scope.{binders}
use Rattle.hol_terms.specs.Nameless.{nameless}
use Rattle.hol_typing.proofs.Named.{bound_place, bound_there}
use Rattle.hol_typing.proofs.building.bound_at.Goals as goal

pub returns-in_ok-var-in-Some-clause-ok : goal.returns-in_ok-var-in-Some-clause-ok
returns-in_ok-var-in-Some-clause-ok c =
    ap (nameless (binders c.args.scope.now)) c.in_ok-var-in-Some.ensures
    ∙ bound_place (binders c.args.scope.now) c.args.index c.in-Some.variable.now c.requires c.in-Some.ensures

pub returns-in-None-clause-memory : goal.returns-in-None-clause-memory
returns-in-None-clause-memory c = absurd (bound_there (binders c.args.scope.now) c.args.index c.requires c.in-None.ensures)
