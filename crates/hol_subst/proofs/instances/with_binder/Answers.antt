use Rattle.std.proofs.Common.{refl, sym, ◌∙◌, inl}
use Rattle.hol_subst.proofs.InstSteps.{same_variable}
use Rattle.hol_subst.proofs.instances.with_binder.Goals as goal

pub returns-then-same : goal.returns-then-same
returns-then-same c = inl (same_variable c.args.u.now c.args.v.now (sym c.if-same.true ∙ c.same.ensures), refl)
