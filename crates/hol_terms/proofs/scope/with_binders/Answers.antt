use Rattle.std.proofs.Common.{refl, sym, ◌∙◌, inl}
use Rattle.hol_terms.proofs.Same.{variable_eq_decides}
use Rattle.hol_terms.proofs.scope.with_binders.Goals as goal

pub returns-then-same : goal.returns-then-same
returns-then-same c = inl ((variable_eq_decides c.args.v.now c.args.w.now).0 (sym c.same.ensures ∙ c.if-same.true), refl)
