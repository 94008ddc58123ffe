use Rattle.std.proofs.Common.{[], subst, sym}
use Rattle.hol_typing.specs.Raw.{RawTree}
use Rattle.hol_typing.specs.Scoped.{IsScoped, HasRigidAnnotations}
use Rattle.hol_infer.proofs.Resolved.{definition_scoped, definition_rigid}
use Rattle.hol_infer.proofs.elaboration.elaborate_definition.Goals as goal

pub read-requires-clause-scoped : goal.read-requires-clause-scoped
read-requires-clause-scoped c = subst (λ (r : RawTree). IsScoped [] r) (sym c.in-Ok.ensures.ok.0) (definition_scoped c.args.arities.now c.args.constants.now c.args.definition.now)

pub read-requires-clause-rigid : goal.read-requires-clause-rigid
read-requires-clause-rigid c = subst HasRigidAnnotations (sym c.in-Ok.ensures.ok.0) (definition_rigid c.args.arities.now c.args.constants.now c.args.definition.now)
