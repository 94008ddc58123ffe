use Rattle.hol_formulas.specs.Equation.{bool_type}
use Rattle.hol_formulas.proofs.PartTypes.{applies}
use Rattle.hol_formulas.proofs.bijections.rep_abs.Goals as goal

pub application-requires : goal.application-requires
application-requires c = applies c.args.predicate.now c.in_ok-r.r c.args.old.now bool_type c.requires c.in_ok-r.ensures.typed
