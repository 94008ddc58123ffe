use Rattle.hol_terms.specs.Nameless.{nameless}
use Rattle.std.proofs.Common.{[]}
use Rattle.hol_just.specs.Justifies.{ClosesEquation}
use Rattle.hol_just.specs.declared.reason.Reason.TheVariants.{Reflexivity}
use Rattle.hol_just.proofs.Applied.{made_as}
use Rattle.hol_just.proofs.OneMove.{one}
use Rattle.hol_just.proofs.EquationRules.{reflexivity_closes}
use Rattle.hol_just.proofs.just.Just.refl_tac.Goals as goal

pub returns : goal.returns
returns c =
    made_as c.one.result (ClosesEquation (nameless [] c.args.left.now)) (λ t. one (Reflexivity t)) c.args.left.now c.in_ok-copy.field-0 (reflexivity_closes c.args.left.now) c.in_ok-copy.ensures
    c.one.ensures
