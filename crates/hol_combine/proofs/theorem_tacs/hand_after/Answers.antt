use Rattle.std.proofs.Common.{[]}
use Rattle.hol_terms.specs.Nameless.{nameless}
use Rattle.hol_combine.specs.ExprView.{theorem_tac_value}
use Rattle.hol_combine.proofs.Handed.{after_valid}
use Rattle.hol_combine.proofs.theorem_tacs.hand_after.Goals as goal

pub returns-clause-valid : goal.returns-clause-valid
returns-clause-valid g c =
    λ whole v. after_valid (theorem_tac_value c.args.tac.now) (nameless [] c.args.p.now) whole c.args.goal.now c.in_ok-ran.ran c.in_ok-after.field-0 c.args.just v c.in_ok-ran.ensures.valid c.in_ok-after.ensures.goals c.in_ok-after.ensures.just
