use Rattle.std.proofs.Common.{[], refl}
use Rattle.hol_terms.specs.Nameless.{nameless}
use Rattle.hol_kernel.specs.Sequent.{no_hyps}
use Rattle.hol_tac.proofs.Justified.{by_nothing}
use Rattle.hol_tac.proofs.Valid.{refl_valid}
use Rattle.hol_tac.proofs.equations.refl_tac.Goals as goal

pub returns-clause-valid : goal.returns-clause-valid
returns-clause-valid c =
    by_nothing c.args.goal.now c.closing.result c.in_ok-just.just [] c.closing.ensures.just c.closing.ensures.goals c.args.args.now c.in-Nothing.is
    (refl_valid no_hyps c.args.goal.now (nameless [] c.conclusion.result.now) c.conclusion.ensures.term c.in_ok-just.just
    (record { sides_type = c.in-Some.sides.ty.now; left = nameless [] c.in-Some.sides.left.now; right = nameless [] c.in-Some.sides.right.now })
    c.in-Some.ensures.sides (c.if-not-alpha_equivalent.ensures.equal.0 refl) c.in_ok-just.ensures)
