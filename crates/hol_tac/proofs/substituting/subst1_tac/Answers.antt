use Rattle.std.proofs.Common.{[], ◌∷◌, refl}
use Rattle.hol_terms.specs.Nameless.{nameless}
use Rattle.hol_just.specs.Leaving.{concluding}
use Rattle.hol_just.specs.Replacing.{replace_each}
use Rattle.hol_tac.proofs.Justified.{by_theorem}
use Rattle.hol_tac.proofs.substituting.subst1_tac.Goals as goal

pub returns-clause-valid : goal.returns-clause-valid
returns-clause-valid c =
    let s = nameless [] c.in-Some.sides.left.now in
    let t = nameless [] c.in-Some.sides.right.now in
    by_theorem c.args.goal.now c.in_ok-step.step c.in_ok-step.step.just (concluding c.args.goal.now (replace_each s t c.args.goal.now.conclusion) ∷ []) refl c.in_ok-step.ensures.goals c.args.args.now
    c.in-Theorem.th c.in-Theorem.is c.in_ok-step.ensures.just
