use Rattle.std.proofs.Common.{[], refl}
use Rattle.hol_terms.specs.Nameless.{nameless}
use Rattle.hol_steps.proofs.ApplicationLaws.{both_sides}
use Rattle.hol_steps.proofs.applications.dest_applications.Goals as goal

pub returns : goal.returns
returns c =
    let sides = c.in_ok-sides.sides in
    both_sides c.args.goal.now (nameless [] c.conclusion.result.now) c.conclusion.ensures.term (record { sides_type = sides.ty.now; left = nameless [] sides.left.now; right = nameless [] sides.right.now })
    c.in_ok-sides.ensures.sides sides.left.now sides.right.now c.in_ok-function.function.now c.in_ok-function.argument.now c.in_ok-other_function.other_function.now c.in_ok-other_function.other_argument.now refl refl
    c.in_ok-function.ensures c.in_ok-other_function.ensures c.in_ok-sides.ensures.left c.in_ok-sides.ensures.right
