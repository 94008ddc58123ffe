use Rattle.std.proofs.Common.{◌≡◌, ap, sym, ◌∙◌, [], Some}
use Rattle.hol_terms.specs.Nameless.{nameless}
use Rattle.hol_formulas.specs.Equation.{equation, dest_eq}
use Rattle.hol_kernel.proofs.Sound.{sides_is}
use Rattle.hol_equal.proofs.Applies.{sides}
use Rattle.hol_equal.proofs.Outcomes.{found}
use Rattle.hol_equal.proofs.applied.sides_of.Goals as goal

pub returns : goal.returns
returns c =
    found (λ x. dest_eq (nameless [] c.concl.result.now) ≡ Some (sides x.ty.now (nameless [] x.left.now) (nameless [] x.right.now)))
    (λ x. c.args.th.now.sequent.concl ≡ equation x.ty.now (nameless [] x.left.now) (nameless [] x.right.now)) c.dest_eq.result
    (λ e. ap dest_eq (sym c.concl.ensures.concl) ∙ e)
    (λ x e. sides_is c.args.th.now.sequent.concl (sides x.ty.now (nameless [] x.left.now) (nameless [] x.right.now)) (ap dest_eq (sym c.concl.ensures.concl) ∙ e))
    c.dest_eq.ensures.sides
