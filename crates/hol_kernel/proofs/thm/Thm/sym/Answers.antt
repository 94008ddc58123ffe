use Rattle.std.proofs.Common.{◌≡◌, [], subst, ap, sym, ◌∙◌, Some}
use Rattle.hol_terms.specs.Nameless.{Nameless, nameless}
use Rattle.hol_formulas.specs.Equation.{bool_type, dest_eq, equation}
use Rattle.hol_kernel.specs.Derivation.{Derives}
use Rattle.hol_kernel.specs.Typing.{HasType}
use Rattle.hol_kernel.proofs.EqualSteps.{sym_derived}
use Rattle.hol_kernel.proofs.Sound.{sides_is, kept}
use Rattle.hol_kernel.proofs.thm.Thm.sym.Goals as goal

pub closed-requires : goal.closed-requires
closed-requires c =
    let B = c.args.a.now.basis in
    let a = c.args.a.now.sequent in
    let s = c.in-Some.x.ty.now in
    let l = nameless [] c.in-Some.x.left.now in
    let r = nameless [] c.in-Some.x.right.now in
    let found : dest_eq a.concl ≡ Some (record { sides_type = s; left = l; right = r }) = sym (ap dest_eq c.concl.ensures.concl) ∙ c.in-Some.ensures.sides in
    let is : a.concl ≡ equation s l r = sides_is a.concl (record { sides_type = s; left = l; right = r }) found in
    kept B c.basis-2.result.now c.in_ok-hyps.hyps c.in_ok-concl.concl c.basis-2.ensures
    (rw (c.in_ok-hyps.ensures, c.hypotheses.ensures, c.in_ok-concl.ensures.is)
    (sym_derived B a.hyps s l r (subst (λ (n : Nameless). HasType B n bool_type) is c.well_typed.ensures.conclusion) (subst (Derives B a.hyps) is c.promise.ensures.derives)))
    c.in_ok-concl.ensures.typed
