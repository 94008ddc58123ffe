use Rattle.std.proofs.Common.{◌≡◌, [], ap, sym, ◌∙◌, Some}
use Rattle.std.proofs.lemmas.Result.{IfOk-weaker}
use Rattle.hol_types.specs.Tree.{TypeTree}
use Rattle.hol_types.specs.Fun.{fun_type}
use Rattle.hol_terms.specs.Nameless.{nameless, app}
use Rattle.hol_terms.proofs.Typing.{type_outside}
use Rattle.hol_formulas.specs.Equation.{Sides, dest_eq, equation}
use Rattle.hol_formulas.proofs.TypeTests.{fun_parts_is}
use Rattle.hol_kernel.specs.Sequent.{sequent_of}
use Rattle.hol_kernel.specs.Theorem.{over, theorem_over}
use Rattle.hol_kernel.proofs.EqualSteps.{FitsSides, ap_term_fits, ap_term_derived}
use Rattle.hol_kernel.proofs.Sound.{kept}
use Rattle.hol_kernel.proofs.Variables.{known_typed}
use Rattle.hol_kernel.proofs.thm.Thm.ap_term.Goals as goal

pub images-requires-clause-function : goal.images-requires-clause-function
images-requires-clause-function c =
    let a = c.args.a.now.sequent in
    let f = nameless [] c.args.f.now in
    let s = c.args.ty.now in
    let x : Sides = record { sides_type = c.in-Some.x.ty.now; left = nameless [] c.in-Some.x.left.now; right = nameless [] c.in-Some.x.right.now } in
    let p : TypeTree × TypeTree = (c.in-Some-dest_fun._domain.now, c.in-Some-dest_fun.range.now) in
    let found : dest_eq a.concl ≡ Some x = sym (ap dest_eq c.concl.ensures.concl) ∙ c.in-Some.ensures.sides in
    let fits : FitsSides f s a x p = ap_term_fits f s a c.requires.fits x found p c.in-Some-dest_fun.ensures in
    sym (type_outside c.args.f.now) ∙ (known_typed c.args.a.now.basis f s c.requires.typed).1 ∙ ap Some (fun_parts_is s p c.in-Some-dest_fun.ensures ∙ ap (λ (d : TypeTree). fun_type d p.1) fits.domain)

pub closed-requires : goal.closed-requires
closed-requires c =
    let B = c.args.a.now.basis in
    let a = c.args.a.now.sequent in
    let f = nameless [] c.args.f.now in
    let s = c.args.ty.now in
    let x : Sides = record { sides_type = c.in-Some.x.ty.now; left = nameless [] c.in-Some.x.left.now; right = nameless [] c.in-Some.x.right.now } in
    let p : TypeTree × TypeTree = (c.in-Some-dest_fun._domain.now, c.in-Some-dest_fun.range.now) in
    let found : dest_eq a.concl ≡ Some x = sym (ap dest_eq c.concl.ensures.concl) ∙ c.in-Some.ensures.sides in
    let fits : FitsSides f s a x p = ap_term_fits f s a c.requires.fits x found p c.in-Some-dest_fun.ensures in
    kept B c.basis-2.result.now c.in_ok-same.same c.in_ok-concl.concl c.basis-2.ensures
    (rw (c.in_ok-same.ensures, c.hypotheses.ensures, c.in_ok-concl.ensures.is)
    (ap_term_derived B f s a (sequent_of a.hyps (equation p.1 (app f x.left) (app f x.right))) c.requires.typed c.promise.ensures.derives fits.gives))
    c.in_ok-concl.ensures.typed

pub returns : goal.returns
returns c =
    let B = c.args.a.now.basis in
    let a = c.args.a.now.sequent in
    let f = nameless [] c.args.f.now in
    let s = c.args.ty.now in
    let x : Sides = record { sides_type = c.in-Some.x.ty.now; left = nameless [] c.in-Some.x.left.now; right = nameless [] c.in-Some.x.right.now } in
    let p : TypeTree × TypeTree = (c.in-Some-dest_fun._domain.now, c.in-Some-dest_fun.range.now) in
    let found : dest_eq a.concl ≡ Some x = sym (ap dest_eq c.concl.ensures.concl) ∙ c.in-Some.ensures.sides in
    let fits : FitsSides f s a x p = ap_term_fits f s a c.requires.fits x found p c.in-Some-dest_fun.ensures in
    IfOk-weaker c.closed.result _ _
    (λ th made.
    ap (over B) fits.gives
    ∙ ap Some (sym (made ∙ (λ i. theorem_over (c.basis-2.ensures i) ((c.in_ok-same.ensures ∙ c.hypotheses.ensures) i) (nameless [] (c.in_ok-concl.ensures.is i))))))
    c.closed.ensures
