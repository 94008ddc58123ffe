use Rattle.std.proofs.Common.{◌≡◌, ap, sym, ◌∙◌, subst, Some, [], rules, refl}
use Rattle.hol_terms.specs.Nameless.{nameless, app}
use Rattle.hol_terms.specs.Named.{comb, abs, Named}
use Rattle.hol_terms.proofs.Typing.{type_outside}
use Rattle.hol_subst.specs.Closing.{bind}
use Rattle.hol_subst.proofs.Closing.{closed_named}
use Rattle.hol_formulas.specs.Equation.{equation}
use Rattle.hol_kernel.specs.Typing.{HasType}
use Rattle.hol_kernel.specs.Sequent.{no_hyps}
use Rattle.hol_kernel.specs.Theorem.{theorem_on, theorem_over}
use Rattle.hol_kernel.proofs.InstRules.{along_nameless}
use Rattle.hol_kernel.proofs.Variables.{known_typed}
use Rattle.hol_equal.proofs.Outcomes.{became}
use Rattle.hol_equal.specs.Applied.{contraction, reduct}
use Rattle.hol_equal.specs.Rules.{m_with}
use Rattle.hol_equal.proofs.Beta.{argument_typed, image_derived, image_typed, image_is, redex_is, redex_typed, own_gives}
use Rattle.hol_kernel.specs.Rules.{beta_of}
use Rattle.hol_equal.proofs.Steps.{known}
use Rattle.hol_equal.proofs.applied.beta_conv.Goals as goal

pub m_with-requires : goal.m_with-requires
m_with-requires c =
    let B = c.args.basis.now in
    let a = c.args.ty.now in
    let v = c.in-Abs.v in
    let b = c.in-Abs.b in
    let x = c.in-Comb.x in
    let is : c.args.redex.now ≡ comb (abs v b) x = search rules in
    let typed : HasType B (nameless [] (comb (abs v b) x)) a = subst (λ (t : Named). HasType B (nameless [] t) a) is c.requires.typed in
    record { fits = sym (type_outside x) ∙ (known_typed B (nameless [] x) v.1 (argument_typed B v (nameless [] b) (nameless [] x) a (closed_named x) (redex_typed B v b x a typed))).1 }

pub equation-requires : goal.equation-requires
equation-requires c =
    let B = c.args.basis.now in
    let a = c.args.ty.now in
    let v = c.in-Abs.v in
    let b = c.in-Abs.b in
    let x = c.in-Comb.x in
    let is : c.args.redex.now ≡ comb (abs v b) x = search rules in
    let typed : HasType B (nameless [] (comb (abs v b) x)) a = subst (λ (t : Named). HasType B (nameless [] t) a) is c.requires.typed in
    let image = image_typed B v (nameless [] b) (nameless [] x) a (closed_named x) (redex_typed B v b x a typed) in
    record {
      left = sym (type_outside c.args.redex.now) ∙ (known_typed B (nameless [] c.args.redex.now) a c.requires.typed).1;
      right = sym (type_outside c.in_ok-reduced.reduced) ∙ (known_typed B (nameless [] c.in_ok-reduced.reduced) a (rw c.in_ok-reduced.ensures image)).1;
    }

pub closed-requires : goal.closed-requires
closed-requires c =
    let B = c.args.basis.now in
    let a = c.args.ty.now in
    let v = c.in-Abs.v in
    let b = c.in-Abs.b in
    let x = c.in-Comb.x in
    let is : c.args.redex.now ≡ comb (abs v b) x = search rules in
    let typed : HasType B (nameless [] (comb (abs v b) x)) a = subst (λ (t : Named). HasType B (nameless [] t) a) is c.requires.typed in
    let left : nameless [] c.args.redex.now ≡ app (bind v (nameless [] b)) (nameless [] x) = ap (nameless []) is ∙ redex_is B v b x a typed in
    along_nameless B B no_hyps c.none.result (equation a (app (bind v (nameless [] b)) (nameless [] x)) (m_with (nameless [] x) v (nameless [] b))) c.in_ok-concl.concl refl c.none.ensures
    (ap (nameless []) c.in_ok-concl.ensures.is ∙ (λ i. equation a (left i) (c.in_ok-reduced.ensures i)))
    (image_derived B v (nameless [] b) (nameless [] x) a (closed_named x) (redex_typed B v b x a typed))
    c.in_ok-concl.ensures.typed

pub returns : goal.returns
returns c =
    let B = c.args.basis.now in
    let a = c.args.ty.now in
    let v = c.in-Abs.v in
    let b = c.in-Abs.b in
    let x = c.in-Comb.x in
    let is : c.args.redex.now ≡ comb (abs v b) x = search rules in
    let typed : HasType B (nameless [] (comb (abs v b) x)) a = subst (λ (t : Named). HasType B (nameless [] t) a) is c.requires.typed in
    let left : nameless [] c.args.redex.now ≡ app (bind v (nameless [] b)) (nameless [] x) = ap (nameless []) is ∙ redex_is B v b x a typed in
    let image : nameless [] c.in_ok-reduced.reduced ≡ reduct (nameless [] c.args.redex.now) =
    c.in_ok-reduced.ensures ∙ sym (ap reduct left ∙ image_is B v (nameless [] b) (nameless [] x) a (closed_named x) (redex_typed B v b x a typed)) in
    became c.closed.result (theorem_over B c.none.result (nameless [] c.in_ok-concl.concl)) (theorem_on B (contraction a (nameless [] c.args.redex.now))) c.closed.ensures
    ((λ i. theorem_over B (c.none.ensures i) (nameless [] (c.in_ok-concl.ensures.is i))) ∙ (λ i. theorem_over B no_hyps (equation a (nameless [] c.args.redex.now) (image i))))

pub returns-then-is_occurrence : goal.returns-then-is_occurrence
returns-then-is_occurrence c =
    let B = c.args.basis.now in
    let a = c.args.ty.now in
    let v = c.in-Abs.v in
    let b = c.in-Abs.b in
    let x = c.in-Comb.x in
    let is : c.args.redex.now ≡ comb (abs v b) x = search rules in
    let typed : HasType B (nameless [] (comb (abs v b) x)) a = subst (λ (t : Named). HasType B (nameless [] t) a) is c.requires.typed in
    let gives : beta_of B c.args.redex.now ≡ Some (contraction a (nameless [] c.args.redex.now)) = rw is (own_gives B v b x a typed (c.is_occurrence.ensures c.if-is_occurrence.true)) in
    known B (beta_of B c.args.redex.now) (contraction a (nameless [] c.args.redex.now)) gives c.beta_typed.result c.beta_typed.ensures.sequent
