use Rattle.std.proofs.Common.{◌≡◌, ap, sym, ◌∙◌, subst, [], refl}
use Rattle.std.specs.FinSet as set
use Rattle.hol_terms.specs.Alpha.{strip}
use Rattle.hol_terms.specs.Nameless.{Nameless, nameless}
use Rattle.hol_formulas.specs.Equation.{bool_type, equation}
use Rattle.hol_kernel.specs.Derivation.{Derives}
use Rattle.hol_kernel.specs.Sequent.{Hyps}
use Rattle.hol_kernel.specs.Theorem.{theorem_on, theorem_over}
use Rattle.hol_kernel.proofs.InstRules.{along_nameless}
use Rattle.hol_kernel.proofs.Sound.{second_over}
use Rattle.hol_equal.specs.Applied.{lhs, rhs, substituted}
use Rattle.hol_equal.specs.Rules.{m_with}
use Rattle.hol_equal.proofs.Applies.{has_sides}
use Rattle.hol_equal.proofs.EqualImages.{both_typed, right_typed, substituted_derived}
use Rattle.hol_equal.proofs.Outcomes.{became}
use Rattle.hol_equal.proofs.Typings.{named_as}
use Rattle.hol_equal.proofs.replacement.subst.Goals as goal

pub known_sides-sides-requires : goal.known_sides-sides-requires
known_sides-sides-requires c =
    let a = c.args.a.now.sequent in
    record { equation = has_sides a.concl c.args.v.now.1 (lhs a.concl) (rhs a.concl) c.requires.equal }

pub m_with-requires : goal.m_with-requires
m_with-requires c =
    let B = c.args.a.now.basis in
    let a = c.args.a.now.sequent in
    let v = c.args.v.now in
    let m = nameless [] c.args.m.now in
    let l = c.known_sides-sides.result.left.now in
    let r = c.known_sides-sides.result.right.now in
    let is : a.concl ≡ equation v.1 (nameless [] l) (nameless [] r) = c.requires.equal ∙ (λ i. equation v.1 (lhs (c.known_sides-sides.ensures i)) (rhs (c.known_sides-sides.ensures i))) in
    let d = subst (Derives B a.hyps) is c.promise.ensures.derives in
    record { fits = named_as B r (nameless [] r) v.1 refl (both_typed B v m a.hyps l r c.requires.typed d).1 }

pub closed-requires : goal.closed-requires
closed-requires c =
    let B = c.args.a.now.basis in
    let a = c.args.a.now.sequent in
    let b = c.args.b.now.sequent in
    let v = c.args.v.now in
    let m = nameless [] c.args.m.now in
    let l = c.known_sides-sides.result.left.now in
    let r = c.known_sides-sides.result.right.now in
    let is : a.concl ≡ equation v.1 (nameless [] l) (nameless [] r) = c.requires.equal ∙ (λ i. equation v.1 (lhs (c.known_sides-sides.ensures i)) (rhs (c.known_sides-sides.ensures i))) in
    let d = subst (Derives B a.hyps) is c.promise.ensures.derives in
    let fits : strip (m_with (nameless [] l) v m) ≡ strip b.concl = sym (ap (λ (u : Nameless). strip (m_with (lhs u) v m)) c.known_sides-sides.ensures) ∙ c.requires.fits in
    let hyps = c.in_ok-hyps.ensures ∙ (λ i. set.union (c.hypotheses.ensures i) (c.hypotheses-2.ensures i)) in
    along_nameless B c.basis.result.now (set.union a.hyps b.hyps) c.in_ok-hyps.hyps (m_with (nameless [] r) v m) c.in_ok-concl.concl c.basis.ensures hyps c.in_ok-concl.ensures
    (substituted_derived B v m a.hyps l r c.requires.typed d b fits (second_over c.args.a.now c.args.b.now c.requires.one_basis c.promise-2.ensures.derives))
    (named_as B c.in_ok-concl.concl (m_with (nameless [] r) v m) bool_type c.in_ok-concl.ensures (right_typed B v m a.hyps l r c.requires.typed d))

pub returns : goal.returns
returns c =
    let B = c.args.a.now.basis in
    let a = c.args.a.now.sequent in
    let b = c.args.b.now.sequent in
    let v = c.args.v.now in
    let m = nameless [] c.args.m.now in
    let hyps = c.in_ok-hyps.ensures ∙ (λ i. set.union (c.hypotheses.ensures i) (c.hypotheses-2.ensures i)) in
    let concl : nameless [] c.in_ok-concl.concl ≡ m_with (rhs a.concl) v m = c.in_ok-concl.ensures ∙ sym (ap (λ (u : Nameless). m_with (rhs u) v m) c.known_sides-sides.ensures) in
    became c.closed.result (theorem_over c.basis.result.now c.in_ok-hyps.hyps (nameless [] c.in_ok-concl.concl)) (theorem_on B (substituted v m a b)) c.closed.ensures
    (λ i. theorem_over (c.basis.ensures i) (hyps i) (concl i))
