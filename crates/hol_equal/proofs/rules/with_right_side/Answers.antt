use Rattle.std.proofs.Common.{◌≡◌, ap, sym, ◌∙◌, subst, [], true, refl}
use Rattle.hol_terms.specs.Named.{var}
use Rattle.hol_terms.specs.Nameless.{Nameless, nameless}
use Rattle.hol_terms.specs.Alpha.{alpha_eq}
use Rattle.hol_formulas.specs.Equation.{bool_type}
use Rattle.hol_formulas.proofs.EquationTypes.{type_eq_itself}
use Rattle.hol_kernel.specs.Typing.{HasType}
use Rattle.hol_kernel.proofs.Declared.{has_type_of}
use Rattle.hol_kernel.proofs.WellTyped.{sides_typed}
use Rattle.hol_equal.specs.Applied.{lhs, rhs, substituted}
use Rattle.hol_equal.specs.Rules.{m_with, subst_of}
use Rattle.hol_equal.proofs.Answered.{gives}
use Rattle.hol_equal.proofs.Applies.{has_sides}
use Rattle.hol_equal.proofs.Replaced.{subst_gives}
use Rattle.hol_equal.proofs.Typings.{named_as}
use Rattle.hol_equal.proofs.rules.with_right_side.Goals as goal

pub known_sides-sides-requires : goal.known_sides-sides-requires
known_sides-sides-requires c =
    let s = c.args.a.now.sequent in
    record { equation = has_sides s.concl c.args.v.now.1 (lhs s.concl) (rhs s.concl) c.requires.equal }

pub m_with-requires : goal.m_with-requires
m_with-requires c =
    let B = c.args.a.now.basis in
    let s = c.args.a.now.sequent in
    let v = c.args.v.now in
    let typed = sides_typed B v.1 bool_type (lhs s.concl) (rhs s.concl) (subst (λ (u : Nameless). HasType B u bool_type) c.requires.equal c.well_typed.ensures.conclusion) in
    record { fits = named_as B c.known_sides-sides.result.left.now (lhs s.concl) v.1 (sym (ap lhs c.known_sides-sides.ensures)) typed.0 }

pub returns-clause-sequent : goal.returns-clause-sequent
returns-clause-sequent c =
    let B = c.args.a.now.basis in
    let s = c.args.a.now.sequent in
    let b = c.args.b.now.sequent in
    let v = c.args.v.now in
    let m = nameless [] c.args.m.now in
    let image : nameless [] c.in_ok-image.image ≡ m_with (lhs s.concl) v m = c.in_ok-image.ensures ∙ sym (ap (λ (u : Nameless). m_with (lhs u) v m) c.known_sides-sides.ensures) in
    let test : true ≡ alpha_eq (m_with (lhs s.concl) v m) b.concl = c.if-not-alpha_equivalent.ensures.test ∙ (λ i. alpha_eq (image i) (c.concl.ensures.concl i)) in
    gives B (subst_of B s (var v) m b) (substituted v m s b) c.in_ok-subst.field-0 (subst_gives B s v m b v.1 (lhs s.concl) (rhs s.concl) c.requires.equal (type_eq_itself v.1) (has_type_of B m bool_type c.requires.typed) (sym test))
    c.in_ok-subst.ensures
