use Rattle.std.proofs.Common.{◌≡◌, ap, sym, ◌∙◌, subst, [], Some, codes}
use Rattle.std.specs.Prelude.{None}
use Rattle.std.specs.FinSet as set
use Rattle.hol_terms.specs.Nameless.{Nameless, nameless}
use Rattle.hol_formulas.specs.Equation.{bool_type}
use Rattle.hol_formulas.specs.Formula.{falsity, negation, equivalence, negation_type, dest_neg}
use Rattle.hol_formulas.proofs.FormulaLaws.{dest_unary_is}
use Rattle.hol_kernel.specs.Sequent.{sequent_of}
use Rattle.hol_kernel.specs.Theorem.{theorem_on, theorem_over}
use Rattle.hol_kernel.specs.Typing.{HasType}
use Rattle.hol_kernel.proofs.InstRules.{along_nameless}
use Rattle.hol_equal.proofs.Outcomes.{became}
use Rattle.hol_equal.specs.Applied.{rand}
use Rattle.hol_derived.specs.Applied.{false_of}
use Rattle.hol_derived.proofs.Disjunctions.{argument_typed}
use Rattle.hol_derived.proofs.MoreDerivations.{eqf_intro_derived}
use Rattle.hol_derived.proofs.rules.eqf_intro.Goals as goal

pub unreachable-requires : goal.unreachable-requires
unreachable-requires c =
    let s = c.args.a.now.sequent in
    let p = rand s.concl in
    let same : Some p ≡ None = sym (ap dest_neg c.requires.is) ∙ ap dest_neg (sym c.concl.ensures.concl) ∙ c.in_default.ensures.part in absurd (cc)

pub closed-requires : goal.closed-requires
closed-requires c =
    let B = c.args.a.now.basis in
    let a = c.args.a.now.sequent in
    let p = nameless [] c.in-Some.p.now in
    let found : dest_neg a.concl ≡ Some p = ap dest_neg (sym c.concl.ensures.concl) ∙ c.in-Some.ensures.part in
    let parts : a.concl ≡ negation p = dest_unary_is (codes "~") negation_type a.concl p found in
    let typed : HasType B p bool_type = argument_typed B (codes "~") bool_type bool_type bool_type p (subst (λ (u : Nameless). HasType B u bool_type) parts c.well_typed.ensures.conclusion) in
    along_nameless B c.basis-2.result.now (a.hyps) c.in_ok-hyps.hyps (equivalence p falsity) c.in_ok-concl.concl c.basis-2.ensures
    (c.in_ok-hyps.ensures ∙ c.hypotheses.ensures)
    (ap (nameless []) c.in_ok-concl.ensures.is)
    (eqf_intro_derived B p p typed typed a parts c.promise.ensures.derives)
    (c.in_ok-concl.ensures.typed)

pub returns : goal.returns
returns c =
    let B = c.args.a.now.basis in
    let a = c.args.a.now.sequent in
    let p = nameless [] c.in-Some.p.now in
    let found : dest_neg a.concl ≡ Some p = ap dest_neg (sym c.concl.ensures.concl) ∙ c.in-Some.ensures.part in
    let parts : a.concl ≡ negation p = dest_unary_is (codes "~") negation_type a.concl p found in
    let hs : c.in_ok-hyps.hyps ≡ a.hyps = c.in_ok-hyps.ensures ∙ c.hypotheses.ensures in
    let is : nameless [] c.in_ok-concl.concl ≡ equivalence p falsity = ap (nameless []) c.in_ok-concl.ensures.is in
    became c.closed.result (theorem_over c.basis-2.result.now c.in_ok-hyps.hyps (nameless [] c.in_ok-concl.concl)) (theorem_on B (false_of a)) c.closed.ensures
    ((λ i. theorem_over (c.basis-2.ensures i) (hs i) (is i)) ∙ ap (λ (n : Nameless). theorem_on B (sequent_of a.hyps (equivalence (rand n) falsity))) (sym parts))
