use Rattle.std.proofs.Common.{◌≡◌, ap, sym, ◌∙◌, subst, [], Some, codes, true}
use Rattle.std.specs.FinSet as set
use Rattle.hol_terms.specs.Named.{named_type}
use Rattle.hol_terms.specs.Nameless.{Nameless, nameless}
use Rattle.hol_terms.specs.Alpha.{strip, alpha_eq}
use Rattle.hol_terms.proofs.Alpha.{alpha_eq_decides}
use Rattle.hol_formulas.specs.Equation.{bool_type}
use Rattle.hol_formulas.specs.Formula.{implication, connective_type, dest_imp}
use Rattle.hol_formulas.proofs.FormulaLaws.{dest_binary_is}
use Rattle.hol_kernel.specs.Sequent.{sequent_of}
use Rattle.hol_kernel.specs.Theorem.{theorem_over, over}
use Rattle.hol_kernel.specs.Typing.{HasType}
use Rattle.hol_kernel.proofs.InstRules.{along_nameless}
use Rattle.hol_kernel.proofs.Sound.{second_over}
use Rattle.hol_equal.specs.Applied.{rhs}
use Rattle.hol_derived.specs.Rules.{mp_of}
use Rattle.hol_derived.proofs.Connected.{operands_typed}
use Rattle.hol_derived.proofs.Derivations.{mp_derived}
use Rattle.hol_derived.proofs.Instances.{holds, refuted, gives_by}
use Rattle.hol_derived.proofs.RuleAnswers.{mp_none, mp_other, mp_gives}
use Rattle.hol_derived.proofs.rules.mp.Goals as goal

pub unreachable-requires : goal.unreachable-requires
unreachable-requires c =
    let B = c.args.a.now.basis in
    let a = c.args.a.now.sequent in
    let b = c.args.b.now.sequent in
    refuted (over B (mp_of a b)) c.requires.applies (ap (over B) (mp_none a b (ap dest_imp (sym c.concl.ensures.concl) ∙ c.in_default.ensures.parts)))

pub closed-requires : goal.closed-requires
closed-requires c =
    let B = c.args.a.now.basis in
    let a = c.args.a.now.sequent in
    let b = c.args.b.now.sequent in
    let p = nameless [] c.in-Some._p.now in
    let q = nameless [] c.in-Some.q.now in
    let found : dest_imp a.concl ≡ Some (p, q) = ap dest_imp (sym c.concl.ensures.concl) ∙ c.in-Some.ensures.parts in
    let parts : a.concl ≡ implication p q = dest_binary_is (codes "==>") connective_type a.concl (p, q) found in
    let same : alpha_eq p b.concl ≡ true = holds (over B (mp_of a b)) (alpha_eq p b.concl) c.requires.applies (λ e. ap (over B) (mp_other a b p q found e)) in
    let types = operands_typed B (codes "==>") p q bool_type (subst (λ (u : Nameless). HasType B u bool_type) parts c.well_typed.ensures.conclusion) in
    along_nameless B c.basis.result.now (set.union a.hyps b.hyps) c.in_ok-hyps.hyps (q) c.in_ok-concl.concl c.basis.ensures
    (c.in_ok-hyps.ensures ∙ (λ i. set.union (c.hypotheses.ensures i) (c.hypotheses-2.ensures i)))
    (ap (nameless []) c.in_ok-concl.ensures)
    (mp_derived B p q types.0 types.1 a b (ap strip (sym parts)) ((alpha_eq_decides p b.concl).0 same) c.promise.ensures.derives (second_over c.args.a.now c.args.b.now c.requires.same_basis c.promise-2.ensures.derives))
    (ap named_type c.in_ok-concl.ensures ∙ c.in-Some.ensures.second)

pub returns : goal.returns
returns c =
    let B = c.args.a.now.basis in
    let a = c.args.a.now.sequent in
    let b = c.args.b.now.sequent in
    let p = nameless [] c.in-Some._p.now in
    let q = nameless [] c.in-Some.q.now in
    let found : dest_imp a.concl ≡ Some (p, q) = ap dest_imp (sym c.concl.ensures.concl) ∙ c.in-Some.ensures.parts in
    let parts : a.concl ≡ implication p q = dest_binary_is (codes "==>") connective_type a.concl (p, q) found in
    let same : alpha_eq p b.concl ≡ true = holds (over B (mp_of a b)) (alpha_eq p b.concl) c.requires.applies (λ e. ap (over B) (mp_other a b p q found e)) in
    let hs : c.in_ok-hyps.hyps ≡ set.union a.hyps b.hyps = c.in_ok-hyps.ensures ∙ (λ i. set.union (c.hypotheses.ensures i) (c.hypotheses-2.ensures i)) in
    let is : nameless [] c.in_ok-concl.concl ≡ q = ap (nameless []) c.in_ok-concl.ensures in
    gives_by c.closed.result (theorem_over c.basis.result.now c.in_ok-hyps.hyps (nameless [] c.in_ok-concl.concl)) B (mp_of a b) (sequent_of (set.union a.hyps b.hyps) q) c.closed.ensures
    (λ i. theorem_over (c.basis.ensures i) (hs i) (is i)) (mp_gives a b p q found same ∙ ap (λ t. Some (sequent_of (set.union a.hyps b.hyps) (rhs t))) parts)
