use Rattle.std.proofs.Common.{◌≡◌, ap, sym, ◌∙◌, subst, [], Some, codes, true}
use Rattle.std.specs.FinSet as set
use Rattle.hol_terms.specs.Nameless.{Nameless, nameless}
use Rattle.hol_formulas.specs.Equation.{bool_type}
use Rattle.hol_formulas.specs.Formula.{falsity, negation, implication, connective_type, is_falsity, dest_imp}
use Rattle.hol_formulas.proofs.FormulaLaws.{dest_binary_is}
use Rattle.hol_kernel.specs.Sequent.{sequent_of}
use Rattle.hol_kernel.specs.Theorem.{theorem_on, theorem_over, over}
use Rattle.hol_kernel.specs.Typing.{HasType}
use Rattle.hol_kernel.proofs.InstRules.{along_nameless}
use Rattle.hol_equal.specs.Applied.{lhs}
use Rattle.hol_derived.specs.Applied.{negated}
use Rattle.hol_derived.specs.Rules.{not_intro_of}
use Rattle.hol_derived.proofs.Connected.{operands_typed}
use Rattle.hol_derived.proofs.Derivations.{not_intro_derived}
use Rattle.hol_derived.proofs.Instances.{holds, refuted, gives_by}
use Rattle.hol_derived.proofs.RuleAnswers.{not_intro_none, not_intro_other, not_intro_gives, is_false}
use Rattle.hol_derived.proofs.rules.not_intro.Goals as goal

pub unreachable-requires : goal.unreachable-requires
unreachable-requires c =
    let B = c.args.a.now.basis in
    let a = c.args.a.now.sequent in
    refuted (over B (not_intro_of a)) c.requires.applies (ap (over B) (not_intro_none a (ap dest_imp (sym c.concl.ensures.concl) ∙ c.in_default.ensures.parts)))

pub closed-requires : goal.closed-requires
closed-requires c =
    let B = c.args.a.now.basis in
    let a = c.args.a.now.sequent in
    let p = nameless [] c.in-Some.p.now in
    let q = nameless [] c.in-Some._falsity.now in
    let found : dest_imp a.concl ≡ Some (p, q) = ap dest_imp (sym c.concl.ensures.concl) ∙ c.in-Some.ensures.parts in
    let parts : a.concl ≡ implication p q = dest_binary_is (codes "==>") connective_type a.concl (p, q) found in
    let refuted_by : is_falsity q ≡ true = holds (over B (not_intro_of a)) (is_falsity q) c.requires.applies (λ e. ap (over B) (not_intro_other a p q found e)) in
    let refutes : a.concl ≡ implication p falsity = parts ∙ ap (implication p) (is_false q refuted_by) in
    let types = operands_typed B (codes "==>") p q bool_type (subst (λ (u : Nameless). HasType B u bool_type) parts c.well_typed.ensures.conclusion) in
    along_nameless B c.basis.result.now (a.hyps) c.in_ok-hyps.hyps (negation p) c.in_ok-concl.concl c.basis.ensures
    (c.in_ok-hyps.ensures ∙ c.hypotheses.ensures)
    (ap (nameless []) c.in_ok-concl.ensures.is)
    (not_intro_derived B p q types.0 types.1 a refutes c.promise.ensures.derives)
    (c.in_ok-concl.ensures.typed)

pub returns : goal.returns
returns c =
    let B = c.args.a.now.basis in
    let a = c.args.a.now.sequent in
    let p = nameless [] c.in-Some.p.now in
    let q = nameless [] c.in-Some._falsity.now in
    let found : dest_imp a.concl ≡ Some (p, q) = ap dest_imp (sym c.concl.ensures.concl) ∙ c.in-Some.ensures.parts in
    let parts : a.concl ≡ implication p q = dest_binary_is (codes "==>") connective_type a.concl (p, q) found in
    let refuted_by : is_falsity q ≡ true = holds (over B (not_intro_of a)) (is_falsity q) c.requires.applies (λ e. ap (over B) (not_intro_other a p q found e)) in
    let refutes : a.concl ≡ implication p falsity = parts ∙ ap (implication p) (is_false q refuted_by) in
    let hs : c.in_ok-hyps.hyps ≡ a.hyps = c.in_ok-hyps.ensures ∙ c.hypotheses.ensures in
    let is : nameless [] c.in_ok-concl.concl ≡ negation p = ap (nameless []) c.in_ok-concl.ensures.is in
    gives_by c.closed.result (theorem_over c.basis.result.now c.in_ok-hyps.hyps (nameless [] c.in_ok-concl.concl)) B (not_intro_of a) (negated a) c.closed.ensures
    ((λ i. theorem_over (c.basis.ensures i) (hs i) (is i)) ∙ ap (λ (n : Nameless). theorem_on B (sequent_of a.hyps (negation (lhs n)))) (sym parts)) (not_intro_gives a p q found refuted_by)
