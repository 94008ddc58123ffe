use Rattle.std.proofs.Common.{◌≡◌, ap, sym, ◌∙◌, subst, [], Some, codes}
use Rattle.std.specs.FinSet as set
use Rattle.std.specs.Option.{option_map}
use Rattle.hol_terms.specs.Named.{named_type}
use Rattle.hol_terms.specs.Nameless.{Nameless, nameless}
use Rattle.hol_formulas.specs.Equation.{bool_type}
use Rattle.hol_formulas.specs.Formula.{conjunction, connective_type, dest_conj}
use Rattle.hol_formulas.proofs.FormulaLaws.{dest_binary_is}
use Rattle.hol_kernel.specs.Sequent.{sequent_of}
use Rattle.hol_kernel.specs.Theorem.{theorem_over, over}
use Rattle.hol_kernel.specs.Typing.{HasType}
use Rattle.hol_kernel.proofs.InstRules.{along_nameless}
use Rattle.hol_derived.specs.Rules.{conjunct1_of}
use Rattle.hol_derived.proofs.Connected.{operands_typed}
use Rattle.hol_derived.proofs.Derivations.{conjunct1_derived}
use Rattle.hol_derived.proofs.Instances.{refuted, gives_by}
use Rattle.hol_derived.proofs.rules.conjunct1.Goals as goal

pub unreachable-requires : goal.unreachable-requires
unreachable-requires c =
    let B = c.args.a.now.basis in
    let a = c.args.a.now.sequent in
    refuted (over B (conjunct1_of a)) c.requires.applies (ap (λ o. over B (option_map (λ x. sequent_of a.hyps x.0) o)) (ap dest_conj (sym c.concl.ensures.concl) ∙ c.in_default.ensures.parts))

pub closed-requires : goal.closed-requires
closed-requires c =
    let B = c.args.a.now.basis in
    let a = c.args.a.now.sequent in
    let p = nameless [] c.in-Some.p.now in
    let q = nameless [] c.in-Some._q.now in
    let found : dest_conj a.concl ≡ Some (p, q) = ap dest_conj (sym c.concl.ensures.concl) ∙ c.in-Some.ensures.parts in
    let parts : a.concl ≡ conjunction p q = dest_binary_is (codes "/\\") connective_type a.concl (p, q) found in
    let types = operands_typed B (codes "/\\") p q bool_type (subst (λ (u : Nameless). HasType B u bool_type) parts c.well_typed.ensures.conclusion) in
    along_nameless B c.basis.result.now (a.hyps) c.in_ok-hyps.hyps (p) c.in_ok-concl.concl c.basis.ensures
    (c.in_ok-hyps.ensures ∙ c.hypotheses.ensures)
    (ap (nameless []) c.in_ok-concl.ensures)
    (conjunct1_derived B p q types.0 types.1 a parts c.promise.ensures.derives)
    (ap named_type c.in_ok-concl.ensures ∙ c.in-Some.ensures.first)

pub returns : goal.returns
returns c =
    let B = c.args.a.now.basis in
    let a = c.args.a.now.sequent in
    let p = nameless [] c.in-Some.p.now in
    let q = nameless [] c.in-Some._q.now in
    let found : dest_conj a.concl ≡ Some (p, q) = ap dest_conj (sym c.concl.ensures.concl) ∙ c.in-Some.ensures.parts in
    let parts : a.concl ≡ conjunction p q = dest_binary_is (codes "/\\") connective_type a.concl (p, q) found in
    let hs : c.in_ok-hyps.hyps ≡ a.hyps = c.in_ok-hyps.ensures ∙ c.hypotheses.ensures in
    let is : nameless [] c.in_ok-concl.concl ≡ p = ap (nameless []) c.in_ok-concl.ensures in
    gives_by c.closed.result (theorem_over c.basis.result.now c.in_ok-hyps.hyps (nameless [] c.in_ok-concl.concl)) B (conjunct1_of a) (sequent_of a.hyps p) c.closed.ensures
    (λ i. theorem_over (c.basis.ensures i) (hs i) (is i)) (ap (option_map (λ x. sequent_of a.hyps x.0)) found)
