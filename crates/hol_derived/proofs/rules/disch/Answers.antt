use Rattle.std.proofs.Common.{◌≡◌, ap, sym, ◌∙◌, [], true}
use Rattle.std.specs.FinSet as set
use Rattle.hol_terms.specs.Nameless.{Nameless, nameless}
use Rattle.hol_terms.specs.Alpha.{strip}
use Rattle.hol_formulas.specs.Equation.{bool_type}
use Rattle.hol_formulas.specs.Formula.{implication}
use Rattle.hol_kernel.specs.Sequent.{Hyps}
use Rattle.hol_kernel.specs.Theorem.{theorem_over, over}
use Rattle.hol_kernel.specs.Typing.{has_type}
use Rattle.hol_terms.proofs.Typing.{type_outside}
use Rattle.hol_kernel.proofs.Variables.{known_typed}
use Rattle.hol_kernel.proofs.Declared.{has_type_is}
use Rattle.hol_kernel.proofs.InstRules.{along_nameless}
use Rattle.hol_derived.specs.Applied.{discharged}
use Rattle.hol_derived.specs.Rules.{disch_of}
use Rattle.hol_derived.proofs.Derivations.{disch_derived}
use Rattle.hol_derived.proofs.Instances.{holds, gives_by}
use Rattle.hol_derived.proofs.RuleAnswers.{disch_none, disch_gives}
use Rattle.hol_derived.proofs.rules.disch.Goals as goal

pub closed-requires : goal.closed-requires
closed-requires c =
    let B = c.args.a.now.basis in
    let a = c.args.a.now.sequent in
    let p = nameless [] c.args.p.now in
    let has : has_type B p bool_type ≡ true = holds (over B (disch_of B p a)) (has_type B p bool_type) c.requires.applies (λ e. ap (over B) (disch_none B p a e)) in
    along_nameless B c.basis.result.now (set.remove a.hyps (strip p)) c.in_ok-hyps.hyps (implication p a.concl) c.in_ok-concl.concl c.basis.ensures
    (c.in_ok-hyps.ensures ∙ ap (λ (hs : Hyps). set.remove hs (strip p)) c.hypotheses.ensures)
    (ap (nameless []) c.in_ok-concl.ensures.is ∙ ap (λ (n : Nameless). implication p n) c.concl.ensures.concl)
    (disch_derived B p a.concl (has_type_is B p bool_type has) c.well_typed.ensures.conclusion a.hyps c.promise.ensures.derives)
    (c.in_ok-concl.ensures.typed)

pub returns : goal.returns
returns c =
    let B = c.args.a.now.basis in
    let a = c.args.a.now.sequent in
    let p = nameless [] c.args.p.now in
    let has : has_type B p bool_type ≡ true = holds (over B (disch_of B p a)) (has_type B p bool_type) c.requires.applies (λ e. ap (over B) (disch_none B p a e)) in
    let hs : c.in_ok-hyps.hyps ≡ set.remove a.hyps (strip p) = c.in_ok-hyps.ensures ∙ ap (λ (hs : Hyps). set.remove hs (strip p)) c.hypotheses.ensures in
    let is : nameless [] c.in_ok-concl.concl ≡ implication p a.concl = ap (nameless []) c.in_ok-concl.ensures.is ∙ ap (λ (n : Nameless). implication p n) c.concl.ensures.concl in
    gives_by c.closed.result (theorem_over c.basis.result.now c.in_ok-hyps.hyps (nameless [] c.in_ok-concl.concl)) B (disch_of B p a) (discharged p a) c.closed.ensures
    (λ i. theorem_over (c.basis.ensures i) (hs i) (is i)) (disch_gives B p a has)

pub mk_imp-requires-clause-first : goal.mk_imp-requires-clause-first
mk_imp-requires-clause-first c =
    let B = c.args.a.now.basis in
    let a = c.args.a.now.sequent in
    let p = nameless [] c.args.p.now in
    let has : has_type B p bool_type ≡ true = holds (over B (disch_of B p a)) (has_type B p bool_type) c.requires.applies (λ e. ap (over B) (disch_none B p a e)) in
    sym (type_outside c.args.p.now) ∙ (known_typed B p bool_type (has_type_is B p bool_type has)).1
