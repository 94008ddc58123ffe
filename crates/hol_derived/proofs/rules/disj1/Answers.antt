use Rattle.std.proofs.Common.{◌≡◌, ap, sym, ◌∙◌, [], refl, true}
use Rattle.std.specs.FinSet as set
use Rattle.hol_terms.specs.Nameless.{Nameless, nameless}
use Rattle.hol_formulas.specs.Equation.{bool_type}
use Rattle.hol_formulas.specs.Formula.{disjunction}
use Rattle.hol_kernel.specs.Theorem.{theorem_over, over}
use Rattle.hol_kernel.specs.Typing.{has_type}
use Rattle.hol_terms.proofs.Typing.{type_outside}
use Rattle.hol_kernel.proofs.Variables.{known_typed}
use Rattle.hol_kernel.proofs.Declared.{has_type_is}
use Rattle.hol_kernel.proofs.InstRules.{along_nameless}
use Rattle.hol_derived.specs.Applied.{with_right}
use Rattle.hol_derived.specs.Rules.{disj1_of}
use Rattle.hol_derived.proofs.MoreDerivations.{disj1_derived}
use Rattle.hol_derived.proofs.Instances.{holds, gives_by}
use Rattle.hol_derived.proofs.RuleAnswers.{disj1_none, disj1_gives}
use Rattle.hol_derived.proofs.rules.disj1.Goals as goal

pub closed-requires : goal.closed-requires
closed-requires c =
    let B = c.args.a.now.basis in
    let a = c.args.a.now.sequent in
    let q = nameless [] c.args.q.now in
    let has : has_type B q bool_type ≡ true = holds (over B (disj1_of B a q)) (has_type B q bool_type) c.requires.applies (λ e. ap (over B) (disj1_none B a q e)) in
    along_nameless B c.basis.result.now (a.hyps) c.in_ok-hyps.hyps (disjunction a.concl q) c.in_ok-concl.concl c.basis.ensures
    (c.in_ok-hyps.ensures ∙ c.hypotheses.ensures)
    (ap (nameless []) c.in_ok-concl.ensures.is ∙ ap (λ (n : Nameless). disjunction n q) c.concl.ensures.concl)
    (disj1_derived B a.concl q c.well_typed.ensures.conclusion (has_type_is B q bool_type has) a refl c.promise.ensures.derives)
    (c.in_ok-concl.ensures.typed)

pub returns : goal.returns
returns c =
    let B = c.args.a.now.basis in
    let a = c.args.a.now.sequent in
    let q = nameless [] c.args.q.now in
    let has : has_type B q bool_type ≡ true = holds (over B (disj1_of B a q)) (has_type B q bool_type) c.requires.applies (λ e. ap (over B) (disj1_none B a q e)) in
    let hs : c.in_ok-hyps.hyps ≡ a.hyps = c.in_ok-hyps.ensures ∙ c.hypotheses.ensures in
    let is : nameless [] c.in_ok-concl.concl ≡ disjunction a.concl q = ap (nameless []) c.in_ok-concl.ensures.is ∙ ap (λ (n : Nameless). disjunction n q) c.concl.ensures.concl in
    gives_by c.closed.result (theorem_over c.basis.result.now c.in_ok-hyps.hyps (nameless [] c.in_ok-concl.concl)) B (disj1_of B a q) (with_right a q) c.closed.ensures
    (λ i. theorem_over (c.basis.ensures i) (hs i) (is i)) (disj1_gives B a q has)

pub mk_disj-requires-clause-second : goal.mk_disj-requires-clause-second
mk_disj-requires-clause-second c =
    let B = c.args.a.now.basis in
    let a = c.args.a.now.sequent in
    let q = nameless [] c.args.q.now in
    let has : has_type B q bool_type ≡ true = holds (over B (disj1_of B a q)) (has_type B q bool_type) c.requires.applies (λ e. ap (over B) (disj1_none B a q e)) in
    sym (type_outside c.args.q.now) ∙ (known_typed B q bool_type (has_type_is B q bool_type has)).1
