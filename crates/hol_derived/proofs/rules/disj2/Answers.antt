use Rattle.std.proofs.Common.{◌≡◌, ap, sym, ◌∙◌, [], refl, true}
use Rattle.std.specs.FinSet as set
use Rattle.hol_terms.specs.Nameless.{Nameless, nameless}
use Rattle.hol_formulas.specs.Equation.{bool_type}
use Rattle.hol_formulas.specs.Formula.{disjunction}
use Rattle.hol_kernel.specs.Theorem.{theorem_over, over}
use Rattle.hol_kernel.specs.Typing.{has_type}
use Rattle.hol_terms.proofs.Typing.{type_outside}
use Rattle.hol_kernel.proofs.Variables.{known_typed}
use Rattle.hol_kernel.proofs.Declared.{has_type_is}
use Rattle.hol_kernel.proofs.InstRules.{along_nameless}
use Rattle.hol_derived.specs.Applied.{with_left}
use Rattle.hol_derived.specs.Rules.{disj2_of}
use Rattle.hol_derived.proofs.MoreDerivations.{disj2_derived}
use Rattle.hol_derived.proofs.Instances.{holds, gives_by}
use Rattle.hol_derived.proofs.RuleAnswers.{disj2_none, disj2_gives}
use Rattle.hol_derived.proofs.rules.disj2.Goals as goal

pub closed-requires : goal.closed-requires
closed-requires c =
    let B = c.args.a.now.basis in
    let a = c.args.a.now.sequent in
    let p = nameless [] c.args.p.now in
    let has : has_type B p bool_type ≡ true = holds (over B (disj2_of B p a)) (has_type B p bool_type) c.requires.applies (λ e. ap (over B) (disj2_none B a p e)) in
    along_nameless B c.basis.result.now (a.hyps) c.in_ok-hyps.hyps (disjunction p a.concl) c.in_ok-concl.concl c.basis.ensures
    (c.in_ok-hyps.ensures ∙ c.hypotheses.ensures)
    (ap (nameless []) c.in_ok-concl.ensures.is ∙ ap (λ (n : Nameless). disjunction p n) c.concl.ensures.concl)
    (disj2_derived B p a.concl (has_type_is B p bool_type has) c.well_typed.ensures.conclusion a refl c.promise.ensures.derives)
    (c.in_ok-concl.ensures.typed)

pub returns : goal.returns
returns c =
    let B = c.args.a.now.basis in
    let a = c.args.a.now.sequent in
    let p = nameless [] c.args.p.now in
    let has : has_type B p bool_type ≡ true = holds (over B (disj2_of B p a)) (has_type B p bool_type) c.requires.applies (λ e. ap (over B) (disj2_none B a p e)) in
    let hs : c.in_ok-hyps.hyps ≡ a.hyps = c.in_ok-hyps.ensures ∙ c.hypotheses.ensures in
    let is : nameless [] c.in_ok-concl.concl ≡ disjunction p a.concl = ap (nameless []) c.in_ok-concl.ensures.is ∙ ap (λ (n : Nameless). disjunction p n) c.concl.ensures.concl in
    gives_by c.closed.result (theorem_over c.basis.result.now c.in_ok-hyps.hyps (nameless [] c.in_ok-concl.concl)) B (disj2_of B p a) (with_left p a) c.closed.ensures
    (λ i. theorem_over (c.basis.ensures i) (hs i) (is i)) (disj2_gives B a p has)

pub mk_disj-requires-clause-first : goal.mk_disj-requires-clause-first
mk_disj-requires-clause-first c =
    let B = c.args.a.now.basis in
    let a = c.args.a.now.sequent in
    let p = nameless [] c.args.p.now in
    let has : has_type B p bool_type ≡ true = holds (over B (disj2_of B p a)) (has_type B p bool_type) c.requires.applies (λ e. ap (over B) (disj2_none B a p e)) in
    sym (type_outside c.args.p.now) ∙ (known_typed B p bool_type (has_type_is B p bool_type has)).1
