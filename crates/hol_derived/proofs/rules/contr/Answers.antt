use Rattle.std.proofs.Common.{◌≡◌, ap, sym, ◌∙◌, [], true}
use Rattle.std.specs.FinSet as set
use Rattle.hol_terms.specs.Named.{named_type}
use Rattle.hol_terms.specs.Nameless.{nameless}
use Rattle.hol_formulas.specs.Equation.{bool_type}
use Rattle.hol_formulas.specs.Formula.{is_falsity}
use Rattle.hol_kernel.specs.Sequent.{sequent_of}
use Rattle.hol_kernel.specs.Theorem.{theorem_over, over}
use Rattle.hol_kernel.specs.Typing.{has_type}
use Rattle.hol_terms.proofs.Typing.{type_outside}
use Rattle.hol_kernel.proofs.Variables.{known_typed}
use Rattle.hol_kernel.proofs.Declared.{has_type_is}
use Rattle.hol_kernel.proofs.InstRules.{along_nameless}
use Rattle.hol_derived.specs.Rules.{contr_of}
use Rattle.hol_derived.proofs.MoreDerivations.{contr_derived}
use Rattle.hol_derived.proofs.Instances.{holds, gives_by}
use Rattle.hol_derived.proofs.RuleAnswers.{is_false, contr_other, contr_none, contr_gives}
use Rattle.hol_derived.proofs.rules.contr.Goals as goal

pub closed-requires : goal.closed-requires
closed-requires c =
    let B = c.args.a.now.basis in
    let a = c.args.a.now.sequent in
    let p = nameless [] c.args.p.now in
    let false_one : is_falsity a.concl ≡ true = holds (over B (contr_of B p a)) (is_falsity a.concl) c.requires.applies (λ e. ap (over B) (contr_other B p a e)) in
    let has : has_type B p bool_type ≡ true = holds (over B (contr_of B p a)) (has_type B p bool_type) c.requires.applies (λ e. ap (over B) (contr_none B p a e)) in
    along_nameless B c.basis.result.now (a.hyps) c.in_ok-hyps.hyps (p) c.in_ok-concl.concl c.basis.ensures
    (c.in_ok-hyps.ensures ∙ c.hypotheses.ensures)
    (ap (nameless []) c.in_ok-concl.ensures)
    (contr_derived B p p (has_type_is B p bool_type has) (has_type_is B p bool_type has) a (is_false a.concl false_one) c.promise.ensures.derives)
    (ap named_type c.in_ok-concl.ensures ∙ sym (type_outside c.args.p.now) ∙ (known_typed B p bool_type (has_type_is B p bool_type has)).1)

pub returns : goal.returns
returns c =
    let B = c.args.a.now.basis in
    let a = c.args.a.now.sequent in
    let p = nameless [] c.args.p.now in
    let false_one : is_falsity a.concl ≡ true = holds (over B (contr_of B p a)) (is_falsity a.concl) c.requires.applies (λ e. ap (over B) (contr_other B p a e)) in
    let has : has_type B p bool_type ≡ true = holds (over B (contr_of B p a)) (has_type B p bool_type) c.requires.applies (λ e. ap (over B) (contr_none B p a e)) in
    let hs : c.in_ok-hyps.hyps ≡ a.hyps = c.in_ok-hyps.ensures ∙ c.hypotheses.ensures in
    let is : nameless [] c.in_ok-concl.concl ≡ p = ap (nameless []) c.in_ok-concl.ensures in
    gives_by c.closed.result (theorem_over c.basis.result.now c.in_ok-hyps.hyps (nameless [] c.in_ok-concl.concl)) B (contr_of B p a) (sequent_of a.hyps p) c.closed.ensures
    (λ i. theorem_over (c.basis.ensures i) (hs i) (is i)) (contr_gives B p a false_one has)
