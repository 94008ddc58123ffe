use Rattle.std.proofs.Common.{ap, sym, ◌∙◌, []}
use Rattle.hol_terms.specs.Named.{comb}
use Rattle.hol_terms.specs.Nameless.{nameless, app}
use Rattle.hol_terms.proofs.Typing.{type_outside}
use Rattle.hol_formulas.specs.Equation.{equation}
use Rattle.hol_kernel.specs.Theorem.{theorem_on, theorem_over}
use Rattle.hol_kernel.proofs.InstRules.{along_nameless}
use Rattle.hol_kernel.proofs.Variables.{known_typed}
use Rattle.hol_equal.specs.Applied.{at_argument}
use Rattle.hol_equal.proofs.AtArgument.{at_argument_is, at_argument_derived, at_argument_typed}
use Rattle.hol_equal.proofs.Outcomes.{became}
use Rattle.hol_equal.proofs.applied.ap_thm.Goals as goal

pub application_to-requires : goal.application_to-requires
application_to-requires c =
    sym (type_outside (comb c.known_sides-sides.result.left.now c.args.x.now)) ∙ (known_typed c.args.a.now.basis (app (nameless [] c.known_sides-sides.result.left.now) (nameless [] c.args.x.now)) _ (at_argument_typed _ _ _ _ c.requires.typed c.requires.applies c.promise.ensures.derives _ _ _ c.known_sides-sides.ensures (c.in-Some._domain.now, c.in-Some.range.now) c.in-Some.ensures).0).1

pub application_to-requires-2 : goal.application_to-requires-2
application_to-requires-2 c =
    sym (type_outside (comb c.known_sides-sides.result.right.now c.args.x.now)) ∙ (known_typed c.args.a.now.basis (app (nameless [] c.known_sides-sides.result.right.now) (nameless [] c.args.x.now)) _ (at_argument_typed _ _ _ _ c.requires.typed c.requires.applies c.promise.ensures.derives _ _ _ c.known_sides-sides.ensures (c.in-Some._domain.now, c.in-Some.range.now) c.in-Some.ensures).1).1

pub equation-requires-clause-left : goal.equation-requires-clause-left
equation-requires-clause-left c =
    rw c.in_ok-left.ensures (sym (type_outside (comb c.known_sides-sides.result.left.now c.args.x.now)) ∙ (known_typed c.args.a.now.basis (app (nameless [] c.known_sides-sides.result.left.now) (nameless [] c.args.x.now)) _ (at_argument_typed _ _ _ _ c.requires.typed c.requires.applies c.promise.ensures.derives _ _ _ c.known_sides-sides.ensures (c.in-Some._domain.now, c.in-Some.range.now) c.in-Some.ensures).0).1)

pub equation-requires-clause-right : goal.equation-requires-clause-right
equation-requires-clause-right c =
    rw c.in_ok-right.ensures (sym (type_outside (comb c.known_sides-sides.result.right.now c.args.x.now)) ∙ (known_typed c.args.a.now.basis (app (nameless [] c.known_sides-sides.result.right.now) (nameless [] c.args.x.now)) _ (at_argument_typed _ _ _ _ c.requires.typed c.requires.applies c.promise.ensures.derives _ _ _ c.known_sides-sides.ensures (c.in-Some._domain.now, c.in-Some.range.now) c.in-Some.ensures).1).1)

pub closed-requires : goal.closed-requires
closed-requires c =
    along_nameless _ c.basis-2.result.now _ c.in_ok-hyps.hyps _ c.in_ok-concl.concl c.basis-2.ensures (c.in_ok-hyps.ensures ∙ c.hypotheses.ensures)
    (ap (nameless []) c.in_ok-concl.ensures.is ∙ (λ i. equation c.in-Some.range.now (nameless [] (c.in_ok-left.ensures i)) (nameless [] (c.in_ok-right.ensures i))))
    (at_argument_derived _ _ _ _ c.requires.typed c.requires.applies c.promise.ensures.derives _ _ _ c.known_sides-sides.ensures (c.in-Some._domain.now, c.in-Some.range.now) c.in-Some.ensures) c.in_ok-concl.ensures.typed

pub returns : goal.returns
returns c =
    let is = ap (nameless []) c.in_ok-concl.ensures.is ∙ (λ i. equation c.in-Some.range.now (nameless [] (c.in_ok-left.ensures i)) (nameless [] (c.in_ok-right.ensures i))) in
    became c.closed.result (theorem_over c.basis-2.result.now c.in_ok-hyps.hyps (nameless [] c.in_ok-concl.concl)) (theorem_on c.args.a.now.basis (at_argument (nameless [] c.args.x.now) c.args.a.now.sequent)) c.closed.ensures
    ((λ i. theorem_over (c.basis-2.ensures i) ((c.in_ok-hyps.ensures ∙ c.hypotheses.ensures) i) (is i))
    ∙ ap (theorem_on c.args.a.now.basis) (sym (at_argument_is _ _ _ _ c.requires.typed c.requires.applies c.promise.ensures.derives _ _ _ c.known_sides-sides.ensures (c.in-Some._domain.now, c.in-Some.range.now) c.in-Some.ensures)))
