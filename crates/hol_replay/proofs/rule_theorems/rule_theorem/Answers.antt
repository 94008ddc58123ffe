-- The theorem over the basis is generalized to the source's conclusion, from which the rule's way leads to its formula.
use Rattle.std.proofs.Common.{◌≡◌, ◌∙◌, ap, sym, subst, true}
use Rattle.std.specs.Prelude.{IsSome}
use Rattle.std.proofs.lemmas.Result.{IfOk-weaker}
use Rattle.hol_kernel.specs.Given.{given_sequent}
use Rattle.hol_kernel.specs.Theorem.{theorem_on}
use Rattle.hol_match.specs.Rules.{generalized}
use Rattle.hol_match.specs.Givens.{holds_given}
use Rattle.hol_match.specs.SetView.{set_given}
use Rattle.hol_match.specs.Ways.{way}
use Rattle.hol_replay.specs.RuleSteps.{IsSame, IsFollowed, AreGeneral}
use Rattle.hol_replay.proofs.RuleTheorems.{general, way_found, single_found, rule_found}
use Rattle.hol_replay.proofs.rule_theorems.rule_theorem.Goals as goal

pub given_theorem-requires : goal.given_theorem-requires
given_theorem-requires c = subst (λ g. holds_given g c.args.basis.now ≡ true) (sym c.given.ensures) c.requires

pub generalized-requires : goal.generalized-requires
generalized-requires c =
    let B = c.args.basis.now in
    let R = c.args.rule.now in
    let th = c.in_ok-given.given in
    let e : th ≡ theorem_on B (given_sequent (set_given R)) = c.in_ok-given.ensures ∙ ap (λ g. theorem_on B (given_sequent g)) c.given.ensures in
    subst (AreGeneral th.basis th.sequent.hyps) (sym c.variables.ensures) (general R.source.value B th c.sound.ensures.source e c.well_typed.ensures)

pub followed-requires : goal.followed-requires
followed-requires c =
    let B = c.args.basis.now in
    let R = c.args.rule.now in
    let th = c.in_ok-given.given in
    let whole = c.in_ok-whole.whole in
    let e : th ≡ theorem_on B (given_sequent (set_given R)) = c.in_ok-given.ensures ∙ ap (λ g. theorem_on B (given_sequent g)) c.given.ensures in
    let same : IsSame (generalized R.source.value.variables.items th.sequent.concl) th whole = subst (λ vs. IsSame (generalized vs th.sequent.concl) th whole) c.variables.ensures c.in_ok-whole.ensures in
    subst (λ l. IsSome (way l whole.sequent.concl)) (sym c.way.ensures) (way_found R B th whole c.sound.ensures.way e same)

pub as_equation-requires : goal.as_equation-requires
as_equation-requires c =
    let B = c.args.basis.now in
    let R = c.args.rule.now in
    let th = c.in_ok-given.given in
    let whole = c.in_ok-whole.whole in
    let part = c.in_ok-part.part in
    let e : th ≡ theorem_on B (given_sequent (set_given R)) = c.in_ok-given.ensures ∙ ap (λ g. theorem_on B (given_sequent g)) c.given.ensures in
    let same : IsSame (generalized R.source.value.variables.items th.sequent.concl) th whole = subst (λ vs. IsSame (generalized vs th.sequent.concl) th whole) c.variables.ensures c.in_ok-whole.ensures in
    single_found R B th whole part c.sound.ensures.way e same (subst (λ l. IsFollowed l whole part) c.way.ensures c.in_ok-part.ensures)

pub returns : goal.returns
returns c =
    let B = c.args.basis.now in
    let R = c.args.rule.now in
    let th = c.in_ok-given.given in
    let whole = c.in_ok-whole.whole in
    let part = c.in_ok-part.part in
    let e : th ≡ theorem_on B (given_sequent (set_given R)) = c.in_ok-given.ensures ∙ ap (λ g. theorem_on B (given_sequent g)) c.given.ensures in
    let same : IsSame (generalized R.source.value.variables.items th.sequent.concl) th whole = subst (λ vs. IsSame (generalized vs th.sequent.concl) th whole) c.variables.ensures c.in_ok-whole.ensures in
    IfOk-weaker c.as_equation.result _ _ (λ r h. rule_found R B th whole part r e same (subst (λ l. IsFollowed l whole part) c.way.ensures c.in_ok-part.ensures) h) c.as_equation.ensures
