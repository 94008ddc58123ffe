use Rattle.std.specs.Prelude.{◌≡◌, List}
use Rattle.std.proofs.Common.{[], ◌∷◌, map, sym, ◌∙◌, subst, refl}
use Rattle.hol_terms.specs.Named.{Named}
use Rattle.hol_terms.specs.Nameless.{nameless}
use Rattle.hol_kernel.specs.Given.{given_sequent}
use Rattle.hol_just.specs.Leaving.{theorem_terms}
use Rattle.hol_goal.specs.Answer.{starting}
use Rattle.hol_just.specs.Strip.{avoiding, WaitingValue, waiting, strip}
use Rattle.hol_just.specs.Answering.{IsJustified}
use Rattle.hol_goal.specs.Arguments.{Theorem}
use Rattle.hol_steps.specs.Fresh.{AreAlike}
use Rattle.hol_steps.specs.Stripping.{IsStripped, KeepsValid}
use Rattle.hol_tac.proofs.StripLaws.{each_ok, theorem_valid}
use Rattle.hol_tac.proofs.stripping.strip_theorem.Goals as goal

pub returns-clause-answer : goal.returns-clause-answer
returns-clause-answer c =
    let th = c.args.th.now in
    let alike : AreAlike (map (nameless []) c.deref.result.now) (theorem_terms th) = subst (λ (ts : List Named). AreAlike (map (nameless []) ts) (theorem_terms th)) (sym c.deref.ensures.value) c.in_ok-others.ensures in
    let is : c.in_ok-first.first ≡ waiting ((given_sequent th).concl ∷ []) c.args.goal.now = c.in_ok-first.ensures ∙ (λ i. waiting (c.concl.ensures.concl i ∷ []) (c.in_ok-copy.ensures i)) in
    subst (λ (w : WaitingValue). IsStripped (strip (avoiding (theorem_terms th) c.args.names.now) w (starting c.args.turns)) c.strip.result) is (c.strip.ensures.answer (avoiding (theorem_terms th) c.args.names.now) (alike, refl))

pub returns-clause-valid : goal.returns-clause-valid
returns-clause-valid c =
    let th = c.args.th.now in
    let alike : AreAlike (map (nameless []) c.deref.result.now) (theorem_terms th) = subst (λ (ts : List Named). AreAlike (map (nameless []) ts) (theorem_terms th)) (sym c.deref.ensures.value) c.in_ok-others.ensures in
    let is : c.in_ok-first.first ≡ waiting ((given_sequent th).concl ∷ []) c.args.goal.now = c.in_ok-first.ensures ∙ (λ i. waiting (c.concl.ensures.concl i ∷ []) (c.in_ok-copy.ensures i)) in
    each_ok c.strip.result (λ tried. KeepsValid (avoiding (theorem_terms th) c.args.names.now) c.in_ok-before.before c.in_ok-first.first tried.step) (λ tried. IsJustified (Theorem th) c.args.goal.now tried.step)
    (λ tried k. theorem_valid th c.args.goal.now c.args.names.now c.in_ok-before.before c.in_ok-first.first tried.step is c.in_ok-before.ensures k) (c.strip.ensures.valid (avoiding (theorem_terms th) c.args.names.now) (alike, refl))
