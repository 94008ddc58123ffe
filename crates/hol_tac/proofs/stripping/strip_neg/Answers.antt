use Rattle.std.specs.Prelude.{◌≡◌}
use Rattle.std.proofs.Common.{[], ◌∷◌, ap, ◌∙◌, subst, refl}
use Rattle.hol_terms.specs.Nameless.{nameless}
use Rattle.hol_formulas.specs.Formula.{falsity}
use Rattle.hol_kernel.specs.Sequent.{no_hyps}
use Rattle.hol_just.specs.Leaving.{concluding}
use Rattle.hol_goal.specs.Answer.{starting}
use Rattle.hol_just.specs.Strip.{avoiding, WaitingValue, waiting, strip}
use Rattle.hol_just.specs.Answering.{IsJustified}
use Rattle.hol_goal.specs.Arguments.{Nothing}
use Rattle.hol_steps.specs.Stripping.{IsStripped, KeepsValid}
use Rattle.hol_tac.proofs.Valid.{disch_neg_valid}
use Rattle.hol_tac.proofs.StripLaws.{each_ok, antecedent_valid}
use Rattle.hol_tac.proofs.stripping.strip_neg.Goals as goal

pub returns-clause-answer : goal.returns-clause-answer
returns-clause-answer c =
    let left : c.in_ok-left.left ≡ concluding c.args.goal.now falsity = c.in_ok-left.ensures ∙ ap (λ t. concluding c.args.goal.now (nameless [] t)) c.in_ok-mk_falsity.ensures.is in
    let is : c.in_ok-first.first ≡ waiting (nameless [] c.args.p.now ∷ []) (concluding c.args.goal.now falsity) = c.in_ok-first.ensures ∙ ap (waiting (nameless [] c.args.p.now ∷ [])) left in
    subst (λ (w : WaitingValue). IsStripped (strip (avoiding [] c.args.names.now) w (starting c.args.turns)) c.strip.result) is (c.strip.ensures.answer (avoiding [] c.args.names.now) ((λ a. refl), refl))

pub returns-clause-valid : goal.returns-clause-valid
returns-clause-valid c =
    let g = c.args.goal.now in
    let p = nameless [] c.args.p.now in
    let left : c.in_ok-left.left ≡ concluding g falsity = c.in_ok-left.ensures ∙ ap (λ t. concluding g (nameless [] t)) c.in_ok-mk_falsity.ensures.is in
    let is : c.in_ok-first.first ≡ waiting (p ∷ []) (concluding g falsity) = c.in_ok-first.ensures ∙ ap (waiting (p ∷ [])) left in
    each_ok c.strip.result (λ tried. KeepsValid (avoiding [] c.args.names.now) c.in_ok-before.before c.in_ok-first.first tried.step) (λ tried. IsJustified Nothing g tried.step)
    (λ tried k. antecedent_valid g c.args.names.now c.in_ok-before.before c.in_ok-first.first tried.step p falsity is (disch_neg_valid no_hyps g g.conclusion refl c.in_ok-before.before p c.requires.parts c.in_ok-before.ensures) k)
    (c.strip.ensures.valid (avoiding [] c.args.names.now) ((λ a. refl), refl))
