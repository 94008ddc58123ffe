use Rattle.std.specs.Prelude.{List}
use Rattle.std.proofs.Common.{[], ◌∷◌, ap, sym, ◌∙◌, refl, subst}
use Rattle.hol_terms.specs.Nameless.{nameless}
use Rattle.hol_goal.specs.Goal.{GoalValue}
use Rattle.hol_just.specs.Leaving.{assuming}
use Rattle.hol_goal.specs.UsedView.{used_value}
use Rattle.hol_just.specs.Strip.{Kept, waiting}
use Rattle.hol_just.specs.Valid.{IsValid}
use Rattle.hol_just.specs.Justifies.{always}
use Rattle.hol_just.specs.declared.reason.Move.{Move}
use Rattle.hol_steps.specs.Parts.{with_pieces}
use Rattle.hol_steps.proofs.PieceLaws.{kept_valid, one_always}
use Rattle.hol_steps.proofs.pieces.kept.Goals as goal

pub returns : goal.returns
returns c =
    let n = nameless [] c.args.piece.now in
    let rest = c.args.rest in
    let new = waiting rest.pieces (assuming rest.goal n rest.goal.conclusion) in
    one_always c.one_part.result n rest (used_value c.args.used) Kept c.on.result new c.none.result
    (c.on.ensures ∙ ap (waiting rest.pieces) (c.in_ok-goal.ensures ∙ (λ i. assuming (c.goal.ensures i) n ((c.conclusion.ensures.term ∙ ap (λ (g : GoalValue). g.conclusion) c.goal-2.ensures) i))))
    (λ avoided. refl)
    (λ extra. subst (λ (ms : List Move). IsValid always extra ms (with_pieces (waiting (n ∷ rest.pieces) rest.goal) ∷ []) (with_pieces new ∷ [])) (sym c.none.ensures) (kept_valid n rest extra))
    c.one_part.ensures.waiting c.one_part.ensures.just c.one_part.ensures.used
