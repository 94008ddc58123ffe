use Rattle.std.proofs.Common.{[], ◌∷◌, ap, ◌∙◌, refl}
use Rattle.hol_terms.specs.Nameless.{nameless}
use Rattle.hol_goal.specs.UsedView.{used_value}
use Rattle.hol_just.specs.Strip.{Conjuncts, waiting}
use Rattle.hol_steps.proofs.PieceLaws.{conj_valid, one_always}
use Rattle.hol_steps.proofs.pieces.conjuncts.Goals as goal

pub returns : goal.returns
returns c =
    let a = nameless [] c.args.p.now in
    let b = nameless [] c.args.q.now in
    let n = nameless [] c.args.piece.now in
    let rest = c.args.rest in
    let moves = c.in_ok-just.just in
    one_always c.one_part.result n rest (used_value c.args.used) (Conjuncts a b) c.put-2.new.self (waiting (a ∷ b ∷ rest.pieces) rest.goal) moves
    (c.in_ok-put-2.ensures ∙ ap (λ w. waiting (a ∷ w.pieces) w.goal) c.in_ok-put.ensures)
    (λ avoided. refl)
    (λ extra. conj_valid n rest extra moves a b c.requires.parts c.in_ok-just.ensures)
    c.one_part.ensures.waiting c.one_part.ensures.just c.one_part.ensures.used
