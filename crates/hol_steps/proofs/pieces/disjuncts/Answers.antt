use Rattle.std.specs.Prelude.{◌-◌}
use Rattle.std.proofs.Common.{[], ◌∷◌, ap, refl}
use Rattle.hol_terms.specs.Nameless.{nameless}
use Rattle.hol_goal.specs.UsedView.{used_value}
use Rattle.hol_just.specs.Strip.{Disjuncts, waiting, split_by}
use Rattle.hol_steps.proofs.PieceLaws.{disj_valid, turn_paid, two_always}
use Rattle.hol_steps.proofs.pieces.disjuncts.Goals as goal

pub returns-then-turns-eq0 : goal.returns-then-turns-eq0
returns-then-turns-eq0 c =
    let rest = c.args.rest in
    λ others. (λ avoided. ap (split_by (nameless [] c.args.p.now) (nameless [] c.args.q.now) rest.pieces rest.goal c.args.used.tested.items) c.if-turns-eq0.true, refl)

pub returns : goal.returns
returns c =
    let a = nameless [] c.args.p.now in
    let b = nameless [] c.args.q.now in
    let n = nameless [] c.args.piece.now in
    let rest = c.args.rest in
    let t = c.in_ok-cases in
    let moves = t.field-0.just in
    λ others avoided alike.
    two_always t.field-0 n rest (used_value c.args.used) (record { turns_left = c.args.used.left - 1; tested = c.args.used.tested.items }) (Disjuncts a b) (waiting (a ∷ rest.pieces) rest.goal) (waiting (b ∷ rest.pieces) rest.goal) (waiting (a ∷ rest.pieces) rest.goal) (waiting (b ∷ rest.pieces) rest.goal) moves
    refl
    refl
    (λ ms. turn_paid a b rest c.args.used.tested.items c.args.used.left (c.args.used.left - 1) c.if-turns-eq0.false refl)
    (λ extra. disj_valid n rest extra moves a b c.requires.parts t.ensures.just)
    t.ensures.waiting refl t.ensures.used avoided
