use Rattle.std.specs.Prelude.{Some}
use Rattle.std.proofs.Common.{[], ◌∷◌, ap, sym, ◌∙◌, refl}
use Rattle.hol_types.specs.Tree.{TypeTree}
use Rattle.hol_terms.specs.Nameless.{free, nameless}
use Rattle.hol_subst.specs.Closing.{open_with}
use Rattle.hol_goal.specs.Answer.{testing}
use Rattle.hol_goal.specs.UsedView.{used_value}
use Rattle.hol_just.specs.Fresh.{FreshValue}
use Rattle.hol_just.specs.Strip.{Property, waiting, property_at}
use Rattle.hol_steps.specs.Fresh.{IsNewBy, abstraction_of}
use Rattle.hol_steps.proofs.PieceLaws.{chosen_valid, freeing_answers}
use Rattle.hol_steps.proofs.pieces.property.Goals as goal

pub returns : goal.returns
returns c =
    let n = nameless [] c.args.piece.now in
    let rest = c.args.rest in
    let x = c.args.x.now in
    let v = c.args.v.variable in
    let more = c.args.v.tested.items in
    let body = nameless (x ∷ []) c.args.p.now in
    let moves = c.in_ok-just.just in
    freeing_answers c.property_part.result (λ avoided. IsNewBy avoided n rest x v more) n rest (used_value c.args.used) (testing more (used_value c.args.used)) (Property (abstraction_of x c.args.p.now)) (waiting (open_with (free v) 0 body ∷ rest.pieces) rest.goal)
    (waiting (open_with (free v) 0 body ∷ rest.pieces) rest.goal) moves
    refl
    (λ avoided new. ap (λ (f : FreshValue). Some (property_at rest.pieces rest.goal (abstraction_of x c.args.p.now) f (used_value c.args.used))) new.is
    ∙ ap (λ (ty : TypeTree). Some (waiting (open_with (free (v.0, ty)) 0 body ∷ rest.pieces) rest.goal ∷ [], testing more (used_value c.args.used))) (sym new.typed))
    (λ avoided new extra apart.
    chosen_valid n rest extra moves avoided.terms (abstraction_of x c.args.p.now) v apart c.requires.parts new.typed new.absent c.in_ok-just.ensures)
    c.property_part.ensures.waiting c.property_part.ensures.just (used_value c.in_ok-used.used) c.property_part.ensures.used c.in_ok-used.ensures
