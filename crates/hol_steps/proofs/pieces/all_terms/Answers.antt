use Rattle.std.proofs.Common.{[], ◌∷◌, ◌++◌, ap, ◌∙◌}
use Rattle.hol_terms.specs.Named.{Named}
use Rattle.hol_steps.proofs.WaitingLaws.{gathers}
use Rattle.hol_steps.proofs.pieces.all_terms.Goals as goal

pub returns : goal.returns
returns c = λ others' alike.
    gathers c.new-terms.result.items c.add_terms.new.to.items c.push.new.self.items c.add_copies.new.to.items c.args.others.now c.args.piece.now c.args.rest.now others' c.new-terms.ensures.items c.in_ok-add_terms.ensures
    (c.in_ok-push.ensures.items ∙ ap (λ (q : Named). c.add_terms.new.to.items ++ (q ∷ [])) c.in_ok-copy.ensures) c.in_ok-add_copies.ensures alike
