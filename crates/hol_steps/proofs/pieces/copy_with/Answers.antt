use Rattle.std.proofs.Common.{[], ◌∷◌, ap, ◌∙◌}
use Rattle.hol_terms.specs.Nameless.{nameless}
use Rattle.hol_just.specs.Strip.{WaitingValue, waiting}
use Rattle.hol_steps.proofs.pieces.copy_with.Goals as goal

pub returns : goal.returns
returns c = c.in_ok-put.ensures ∙ ap (λ (w : WaitingValue). waiting (nameless [] c.args.piece.now ∷ w.pieces) w.goal) c.in_ok-copy.ensures
