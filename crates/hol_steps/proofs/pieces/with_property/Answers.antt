use Rattle.std.proofs.Common.{◌∷◌, ap, ◌∙◌}
use Rattle.hol_terms.specs.Nameless.{Nameless}
use Rattle.hol_just.specs.Strip.{waiting}
use Rattle.hol_steps.proofs.pieces.with_property.Goals as goal

pub returns : goal.returns
returns c = c.in_ok-put.ensures ∙ ap (λ (t : Nameless). waiting (t ∷ c.args.rest.pieces) c.args.rest.goal) c.in_ok-chosen.ensures.is
