use Rattle.std.proofs.Common.{subst}
use Rattle.hol_conv.specs.Kept.{node_of, LeadsOut}
use Rattle.hol_conv.proofs.kept.around.Goals as goal

pub returns : goal.returns
returns c = subst (λ z. LeadsOut c.args.step.now (node_of c.args.function) z c.in_ok-around_part.field-0.value) c.in_ok-part.ensures c.in_ok-around_part.ensures
