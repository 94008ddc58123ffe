use Rattle.hol_model.proofs.MadeNodes.{ends}
use Rattle.hol_model.proofs.nodes.derivations_end_with_rules.Goals as goal

pub returns : goal.returns
returns c = ends
