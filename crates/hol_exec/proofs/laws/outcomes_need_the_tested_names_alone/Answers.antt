use Rattle.hol_exec.proofs.Needing.{local_needs}
use Rattle.hol_exec.proofs.laws.outcomes_need_the_tested_names_alone.Goals as goal

pub returns : goal.returns
returns c = local_needs
