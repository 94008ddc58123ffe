use Rattle.hol_combine.proofs.Agreement.{needs_tested}
use Rattle.hol_combine.proofs.laws.runs_need_the_tested_names_alone.Goals as goal

pub returns : goal.returns
returns c = needs_tested
