use Rattle.hol_combine.specs.Runs.{run}
use Rattle.hol_combine.proofs.Falling.{repeat_law as law}
use Rattle.hol_combine.proofs.Turns.{run_falls}
use Rattle.hol_combine.proofs.laws.repeat_law.Goals as goal

pub returns : goal.returns
returns c known t goal used = law (run known t) (run_falls known t) goal used
