use Rattle.hol_model.proofs.Consistency.{theorem_consistent}
use Rattle.hol_model.proofs.theorems.false_thm_needs_infinity.Goals as goal

pub returns : goal.returns
returns c = theorem_consistent c.args.th.now
