use Rattle.hol_theory.proofs.Comparing.{otherwise_is}
use Rattle.hol_theory.proofs.env.Env.stands_otherwise.Goals as goal

pub returns-in-Some : goal.returns-in-Some
returns-in-Some c = otherwise_is c.same.result _ _ _ c.same.ensures c.in-Some.ensures
