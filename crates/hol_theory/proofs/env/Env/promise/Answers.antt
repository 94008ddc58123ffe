use Rattle.std.proofs.Common.{[], subst}
use Rattle.hol_theory.specs.Adding.{AreNew}
use Rattle.hol_theory.proofs.Layers.{new_distinct}
use Rattle.hol_theory.proofs.env.Env.promise.Goals as goal

pub returns-clause-keys : goal.returns-clause-keys
returns-clause-keys c = new_distinct c.args.self.now (subst (AreNew []) c.self.view_is c.self.invariant.0)
