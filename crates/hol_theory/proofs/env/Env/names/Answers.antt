use Rattle.std.proofs.Common.{◌∙◌, ap}
use Rattle.hol_theory.specs.Constants.{constant_names}
use Rattle.hol_theory.proofs.env.Env.names.Goals as goal

pub returns : goal.returns
returns c = c.self.invariant.3 ∙ ap constant_names c.self.view_is
