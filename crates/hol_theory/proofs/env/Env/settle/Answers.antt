use Rattle.std.proofs.Common.{[], sym, subst}
use Rattle.hol_theory.specs.Adding.{AreNew}
use Rattle.hol_theory.proofs.Layers.{new_after}
use Rattle.hol_theory.proofs.env.Env.settle.Goals as goal

pub push-requires : goal.push-requires
push-requires c = subst (AreNew c.self.inside.older) (sym c.replace-newest.ensures.value) (new_after [] c.self.inside.older c.self.inside.newest c.self.invariant.0)
