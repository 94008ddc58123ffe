use Rattle.std.specs.Prelude.{refl}
use Rattle.hol_exec.proofs.Steps.{left_by}
use Rattle.hol_exec.proofs.running.run.applied.Goals as goal

pub left-requires : goal.left-requires
left-requires g c = left_by _ c.args.expr.now _ _ c.in-Ok.ran.step c.requires refl c.in-Ok.ensures.valid
