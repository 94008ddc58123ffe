use Rattle.hol_exec.proofs.running.run.apply_tactic.Goals as goal

pub applied-requires : goal.applied-requires
applied-requires g c = rw c.in-Resolved.is at c.in_ok-expr.ensures.runnable
