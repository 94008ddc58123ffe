use Rattle.hol_exec.proofs.Unique.{one_local, one_outcome}
use Rattle.hol_exec.proofs.laws.one_outcome.Goals as goal

pub returns-clause-local : goal.returns-clause-local
returns-clause-local c = one_local

pub returns-clause-at_state : goal.returns-clause-at_state
returns-clause-at_state c = one_outcome
