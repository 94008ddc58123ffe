use Rattle.hol_exec.proofs.Free.{one_distinct}
use Rattle.hol_exec.proofs.running.run.finished.Goals as goal

pub makes-requires-clause-keys : goal.makes-requires-clause-keys
makes-requires-clause-keys c = λ c'. one_distinct c'.push.new.self.items c'.new-entries.result.items _ c'.new-entries.ensures.items c'.in_ok-push.ensures.items
