use Rattle.hol_exec.proofs.Free.{one_distinct}
use Rattle.hol_exec.proofs.running.naming.name_resolved.Goals as goal

pub makes-requires-clause-keys : goal.makes-requires-clause-keys
makes-requires-clause-keys g c = one_distinct c.push.new.self.items c.new-entries.result.items _ c.new-entries.ensures.items c.in_ok-push.ensures.items
