use Rattle.hol_wire.proofs.Apart.{lines_tell_apart}
use Rattle.hol_wire.proofs.laws.replies_are_told_apart.Goals as goal

pub returns-clause-apart : goal.returns-clause-apart
returns-clause-apart c = lines_tell_apart
