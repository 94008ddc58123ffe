use Rattle.hol_serve.proofs.Once.{one_answer_or_memory}
use Rattle.hol_serve.proofs.laws.one_answer_or_memory.Goals as goal

pub returns : goal.returns
returns c = one_answer_or_memory
