use Rattle.hol_model.proofs.Consistency.{legal_consistent}
use Rattle.hol_model.proofs.laws.definitions_need_infinity_for_falsity.Goals as goal

pub returns : goal.returns
returns c = legal_consistent
