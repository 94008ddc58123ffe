use Rattle.hol_theory.proofs.Theories.{items_agree}
use Rattle.hol_theory.proofs.laws.free_keys_are_new_names.Goals as goal

pub returns-clause-agree : goal.returns-clause-agree
returns-clause-agree c = items_agree
