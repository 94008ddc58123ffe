use Rattle.hol_exec.proofs.TheoremBases.{own_alone}
use Rattle.hol_exec.proofs.laws.own_bases_are_of_own_keys.Goals as goal

pub returns : goal.returns
returns c = own_alone
