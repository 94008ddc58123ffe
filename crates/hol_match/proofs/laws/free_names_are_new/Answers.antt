use Rattle.hol_match.proofs.FreshNames.{found_free_name}
use Rattle.hol_match.proofs.laws.free_names_are_new.Goals as goal

pub returns : goal.returns
returns c = found_free_name
