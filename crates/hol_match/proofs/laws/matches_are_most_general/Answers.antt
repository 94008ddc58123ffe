use Rattle.hol_match.proofs.Staying.{found_is_general}
use Rattle.hol_match.proofs.laws.matches_are_most_general.Goals as goal

pub returns-clause-found : goal.returns-clause-found
returns-clause-found c = found_is_general
