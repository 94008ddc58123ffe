use Rattle.hol_terms.proofs.Primes.{trimmed_base}
use Rattle.hol_terms.proofs.base.base_name.Goals as goal

pub returns : goal.returns
returns c = trimmed_base _ _ c.trim_end_matches.ensures.matches
