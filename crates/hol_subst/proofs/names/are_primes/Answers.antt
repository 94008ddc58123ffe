use Rattle.std.proofs.Common.{Some, None, lit<}
use Rattle.std.proofs.lemmas.Str.Pattern.{strip_prefix_char}
use Rattle.hol_subst.proofs.PrimedNames.{by_shift, no_prime}
use Rattle.hol_subst.proofs.names.are_primes.Goals as goal

pub returns-in-Some : goal.returns-in-Some
returns-in-Some c = by_shift c.args.text.now c.in-Some.rest.now (strip_prefix_char 39 c.args.text.now (Some c.in-Some.rest) c.in-Some.ensures.cases (lit< tt)) c.starts_with.result c.starts_with.ensures.cases

pub returns-in-None : goal.returns-in-None
returns-in-None c = no_prime c.args.text.now (strip_prefix_char 39 c.args.text.now None c.in-None.ensures.cases (lit< tt)) c.is_empty.result c.is_empty.ensures
