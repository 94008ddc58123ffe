use Rattle.std.proofs.Common.{[]}
use Rattle.hol_terms.specs.Nameless.{nameless}
use Rattle.hol_kernel.specs.Given.{given_sequent}
use Rattle.hol_just.proofs.MatchApart.{apart_listed}
use Rattle.hol_steps.proofs.MatchMpLaws.{found_by}
use Rattle.hol_steps.proofs.matching.matching_instance.Goals as goal

pub term_match-requires : goal.term_match-requires
term_match-requires c = record { apart = apart_listed (given_sequent c.args.th.now).hyps c.hyps.result.now c.hyps.ensures (nameless [] c.args.t.now) c.requires }

pub returns : goal.returns
returns c =
    found_by c.args.th.now c.args.goal.now (nameless [] c.args.t.now) c.term_match.result c.hyps.result.now (nameless [] c.conclusion.result.now) c.hyps.ensures c.conclusion.ensures.term c.term_match.ensures.first
    c.term_match.ensures.none c.term_match.ensures.general
