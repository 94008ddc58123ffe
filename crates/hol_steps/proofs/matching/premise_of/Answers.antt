use Rattle.std.specs.List.{filter, zip}
use Rattle.std.specs.FinSet as set
use Rattle.std.proofs.Common.{[], ◌++◌, map, sym, subst}
use Rattle.hol_terms.specs.Nameless.{nameless, free}
use Rattle.hol_kernel.specs.Given.{given_sequent}
use Rattle.hol_match.specs.Matches.{IsWellTyped}
use Rattle.hol_just.specs.MatchMp.{is_undetermined, left_open}
use Rattle.hol_steps.proofs.MatchMpLaws.{completed_typed}
use Rattle.hol_steps.proofs.matching.premise_of.Goals as goal

pub at_instance-requires-clause-instance : goal.at_instance-requires-clause-instance
at_instance-requires-clause-instance c =
    let s = nameless [] c.args.s.now in
    let t = nameless [] c.args.t.now in
    let f = c.args.found in
    let own = c.args.own.now in
    let vs = c.deref.result.now in
    let hs = set.items (given_sequent c.args.th.now).hyps in
    subst IsWellTyped (sym c.in_ok-whole.ensures)
    (completed_typed f (map (λ v. free v) (left_open own vs (s, t) f) ++ hs) (filter (λ p. is_undetermined s t p.1) (zip own vs)) c.requires.instance)
