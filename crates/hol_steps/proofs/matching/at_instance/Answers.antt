use Rattle.std.proofs.Common.{[]}
use Rattle.hol_terms.specs.Nameless.{nameless}
use Rattle.hol_match.specs.Instance.{instantiated}
use Rattle.hol_steps.proofs.MatchMpLaws.{instance_formula, typed_as}
use Rattle.hol_steps.proofs.matching.at_instance.Goals as goal

pub returns-clause-typed : goal.returns-clause-typed
returns-clause-typed c =
    typed_as c.apply.result (instantiated c.args.found.now 0 (nameless [] c.args.s.now)) (instance_formula c.args.found.now c.args.s.now c.requires.instance c.requires.premise) c.apply.ensures
