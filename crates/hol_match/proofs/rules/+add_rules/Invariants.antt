use Rattle.hol_terms.specs.Nameless.{nameless}
use Rattle.std.specs.Prelude.{[]}
use Rattle.hol_match.specs.Rules.{nodes}
use Rattle.hol_match.proofs.rules.+add_rules.Given as goal

abbrev pub decreases-add_rules : goal.decreases-add_rules
decreases-add_rules l = nodes (nameless [] l.p.now)
