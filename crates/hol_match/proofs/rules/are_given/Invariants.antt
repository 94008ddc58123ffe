use Rattle.std.proofs.Common.{◌≡◌, [], drop}
use Rattle.std.specs.List.{list_all}
use Rattle.hol_terms.specs.Nameless.{nameless}
use Rattle.hol_match.specs.Rules.{is_given}
use Rattle.hol_match.proofs.rules.are_given.Given as goal

abbrev pub invariant-loop-v : goal.invariant-loop-v
invariant-loop-v l =
    list_all (is_given l.fixed.variables.items (nameless [] l.l)) l.variables
    ≡ list_all (is_given l.fixed.variables.items (nameless [] l.l)) (drop l.v-index l.variables)
