use Rattle.std.proofs.Common.{◌≡◌, ◌+◌, ◌*◌, ◌++◌, drop}
use Rattle.hol_types.specs.Tree.{type_list, type_size, types_size}
use Rattle.hol_types.specs.Match.{match_types}
use Rattle.hol_match.specs.Fixed.{stays}
use Rattle.hol_match.proofs.type_matching.+match_into.Given as goal

abbrev pub decreases-match_into : goal.decreases-match_into
decreases-match_into l = 2 * type_size l.pattern.now

abbrev pub decreases-match_arguments : goal.decreases-match_arguments
decreases-match_arguments l = 2 * types_size (type_list l.ts.now) + 1

abbrev pub invariant-match_arguments-loop-i : goal.invariant-match_arguments-loop-i
invariant-match_arguments-loop-i l =
    match_types (type_list l.ts) ((stays l.fixed).types ++ l.initial.found.items) (type_list l.us)
    ≡ match_types (type_list (drop l.i l.ts)) ((stays l.fixed).types ++ l.found.items) (type_list (drop l.i l.us))
