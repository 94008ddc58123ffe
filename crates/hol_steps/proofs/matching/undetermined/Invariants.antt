use Rattle.std.proofs.Common.{◌≡◌, ◌++◌, [], map, drop}
use Rattle.hol_terms.specs.Nameless.{nameless}
use Rattle.hol_subst.specs.Substitution.{variable_inst}
use Rattle.hol_just.specs.MatchMp.{undetermined}
use Rattle.hol_steps.proofs.matching.undetermined.Given as goal

abbrev pub invariant-loop-v : goal.invariant-loop-v
invariant-loop-v l =
    map (variable_inst l.found.types) (undetermined (nameless [] l.s) (nameless [] l.t) l.variables)
    ≡ l.rest.items ++ map (variable_inst l.found.types) (undetermined (nameless [] l.s) (nameless [] l.t) (drop l.v-index l.variables))
