use Rattle.std.proofs.Common.{[]}
use Rattle.hol_terms.specs.Nameless.{nameless}
use Rattle.hol_steps.proofs.Undetermined.{next_own, last_own}
use Rattle.hol_steps.proofs.matching.undetermined.Goals as goal

pub loop-v-preserved : goal.loop-v-preserved
loop-v-preserved c =
    next_own c.args.found.now.types (nameless [] c.args.s.now) (nameless [] c.args.t.now) c.args.variables.now c.loop-v.rest.items c.add_undetermined.new.rest.items c.loop-v.v-index c.v-item.result
    c.loop-v.invariant c.loop-v-test.true c.v-item.is c.in_ok-add_undetermined.ensures

pub returns : goal.returns
returns c =
    last_own c.args.found.now.types (nameless [] c.args.s.now) (nameless [] c.args.t.now) c.args.variables.now c.loop-v.rest.items c.loop-v.v-index c.loop-v.invariant c.loop-v-test.false
