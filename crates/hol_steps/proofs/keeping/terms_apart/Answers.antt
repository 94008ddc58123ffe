use Rattle.hol_kernel.specs.Given.{given_sequent}
use Rattle.hol_steps.proofs.KeptVariables.{same_apart, all_vars}
use Rattle.hol_steps.proofs.keeping.terms_apart.Goals as goal

pub returns : goal.returns
returns c =
    same_apart (given_sequent c.args.th.now).hyps c.hyps.result.now c.add_copies.new.to.items c.args.others.now c.hyps.ensures
    (all_vars c.args.others.now c.loop-v.terms.items c.hyps.result.now c.add_copies.new.to.items c.loop-v.v-index c.loop-v.invariant c.loop-v-test.false c.in_ok-add_copies.ensures)
