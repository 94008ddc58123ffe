use Rattle.std.proofs.Common.{map}
use Rattle.hol_document.specs.RunnerView.{setup_of}
use Rattle.hol_document.specs.Slots.{ended_of}
use Rattle.hol_document.proofs.Settled.{run_slots}
use Rattle.hol_document.proofs.settle.run.Goals as goal

pub returns-clause-slot : goal.returns-clause-slot
returns-clause-slot g c =
    run_slots (λ x. x.value) c.carried_out.result (setup_of c.args.runner.now) (map ended_of c.args.earlier.now) c.args.state.now c.carried_out.new.state c.args.line.now.value.text c.args.line.now.value.value _ _ _ _ c.requires.kept
    (rw c.deref.ensures at c.answered.ensures.read) (rw c.deref.ensures at c.in_ok-answer.ensures.is)
    c.carried_out.ensures.text c.carried_out.ensures.value c.carried_out.ensures.reads c.carried_out.ensures.tested c.carried_out.ensures.outcome c.carried_out.ensures.opened c.carried_out.ensures.kept c.carried_out.ensures.state c.carried_out.ensures.stands
