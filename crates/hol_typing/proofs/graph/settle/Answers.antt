use Rattle.hol_typing.proofs.Solving.{first_last}
use Rattle.hol_typing.proofs.graph.settle.Goals as goal

pub returns-clause-solutions : goal.returns-clause-solutions
returns-clause-solutions c = first_last c.args.cells.now c.args.pending.now.items c.push.new.self.items (record { left = c.args.low; right = c.args.high }) c.in_ok-push.ensures.items
