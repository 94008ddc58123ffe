use Rattle.hol_typing.specs.RawView.{scope_slots}
use Rattle.hol_typing.proofs.Generating.{generates_bound}
use Rattle.hol_typing.proofs.generate.Graph.bound.Goals as goal

pub returns : goal.returns
returns c = generates_bound c.args.self.now c.equate.new.self (scope_slots c.args.scope.now) c.args.index c.args.expected c.slot-slot.result c.requires.well_formed c.requires.expected_in c.slot-slot.ensures c.in_ok-equate.ensures
