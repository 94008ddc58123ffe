use Rattle.hol_typing.specs.RawView.{raw_tree, slot_tree}
use Rattle.hol_typing.proofs.General.{general_of, untypable_of}
use Rattle.hol_typing.proofs.principal.principal_typing.Goals as goal

pub returns-in-Ok-clause-general : goal.returns-in-Ok-clause-general
returns-in-Ok-clause-general c = general_of (raw_tree c.args.term.now) c.in_ok-graph.graph (slot_tree c.in_ok-graph.skeleton) c.in-Ok.shapes.items
    c.in_ok-graph.ensures c.in-Ok.ensures.solved

pub returns-in-Err-clause-untypable : goal.returns-in-Err-clause-untypable
returns-in-Err-clause-untypable c e = untypable_of (raw_tree c.args.term.now) c.in_ok-graph.graph (slot_tree c.in_ok-graph.skeleton)
    c.in_ok-graph.ensures (c.in-Err.ensures.untypable e)
