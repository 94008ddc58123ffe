use Rattle.std.proofs.Common.{arith, sym}
use Rattle.hol_typing.proofs.Saturating.{stuck_untypable, shapes_general}
use Rattle.hol_typing.proofs.finding.all_found.Goals as goal

pub returns-in-None-clause-untypable : goal.returns-in-None-clause-untypable
returns-in-None-clause-untypable c e types r =
    let none = rw c.in-None.is at c.shape-item.is in
    stuck_untypable c.args.cells.now c.args.found.now c.requires.graph c.requires.stuck types r c.loop-shape.shape-index (omega arith) (sym none)

pub returns-clause-general : goal.returns-clause-general
returns-clause-general c =
    shapes_general c.args.cells.now c.requires.built.0 c.args.found.now c.loop-shape.shapes.items c.requires.graph c.requires.built.1 c.requires.built.2 (omega arith)
    (λ i lt. c.loop-shape.invariant.all i (omega arith))
