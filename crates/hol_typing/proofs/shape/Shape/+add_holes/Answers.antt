use Rattle.std.proofs.Common.{rules}
use Rattle.hol_typing.proofs.Parts.{holes_push}
use Rattle.hol_typing.proofs.shape.Shape.+add_holes.Goals as goal

pub loop-pair-preserved : goal.loop-pair-preserved
loop-pair-preserved t c =
    holes_push c.loop-pair.holes.items c.push.new.self.items c.deref-pair-items.result.now c.loop-pair.pair-index _ c.pair-item.result c.loop-pair-test.true c.pair-item.is c.loop-pair.invariant
    (search rules) (search rules) c.in_ok-push-in-Part.ensures.items
