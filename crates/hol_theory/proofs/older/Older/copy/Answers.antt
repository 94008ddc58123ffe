use Rattle.std.proofs.Common.{◌∙◌, ap, map}
use Rattle.hol_theory.proofs.Layers.{copied_more}
use Rattle.hol_theory.proofs.older.Older.copy.Goals as goal

pub loop-layer-preserved : goal.loop-layer-preserved
loop-layer-preserved c =
    ap (map (λ layer. layer.value)) c.in_ok-push.ensures.items
    ∙ copied_more (λ layer. layer.value) c.loop-layer.layers.items c.deref-layer-items.result.now c.loop-layer.layer-index c.layer-item.result c.in_ok-clone.field-0 c.loop-layer-test.true c.layer-item.is
    c.in_ok-clone.ensures.cases c.loop-layer.invariant
