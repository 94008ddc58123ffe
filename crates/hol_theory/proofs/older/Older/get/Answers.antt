use Rattle.std.proofs.Common.{ap, ◌∙◌}
use Rattle.hol_theory.specs.Entry.{entry_at}
use Rattle.hol_theory.proofs.Layers.{found_here, at_later}
use Rattle.hol_theory.proofs.older.Older.get.Goals as goal

pub returns-in-Some : goal.returns-in-Some
returns-in-Some c =
    found_here (λ layer. layer.value) c.args.key.now c.args.self.now c.deref-layer-items.result.now c.loop-layer.layer-index c.layer-item.result c.loop-layer-test.true c.layer-item.is c.loop-layer.invariant
    c.in-Some.value.now (c.in-Some.ensures ∙ ap (entry_at c.args.key.now) c.deref.ensures)

pub loop-layer-preserved : goal.loop-layer-preserved
loop-layer-preserved c =
    at_later (λ layer. layer.value) c.args.key.now c.args.self.now c.deref-layer-items.result.now c.loop-layer.layer-index c.layer-item.result c.loop-layer-test.true c.layer-item.is c.loop-layer.invariant
    (c.in_default.ensures ∙ ap (entry_at c.args.key.now) c.deref.ensures)
