use Rattle.std.proofs.Common.{◌<◌, ap, ◌∙◌, sym, length, arith}
use Rattle.std.specs.Prelude.{slice_get}
use Rattle.hol_theory.specs.Entry.{Entries}
use Rattle.hol_theory.proofs.Layers.{entry_here, entry_later, places_later}
use Rattle.hol_theory.proofs.older.Older.entry.Goals as goal

pub returns-then-rest-len : goal.returns-then-rest-len
returns-then-rest-len c =
    let here : c.loop-layer.rest < length c.layer-item.result.value = omega (arith, c.if-rest-len.true, c.len-len.ensures, ap length c.deref.ensures) in
    entry_here (λ layer. layer.value) c.args.self.now c.args.index c.loop-layer.rest c.deref-layer-items.result.now c.loop-layer.layer-index c.layer-item.result c.loop-layer-test.true c.layer-item.is
    c.loop-layer.invariant.entry here
    ∙ ap (λ (t : Entries). slice_get t c.loop-layer.rest) (sym c.deref-then-rest-len.ensures)
    ∙ c.entry.ensures

pub loop-layer-preserved : goal.loop-layer-preserved
loop-layer-preserved c =
    let len = c.len-len.ensures ∙ ap length c.deref.ensures in record {
      within = places_later (λ layer. layer.value) c.loop-layer.rest c.len-len.result c.deref-layer-items.result.now c.loop-layer.layer-index c.layer-item.result c.loop-layer-test.true c.layer-item.is len
          c.loop-layer.invariant.within c.if-rest-len.false;
      entry = entry_later (λ layer. layer.value) c.args.self.now c.args.index c.loop-layer.rest c.deref-layer-items.result.now c.loop-layer.layer-index c.layer-item.result c.loop-layer-test.true
          c.layer-item.is c.loop-layer.invariant.entry c.len-len.result len c.if-rest-len.false;
    }
