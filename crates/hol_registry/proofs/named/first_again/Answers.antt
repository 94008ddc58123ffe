use Rattle.std.proofs.Common.{◌∙◌, sym, ap}
use Rattle.std.proofs.lemmas.List.{length-map}
use Rattle.hol_registry.proofs.Again.{none_yet, one_more, met_again}
use Rattle.hol_registry.proofs.named.first_again.Goals as goal

pub loop-i-init : goal.loop-i-init
loop-i-init g c = none_yet

pub returns-then-stands : goal.returns-then-stands
returns-then-stands g c =
    let name = g.T.Named.name_of in
    let items = c.args.items.now in (
      rw (length-map items name) c.loop-i-test.true,
      met_again name items c.loop-i.i c.index-items-i.result c.name.result.now c.loop-i-test.true (c.name.ensures ∙ ap name c.index-items-i.is) c.loop-i.invariant (sym c.stands.ensures ∙ c.if-stands.true),
    )

pub loop-i-preserved : goal.loop-i-preserved
loop-i-preserved g c =
    one_more g.T.Named.name_of c.args.items.now c.loop-i.i c.index-items-i.result c.name.result.now c.loop-i-test.true (c.name.ensures ∙ ap g.T.Named.name_of c.index-items-i.is) c.loop-i.invariant (sym c.stands.ensures ∙ c.if-stands.false)
