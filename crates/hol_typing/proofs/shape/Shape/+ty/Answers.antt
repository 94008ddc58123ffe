use Rattle.std.proofs.Common.{◌≡◌, ◌∙◌, ◌++◌, refl, ap, rules}
use Rattle.std.proofs.lemmas.Result.{IfOk-weaker}
use Rattle.hol_types.specs.Names.{tyvars}
use Rattle.hol_typing.specs.Shape.{fill, part_shape}
use Rattle.hol_typing.specs.Graph.{pairs_from}
use Rattle.hol_typing.specs.Holes.{open_type}
use Rattle.hol_typing.proofs.Parts.{fill_push, fill_whole}
use Rattle.hol_typing.proofs.shape.Shape.+ty.Goals as goal

pub loop-pair-preserved : goal.loop-pair-preserved
loop-pair-preserved t c =
    fill_push (open_type c.args.order.now) c.deref-pair-items.result.now c.loop-pair.pair-index c.pair-item.result c.in_ok-ty-in-Part.field-0 c.in_ok-copy-in-Part.field-0 c.loop-pair.pairs.items c.push-in-loop-pair.new.self.items
    c.loop-pair-test.true c.pair-item.is c.loop-pair.invariant c.in_ok-ty-in-Part.ensures c.in_ok-copy-in-Part.ensures c.in_ok-push-in-Part.ensures.items

pub returns-after-loop-pair : goal.returns-after-loop-pair
returns-after-loop-pair t c =
    let at = open_type c.args.order.now in
    let items = c.deref-pair-items.result.now in
    let pairs = c.loop-pair.pairs.items in
    let self : part_shape items c.in-Part.base (tyvars c.in-Part.generic) c.in-Part.generic ≡ c.args.self.now = search rules in
    IfOk-weaker c.opened-in-Part.result _ _
    (λ u e. e ∙ fill_whole at items c.loop-pair.pair-index c.in-Part.base c.in-Part.generic pairs (pairs ++ pairs_from at c.in-Part.base (tyvars c.in-Part.generic)) c.loop-pair-test.false c.loop-pair.invariant refl ∙ ap (fill at) self)
    c.opened-in-Part.ensures
