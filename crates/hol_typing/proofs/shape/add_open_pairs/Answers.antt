use Rattle.std.proofs.Common.{◌≡◌, [], get_or, arith, sym, ◌∙◌}
use Rattle.std.proofs.lemmas.List.{get_or_default}
use Rattle.hol_typing.specs.Holes.{open_type}
use Rattle.hol_typing.proofs.Numbers.{pairs_next}
use Rattle.hol_typing.proofs.shape.add_open_pairs.Goals as goal

pub loop-i-preserved : goal.loop-i-preserved
loop-i-preserved c =
    let e : get_or c.args.names.now c.loop-i.i [] ≡ c.index-names-i.result = get_or_default c.args.names.now c.loop-i.i [] c.index-names-i.result (omega arith) ∙ sym c.index-names-i.is in
    pairs_next (open_type c.args.order.now) c.args.base c.args.names.now c.args.pairs.now.items c.loop-i.pairs.items c.push.new.self.items c.loop-i.i c.in_ok-ty.ty c.index-names-i.result c.in_ok-copy.field-0 (omega arith) e
    c.loop-i.invariant c.in_ok-ty.ensures c.in_ok-copy.ensures c.in_ok-push.ensures.items
