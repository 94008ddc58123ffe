use Rattle.std.proofs.Common.{◌≡◌, ◌∙◌, ◌+◌, refl, true, false, bytes_eq, rules}
use Rattle.std.proofs.lemmas.Result.{on_ok_weaker}
use Rattle.hol_typing.specs.Holes.{add_hole, add_holes}
use Rattle.hol_typing.proofs.Parts.{looks_start, looks_next, looks_found, looks_none}
use Rattle.hol_typing.proofs.shape.add_variable_holes.Goals as goal

pub loop-pair-init : goal.loop-pair-init
loop-pair-init c = record { looks = looks_start c.args.bound.now c.args.name.now; same = refl }

pub loop-pair-preserved : goal.loop-pair-preserved
loop-pair-preserved c =
    let other : bytes_eq c.pair-item.result.1 c.args.name.now ≡ false = search rules in
    record {
      looks = looks_next c.args.bound.now c.args.name.now c.loop-pair.pair-index c.pair-item.result c.loop-pair-test.true c.pair-item.is other c.loop-pair.invariant.looks;
      same = c.loop-pair.invariant.same;
    }

pub returns-then-same : goal.returns-then-same
returns-then-same c =
    let same : bytes_eq c.pair-item.result.1 c.args.name.now ≡ true = search rules in
    on_ok_weaker c.add_all_holes.result
    (λ h shapes all. h ∙ (λ i. add_holes (c.loop-pair.invariant.same i) (c.deref.ensures.value i))
    ∙ looks_found c.args.bound.now c.args.name.now c.loop-pair.pair-index c.pair-item.result c.args.order.now.items c.args.base c.args.names.now c.loop-pair-test.true c.pair-item.is same c.loop-pair.invariant.looks shapes all)
    c.add_all_holes.ensures

pub returns : goal.returns
returns c =
    on_ok_weaker c.add_hole.result
    (λ h shapes all. h ∙ (λ i. add_hole (c.loop-pair.invariant.same i) (c.args.base + c.place_among.ensures.place i))
    ∙ looks_none c.args.bound.now c.args.name.now c.loop-pair.pair-index c.args.order.now.items c.args.base c.args.names.now c.loop-pair-test.false c.loop-pair.invariant.looks shapes all)
    c.add_hole.ensures
