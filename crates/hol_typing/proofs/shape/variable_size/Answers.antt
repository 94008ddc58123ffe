use Rattle.std.proofs.Common.{◌≡◌, ◌∙◌, true, bytes_eq, Some, None, rules}
use Rattle.hol_typing.specs.Shape.{shape_lookup}
use Rattle.hol_typing.proofs.Parts.{lookup_here, lookup_end, found_size, open_size}
use Rattle.hol_typing.proofs.shape.variable_size.Goals as goal

pub returns-then-same-clause-size : goal.returns-then-same-clause-size
returns-then-same-clause-size c = λ base names.
    let same : bytes_eq c.pair-item.result.1 c.args.name.now ≡ true = search rules in
    let here : shape_lookup c.args.bound.now c.args.name.now ≡ Some c.pair-item.result.0 =
    c.loop-pair.invariant ∙ lookup_here c.args.bound.now c.loop-pair.pair-index c.pair-item.result c.args.name.now c.loop-pair-test.true c.pair-item.is same in
    c.size.ensures ∙ found_size c.args.bound.now c.args.name.now c.pair-item.result.0 here base names

pub returns-clause-size : goal.returns-clause-size
returns-clause-size c = λ base names.
    let none : shape_lookup c.args.bound.now c.args.name.now ≡ None = c.loop-pair.invariant ∙ lookup_end c.args.bound.now c.loop-pair.pair-index c.args.name.now c.loop-pair-test.false in
    open_size c.args.bound.now c.args.name.now none base names
