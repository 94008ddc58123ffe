use Rattle.std.proofs.Common.{◌<◌, [], List, sym, subst, rules}
use Rattle.hol_typing.specs.Shape.{ShapeTree}
use Rattle.hol_typing.specs.RawView.{slot_tree}
use Rattle.hol_typing.specs.Solved.{IsGeneralTyping, slot_term_size}
use Rattle.hol_infer.proofs.Readings.{large_of}
use Rattle.hol_infer.proofs.reading.reading_of.Goals as goal

pub returns-then-size-ge-TOO_LARGE-clause-too_large : goal.returns-then-size-ge-TOO_LARGE-clause-too_large
returns-then-size-ge-TOO_LARGE-clause-too_large c = λ e raw general.
    let large : 20000 < slot_term_size c.args.typed.now.shapes.items [] (slot_tree c.args.typed.now.skeleton) = search rules in
    large_of raw c.args.typed.now.shapes.items (slot_tree c.args.typed.now.skeleton) general large

pub returns-clause-reading : goal.returns-clause-reading
returns-clause-reading c = λ raw general. c.in_ok-named.ensures.reading raw
    (subst (λ (shapes : List ShapeTree). IsGeneralTyping raw shapes (slot_tree c.args.typed.now.skeleton)) (sym c.deref-2.ensures.value) general)
