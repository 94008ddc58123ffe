use Rattle.std.proofs.Common.{◌≡◌, ◌<◌, ◌^◌, [], ap, ◌∙◌, length, rules}
use Rattle.std.proofs.lemmas.Result.{IfOk-weaker}
use Rattle.hol_terms.specs.Nameless.{nameless}
use Rattle.hol_terms.specs.Size.{term_size}
use Rattle.hol_typing.specs.RawView.{slot_tree}
use Rattle.hol_typing.specs.Holes.{add_holes, open_type}
use Rattle.hol_typing.specs.Solved.{term_holes}
use Rattle.hol_typing.specs.SlotTree.{typed}
use Rattle.hol_typing.specs.Found.{types_at}
use Rattle.hol_infer.proofs.Readings.{well_typed_whole, reading_of, reading_same, size_of}
use Rattle.hol_infer.proofs.reading.named.Goals as goal

pub build-requires-clause-well_typed : goal.build-requires-clause-well_typed
build-requires-clause-well_typed c = well_typed_whole c.requires.typing.0 c.args.shapes.now (slot_tree c.args.skeleton.now) (open_type c.deref.result.now) c.requires.typing.2

pub returns-clause-reading : goal.returns-clause-reading
returns-clause-reading c =
    let order : c.deref.result.now ≡ add_holes [] (term_holes c.args.shapes.now (slot_tree c.args.skeleton.now)) = search rules in
    let small : length c.deref.result.now < 2 ^ 64 = search rules in
    IfOk-weaker c.build.result _ _
    (λ t is raw general.
    reading_same raw (nameless [] t) (typed (types_at c.args.shapes.now (open_type c.deref.result.now)) (slot_tree c.args.skeleton.now)) is
    (reading_of raw c.args.shapes.now (slot_tree c.args.skeleton.now) c.deref.result.now small general order))
    c.build.ensures.ok

pub returns-clause-size : goal.returns-clause-size
returns-clause-size c =
    IfOk-weaker c.build.result _ _ (λ t is. ap (term_size []) is ∙ size_of c.args.shapes.now c.deref.result.now (slot_tree c.args.skeleton.now)) c.build.ensures.ok
