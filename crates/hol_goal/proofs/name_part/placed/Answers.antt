use Rattle.std.specs.Prelude.{List, ℕ, ◌++◌, ◌∷◌, []}
use Rattle.std.proofs.Common.{◌≡◌, ◌∙◌, ap}
use Rattle.hol_goal.specs.NamePlaces.{place_of}
use Rattle.hol_goal.proofs.NamePlaces.{one_placed}
use Rattle.hol_goal.proofs.name_part.placed.Goals as goal

pub loop-name-preserved : goal.loop-name-preserved
loop-name-preserved c =
    let at : c.place_of.result ≡ place_of c.name-item.result = c.place_of.ensures ∙ ap place_of c.as_str.ensures in
    one_placed (λ place. place.items) c.args.names.now c.loop-name.places.items c.loop-name.name-index c.place_of.result c.name-item.result c.index_mut.result.now c.push.new.self
    c.loop-name-test.true c.name-item.is at c.index_mut.ensures.value (c.in_ok-push.ensures.items ∙ ap (λ (name : List ℕ). c.index_mut.result.now.items ++ name ∷ []) c.in_ok-copy.ensures) c.loop-name.invariant
