use Rattle.std.proofs.Common.{◌≡◌, ◌≤◌, ◌∙◌, ap, length, bytes_eq, rules}
use Rattle.std.specs.List.{list_any}
use Rattle.hol_goal.proofs.NamePlaces.{found_there}
use Rattle.hol_goal.proofs.name_part.NamePart.has.Goals as goal

pub returns : goal.returns
returns c =
    let some : 1 ≤ length c.self.inside.places.items = search rules in
    found_there (λ place. place.items) c.self.inside.names.items c.args.name.now c.self.inside.places.items c.place_of.result c.index.result.now c.is_one_of-2.result c.self.invariant some
    c.place_of.ensures c.index.ensures (c.is_one_of-2.ensures ∙ ap (list_any (bytes_eq c.args.name.now)) c.deref-2.ensures.value)
    ∙ ap (list_any (bytes_eq c.args.name.now)) c.self.view_is
