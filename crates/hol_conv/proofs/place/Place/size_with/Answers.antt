use Rattle.std.proofs.lemmas.List.{nil_from_length}
use Rattle.std.proofs.Common.{rules, ◌≡◌, [], length, reverse, refl, subst}
use Rattle.std.specs.Prelude.{min}
use Rattle.hol_terms.specs.Nameless.{nameless}
use Rattle.hol_terms.specs.Size.{term_size}
use Rattle.hol_conv.proofs.PlaceSizes.{sized, all_sized}
use Rattle.hol_conv.proofs.place.Place.size_with.Goals as goal

pub returns : goal.returns
returns c =
    let none : length c.frames.outer.now ≡ 0 = search rules in
    let all : c.frames.outer.now ≡ [] = nil_from_length c.frames.outer.now none in
    let part = min (term_size [] (nameless [] c.args.part.now)) 20001 in
    all_sized c.args.self.now.frames.items (nameless [] c.args.part.now) c.frames.size part refl
    (subst (λ z. sized (reverse z) c.frames.size ≡ sized (reverse c.args.self.now.frames.items) part) all c.frames.invariant.is)
