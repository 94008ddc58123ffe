use Rattle.std.proofs.Common.{[], reverse, sym, subst}
use Rattle.hol_terms.specs.Nameless.{nameless}
use Rattle.hol_conv.specs.Places.{Took}
use Rattle.hol_conv.proofs.Rising.{just_put}
use Rattle.hol_conv.proofs.place.Place.put_part.Goals as goal

-- the term around the part is the first of those that may have another outline
pub rise-requires-clause-took : goal.rise-requires-clause-took
rise-requires-clause-took c =
    let r = c.args.redexes.now in
    let fs = reverse c.args.self.now.frames.items in
    subst (λ z. Took r z fs (nameless [] c.args.term)) (sym c.one_less-levels.ensures) (just_put r fs c.args.self.now.part c.args.term c.args.levels c.requires.typed c.requires.stands c.requires.levels)
