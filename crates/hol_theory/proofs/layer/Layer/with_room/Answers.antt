use Rattle.std.proofs.Common.{[], sym, subst}
use Rattle.hol_theory.specs.Entry.{Entries}
use Rattle.hol_theory.specs.Adding.{AreNew}
use Rattle.hol_theory.proofs.Layers.{distinct_new}
use Rattle.hol_theory.proofs.layer.Layer.with_room.Goals as goal

pub add_copies-requires : goal.add_copies-requires
add_copies-requires c =
    subst (λ (t : Entries). AreNew t c.args.self.now) (sym c.in_ok-with_capacity.ensures.empty) (subst (AreNew []) c.self.view_is (distinct_new c.self.inside.entries.entries c.self.invariant))
