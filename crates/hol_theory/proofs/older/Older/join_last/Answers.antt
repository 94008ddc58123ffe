use Rattle.std.proofs.Common.{[], ◌∙◌, ◌++◌, ap, sym, subst}
use Rattle.hol_theory.specs.Entry.{Entries}
use Rattle.hol_theory.specs.Adding.{AreNew}
use Rattle.hol_theory.proofs.Layers.{last_new, last_joined}
use Rattle.hol_theory.proofs.older.Older.join_last.Goals as goal

pub both-requires : goal.both-requires
both-requires c =
    subst (λ (t : Entries). AreNew t c.deref-2.result.now) (sym c.deref.ensures) (subst (AreNew c.in-Some-pop.before.value) (sym c.deref-2.ensures)
    (last_new (λ layer. layer.value) c.self.inside.layers.items c.pop.new.self.items c.pop-2.new.self.items c.in-Some-pop.before c.in-Some.last c.in-Some.ensures.items c.in-Some-pop.ensures.items
    c.self.invariant))

pub invariant_of-self-in-Some-both : goal.invariant_of-self-in-Some-both
invariant_of-self-in-Some-both c =
    let both = c.in-Some-both.ensures ∙ ap (λ (t : Entries). t ++ c.deref-2.result.now) c.deref.ensures ∙ ap (λ (t : Entries). c.in-Some-pop.before.value ++ t) c.deref-2.ensures in
    let same = last_joined (λ layer. layer.value) c.self.inside.layers.items c.pop.new.self.items c.pop-2.new.self.items c.in-Some-pop.before c.in-Some.last c.in-Some.ensures.items
    c.in-Some-pop.ensures.items c.push_reserved-in-Some-both.new.self.items c.in-Some-both.layer c.push_reserved-in-Some-both.ensures.items both in
    subst (AreNew []) (sym same) c.self.invariant

pub returns-in-Some-both : goal.returns-in-Some-both
returns-in-Some-both c =
    let both = c.in-Some-both.ensures ∙ ap (λ (t : Entries). t ++ c.deref-2.result.now) c.deref.ensures ∙ ap (λ (t : Entries). c.in-Some-pop.before.value ++ t) c.deref-2.ensures in
    let same = last_joined (λ layer. layer.value) c.self.inside.layers.items c.pop.new.self.items c.pop-2.new.self.items c.in-Some-pop.before c.in-Some.last c.in-Some.ensures.items
    c.in-Some-pop.ensures.items c.push_reserved-in-Some-both.new.self.items c.in-Some-both.layer c.push_reserved-in-Some-both.ensures.items both in
    same ∙ c.self.view_is
