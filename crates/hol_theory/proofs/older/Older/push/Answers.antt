use Rattle.std.proofs.Common.{[], ◌∙◌, sym, subst}
use Rattle.hol_theory.specs.Adding.{AreNew}
use Rattle.hol_theory.proofs.Layers.{layer_pushed, new_joined}
use Rattle.hol_theory.proofs.older.Older.push.Goals as goal

pub invariant_of-self-2 : goal.invariant_of-self-2
invariant_of-self-2 c =
    let is = layer_pushed (λ layer. layer.value) c.self.inside.layers.items c.reserve.new.self.items c.push_reserved.new.self.items c.in_ok-new.field-0 c.args.self.now c.args.layer c.self.view_is
    c.reserve.ensures.items c.push_reserved.ensures.items c.in_ok-new.ensures.ok in
    subst (AreNew []) (sym is) (new_joined [] c.args.self.now c.args.layer (subst (AreNew []) c.self.view_is c.self.invariant) c.requires)

pub returns-clause-ok : goal.returns-clause-ok
returns-clause-ok c =
    c.join_short.ensures
    ∙ layer_pushed (λ layer. layer.value) c.self.inside.layers.items c.reserve.new.self.items c.push_reserved.new.self.items c.in_ok-new.field-0 c.args.self.now c.args.layer c.self.view_is
    c.reserve.ensures.items c.push_reserved.ensures.items c.in_ok-new.ensures.ok
