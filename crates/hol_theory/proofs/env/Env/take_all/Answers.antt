use Rattle.std.proofs.Common.{◌≡◌, ◌++◌, ◌∙◌, length, arith, rules, ap, sym, subst}
use Rattle.hol_theory.specs.Constants.{constant_names}
use Rattle.hol_theory.specs.Entry.{Entries}
use Rattle.hol_theory.specs.Adding.{AreNew}
use Rattle.hol_theory.proofs.Layers.{new_right}
use Rattle.hol_theory.proofs.Theories.{theory_grown}
use Rattle.hol_theory.proofs.env.Env.take_all.Goals as goal

pub add_all-requires : goal.add_all-requires
add_all-requires c =
    new_right c.self.inside.older c.self.inside.newest c.args.more.items (subst (λ (t : Entries). AreNew t c.args.more.items) (sym c.self.view_is) c.requires.new)

pub invariant_of-self-2 : goal.invariant_of-self-2
invariant_of-self-2 c =
    let more : c.deref.result.now ≡ c.args.more.items = search rules in
    let len : c.len.result ≡ length c.args.more.items = omega (arith, c.len.ensures, c.args.more.ok.0) in
    theory_grown c.self.inside.older c.self.inside.newest c.args.self.now c.args.more.items c.add_all.new.self c.self.view_is c.in_ok-add_all.ensures.ok c.in_ok-count.count c.len.result
    c.in_ok-names.names c.self.invariant.0 c.self.invariant.1 c.requires.new c.requires.follow len c.in_ok-count.ensures (c.in_ok-names.ensures ∙ ap (λ (t : Entries). constant_names (c.args.self.now ++ t)) more)
