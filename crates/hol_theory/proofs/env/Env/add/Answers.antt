use Rattle.std.proofs.Common.{◌∙◌, ◌++◌, ◌∷◌, [], ap, refl}
use Rattle.hol_theory.specs.Constants.{constant_names}
use Rattle.hol_theory.specs.Entry.{EntryValue, entry_at}
use Rattle.hol_theory.specs.Key.{KeyValue}
use Rattle.hol_theory.proofs.Layers.{none_right}
use Rattle.hol_theory.proofs.Naming.{names_with_one}
use Rattle.hol_theory.proofs.Theories.{free_key, theory_grown}
use Rattle.hol_theory.proofs.env.Env.add.Goals as goal

pub add-requires : goal.add-requires
add-requires c =
    let none = free_key c.contains_key.result c.args.self.now c.args.key.now c.contains_key.ensures c.if-contains_key.false in
    ap (λ (e : KeyValue × EntryValue). entry_at e.0 c.self.inside.newest) c.in_ok-key.ensures
    ∙ none_right c.args.key.now c.self.inside.older c.self.inside.newest (ap (entry_at c.args.key.now) c.self.view_is ∙ none)

pub invariant_of-self-2 : goal.invariant_of-self-2
invariant_of-self-2 c =
    let none = free_key c.contains_key.result c.args.self.now c.args.key.now c.contains_key.ensures c.if-contains_key.false in
    theory_grown c.self.inside.older c.self.inside.newest c.args.self.now ((c.args.key.now, c.args.value.now) ∷ []) c.add.new.self c.self.view_is
    (c.in_ok-add.ensures.ok ∙ ap (λ (e : KeyValue × EntryValue). c.self.inside.newest ++ e ∷ []) c.in_ok-key.ensures)
    c.in_ok-count.count 1 c.add_name.new.names c.self.invariant.0 c.self.invariant.1 (none, tt) (c.requires none) refl c.in_ok-count.ensures
    (names_with_one c.args.self.now c.args.key.now c.args.value.now c.in_ok-names.names c.add_name.new.names (c.in_ok-names.ensures ∙ c.self.invariant.3 ∙ ap constant_names c.self.view_is) c.in_ok-add_name.ensures)
