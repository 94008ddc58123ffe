use Rattle.std.proofs.Common.{◌≡◌, ◌++◌, ◌∷◌, [], None, refl, rules}
use Rattle.hol_typing.specs.Generate.{slot_of}
use Rattle.hol_typing.proofs.Slots.{finds_name_new}
use Rattle.hol_typing.proofs.generate.Graph.name_slot.Goals as goal

pub returns : goal.returns
returns c =
    let none : slot_of c.args.self.now.names.items c.args.name.now ≡ None = search rules in
    let names : c.push.new.self.items ≡ c.fresh.new.self.names.items ++ (c.args.name.now, c.in_ok-slot.slot) ∷ [] = search rules in
    finds_name_new c.args.self.now c.fresh.new.self _ c.args.name.now c.in_ok-slot.slot c.requires none c.in_ok-slot.ensures refl refl names
