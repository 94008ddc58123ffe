use Rattle.std.proofs.Common.{ap, refl, sym}
use Rattle.hol_typing.specs.Raw.{RawFree}
use Rattle.hol_typing.specs.SlotTree.{SlotFree}
use Rattle.hol_typing.proofs.Generating.{generates_free, generates_same}
use Rattle.hol_typing.proofs.generate.Graph.free.Goals as goal

pub returns : goal.returns
returns c env =
    generates_same c.args.self.now c.equate.new.self env (RawFree c.args.name.now) (RawFree c.args.name.now) c.args.expected
    (SlotFree c.args.name.now c.args.expected) (SlotFree c.in_ok-copy.field-0 c.args.expected) refl (ap (λ n. SlotFree n c.args.expected) (sym c.in_ok-copy.ensures))
    (generates_free c.args.self.now c.name_slot.new.self c.equate.new.self env c.args.name.now c.args.expected c.in_ok-slot.slot c.requires.expected_in
    c.in_ok-slot.ensures c.in_ok-equate.ensures)
