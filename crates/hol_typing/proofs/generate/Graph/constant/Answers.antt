use Rattle.std.proofs.Common.{ap, refl, sym}
use Rattle.hol_typing.specs.Raw.{RawConstant}
use Rattle.hol_typing.specs.SlotTree.{SlotConstant}
use Rattle.hol_typing.proofs.Generating.{generates_constant, generates_same}
use Rattle.hol_typing.proofs.generate.Graph.constant.Goals as goal

pub returns : goal.returns
returns c env =
    generates_same c.args.self.now c.instantiate.new.self env (RawConstant c.args.name.now c.args.generic.now) (RawConstant c.args.name.now c.args.generic.now) c.args.expected
    (SlotConstant c.args.name.now c.args.expected) (SlotConstant c.in_ok-copy.field-0 c.args.expected) refl (ap (λ n. SlotConstant n c.args.expected) (sym c.in_ok-copy.ensures))
    (generates_constant c.args.self.now c.instantiate.new.self env c.args.name.now c.args.generic.now c.args.expected c.requires.expected_in c.in_ok-instantiate.ensures)
