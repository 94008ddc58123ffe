use Rattle.std.proofs.Common.{subst}
use Rattle.hol_types.specs.Tree.{TypeTree}
use Rattle.hol_typing.specs.declared.cell.Cell.TheVariants.{Generic}
use Rattle.hol_typing.specs.Generate.{IsFresh}
use Rattle.hol_typing.proofs.Slots.{instantiates_of}
use Rattle.hol_typing.proofs.generate.Graph.instantiate.Goals as goal

pub returns : goal.returns
returns c = instantiates_of c.args.self.now c.fresh.new.self c.equate.new.self c.args.generic.now c.in_ok-slot.slot c.args.expected c.requires.well_formed c.requires.expected_in
    (subst (λ (ty : TypeTree). IsFresh c.args.self.now c.fresh.new.self c.in_ok-slot.slot (Generic ty)) c.in_ok-copy.ensures c.in_ok-slot.ensures) c.in_ok-equate.ensures
