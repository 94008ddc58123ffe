use Rattle.std.proofs.Common.{sym, ◌∙◌, subst}
use Rattle.hol_typing.specs.declared.cell.Cell.{Cell}
use Rattle.hol_typing.specs.declared.cell.Cell.TheVariants.{Generic, Part}
use Rattle.hol_typing.specs.Graph.{IsCellIn, IsGenericCell, IsPartIn}
use Rattle.hol_typing.specs.Generate.{slots}
use Rattle.hol_typing.proofs.Opening.{opened, expands_of, slots_opened}
use Rattle.hol_typing.proofs.generate.Graph.expand.Goals as goal

pub instance-requires : goal.instance-requires
instance-requires c = opened c.args.self.now c.take.new.self c.args.slot c.requires.well_formed c.requires.generic.0 c.take.ensures.cells c.take.ensures.pending c.take.ensures.names

pub part_instance-requires-clause-well_formed : goal.part_instance-requires-clause-well_formed
part_instance-requires-clause-well_formed c = opened c.args.self.now c.take.new.self c.args.slot c.requires.well_formed c.requires.generic.0 c.take.ensures.cells c.take.ensures.pending c.take.ensures.names

pub part_instance-requires-clause-part_in : goal.part_instance-requires-clause-part_in
part_instance-requires-clause-part_in c =
    subst (λ n. IsPartIn n c.in-Part.part) (sym (slots_opened c.args.self.now c.take.new.self c.args.slot c.take.ensures.cells))
    (subst (λ (cell : Cell). IsCellIn (slots c.args.self.now) c.args.slot cell) (sym c.take.ensures.cell ∙ c.in-Part.is) (c.requires.well_formed.cells_in.cell_in c.args.slot))

pub returns-in-Generic : goal.returns-in-Generic
returns-in-Generic c = expands_of c.args.self.now c.take.new.self c.instance.new.self c.put.new.self c.args.slot (Generic c.in-Generic.generic) c.in_ok-cell-in-Generic.cell
    c.requires.well_formed c.requires.generic.0 (sym c.take.ensures.cell ∙ c.in-Generic.is) c.take.ensures.cells c.take.ensures.pending c.take.ensures.names
    c.in_ok-cell-in-Generic.ensures c.put.ensures.cells c.put.ensures.pending c.put.ensures.names

pub returns-in-Part : goal.returns-in-Part
returns-in-Part c = expands_of c.args.self.now c.take.new.self c.part_instance.new.self c.put-in-Part.new.self c.args.slot (Part c.in-Part.part) c.in_ok-cell-in-Part.cell
    c.requires.well_formed c.requires.generic.0 (sym c.take.ensures.cell ∙ c.in-Part.is) c.take.ensures.cells c.take.ensures.pending c.take.ensures.names
    c.in_ok-cell-in-Part.ensures c.put-in-Part.ensures.cells c.put-in-Part.ensures.pending c.put-in-Part.ensures.names

pub returns-in-Unknown : goal.returns-in-Unknown
returns-in-Unknown c = absurd (subst IsGenericCell (sym c.take.ensures.cell ∙ c.in-Unknown.is) c.requires.generic.1)

pub returns-in-Link : goal.returns-in-Link
returns-in-Link c = absurd (subst IsGenericCell (sym c.take.ensures.cell ∙ c.in-Link.is) c.requires.generic.1)

pub returns-in-Rigid : goal.returns-in-Rigid
returns-in-Rigid c = absurd (subst IsGenericCell (sym c.take.ensures.cell ∙ c.in-Rigid.is) c.requires.generic.1)
