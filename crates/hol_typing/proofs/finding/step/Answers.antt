use Rattle.std.proofs.Common.{◌≡◌, ◌<◌, length, None, rules, arith, sym, subst}
use Rattle.hol_typing.specs.declared.cell.Cell.{Cell}
use Rattle.hol_typing.specs.Found.{found_at, BuiltFrom}
use Rattle.hol_typing.proofs.Merging.{read_cell}
use Rattle.hol_typing.proofs.Saturating.{is_built_more}
use Rattle.hol_typing.proofs.finding.step.Goals as goal

pub returns-in-Some-clause-built : goal.returns-in-Some-clause-built
returns-in-Some-clause-built c =
    let lt : c.args.slot < length c.args.found.now = omega arith in
    let none : found_at c.args.found.now c.args.slot ≡ None = search rules in
    is_built_more c.args.cells.now c.args.numbering c.args.found.now c.args.slot c.in-Some.shape lt c.requires.len none c.requires.graph c.requires.numbering c.requires.built
    (subst (λ (cell : Cell). BuiltFrom c.args.numbering c.args.found.now c.args.slot c.in-Some.shape cell) (sym (read_cell c.args.cells.now c.args.slot c.index-cells-slot.result c.requires.slot_in c.index-cells-slot.is))
    (rw c.in-Some.is at c.in_ok-shape.ensures))
