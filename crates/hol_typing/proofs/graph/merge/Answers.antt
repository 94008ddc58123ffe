-- Of each clause: where nothing is known of the lower slot, it takes the other's cell (`taken_..`); else the cells are joined, the higher slot
-- is linked to the lower one (`linked_..`), and cells that don't join leave no solution (`clash`).
use Rattle.std.proofs.Common.{◌≡◌, ◌∷◌, ◌∙◌, arith, rules}
use Rattle.hol_typing.specs.Graph.{cell_at, HasNoSolution}
use Rattle.hol_typing.specs.declared.cell.Cell.TheVariants.{Unknown}
use Rattle.hol_typing.specs.declared.fault.Fault.TheVariants.{Untypable}
use Rattle.hol_typing.proofs.Merging.{read_cell, taken_solutions, taken_less, joined_at, no_type_at, linked_solutions, linked_graph, linked_less, linked_below, clash, joinable_of, taken_generics, linked_generics}
use Rattle.hol_typing.proofs.graph.merge.Goals as goal

pub returns-in-Unknown-clause-solutions : goal.returns-in-Unknown-clause-solutions
returns-in-Unknown-clause-solutions c =
    let e : cell_at c.args.cells.now c.args.low ≡ Unknown = read_cell c.args.cells.now c.args.low c.index-cells-low.result (omega arith) c.index-cells-low.is ∙ c.index-cells-low.is ∙ c.in-Unknown.is in
    rw c.take_cell.ensures (taken_solutions c.args.cells.now c.args.low c.args.high c.requires.order c.requires.high_in c.args.pending.now.items e)

pub returns-in-Unknown-clause-less : goal.returns-in-Unknown-clause-less
returns-in-Unknown-clause-less c =
    let e : cell_at c.args.cells.now c.args.low ≡ Unknown = read_cell c.args.cells.now c.args.low c.index-cells-low.result (omega arith) c.index-cells-low.is ∙ c.index-cells-low.is ∙ c.in-Unknown.is in
    rw c.take_cell.ensures (taken_less c.args.cells.now c.args.low c.args.high c.requires.order c.requires.high_in c.args.pending.now.items e)

pub returns-in_err-join-clause-untypable : goal.returns-in_err-join-clause-untypable
returns-in_err-join-clause-untypable c =
    let none : c.in_err-join.field-0.0 ≡ Untypable → HasNoSolution c.args.cells.now (record { left = c.args.low; right = c.args.high } ∷ c.args.pending.now.items) =
    λ e. clash c.args.cells.now c.args.low c.args.high c.requires.order c.requires.high_in c.args.pending.now.items
    (no_type_at c.args.cells.now c.args.low c.args.high c.index-cells-low-2.result c.index-cells-high.result
    (read_cell c.args.cells.now c.args.low c.index-cells-low-2.result (omega arith) c.index-cells-low-2.is)
    (read_cell c.args.cells.now c.args.high c.index-cells-high.result (omega arith) c.index-cells-high.is)
    (c.in_err-join.ensures.untypable e)) in
    search rules

pub returns-clause-graph : goal.returns-clause-graph
returns-clause-graph c = linked_graph c.args.cells.now c.args.low c.args.high c.requires.order c.requires.high_in c.requires.graph

pub returns-clause-pending_in : goal.returns-clause-pending_in
returns-clause-pending_in c =
    linked_below c.args.cells.now c.args.low c.args.high _ c.args.pending.now.items c.join.new.pending.items c.requires.graph
    (joined_at c.args.cells.now c.args.low c.args.high c.index-cells-low-2.result c.index-cells-high.result c.args.pending.now.items c.join.new.pending.items
    (read_cell c.args.cells.now c.args.low c.index-cells-low-2.result (omega arith) c.index-cells-low-2.is)
    (read_cell c.args.cells.now c.args.high c.index-cells-high.result (omega arith) c.index-cells-high.is)
    c.in_ok-join.ensures.joined)
    c.requires.pending_in

pub returns-clause-solutions : goal.returns-clause-solutions
returns-clause-solutions c =
    linked_solutions c.args.cells.now c.args.low c.args.high c.requires.order c.requires.high_in c.args.pending.now.items c.join.new.pending.items
    (joined_at c.args.cells.now c.args.low c.args.high c.index-cells-low-2.result c.index-cells-high.result c.args.pending.now.items c.join.new.pending.items
    (read_cell c.args.cells.now c.args.low c.index-cells-low-2.result (omega arith) c.index-cells-low-2.is)
    (read_cell c.args.cells.now c.args.high c.index-cells-high.result (omega arith) c.index-cells-high.is)
    c.in_ok-join.ensures.joined)

pub returns-clause-less : goal.returns-clause-less
returns-clause-less c =
    linked_less c.args.cells.now c.args.low c.args.high c.requires.order c.requires.high_in c.args.pending.now.items c.join.new.pending.items
    (joined_at c.args.cells.now c.args.low c.args.high c.index-cells-low-2.result c.index-cells-high.result c.args.pending.now.items c.join.new.pending.items
    (read_cell c.args.cells.now c.args.low c.index-cells-low-2.result (omega arith) c.index-cells-low-2.is)
    (read_cell c.args.cells.now c.args.high c.index-cells-high.result (omega arith) c.index-cells-high.is)
    c.in_ok-join.ensures.joined)

pub join-requires-clause-joinable : goal.join-requires-clause-joinable
join-requires-clause-joinable c = joinable_of c.args.cells.now c.args.low c.args.high c.index-cells-low-2.result c.index-cells-high.result
    (read_cell c.args.cells.now c.args.low c.index-cells-low-2.result (omega arith) c.index-cells-low-2.is)
    (read_cell c.args.cells.now c.args.high c.index-cells-high.result (omega arith) c.index-cells-high.is)
    c.requires.joinable

pub returns-in-Unknown-clause-generics : goal.returns-in-Unknown-clause-generics
returns-in-Unknown-clause-generics c =
    let e : cell_at c.args.cells.now c.args.low ≡ Unknown = read_cell c.args.cells.now c.args.low c.index-cells-low.result (omega arith) c.index-cells-low.is ∙ c.index-cells-low.is ∙ c.in-Unknown.is in
    rw c.take_cell.ensures (taken_generics c.args.cells.now c.args.low c.args.high c.requires.order c.requires.high_in e)

pub returns-clause-generics : goal.returns-clause-generics
returns-clause-generics c = linked_generics c.args.cells.now c.args.low c.args.high c.requires.order c.requires.high_in
