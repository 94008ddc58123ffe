use Rattle.std.proofs.Common.{rules, arith, ◌≡◌, ℕ, ◌+◌, List, [], ◌∷◌, ◌++◌, length, refl, sym, subst}
use Rattle.hol_typing.specs.declared.cell.Cell.{Cell}
use Rattle.hol_typing.specs.Generate.{slots}
use Rattle.hol_typing.specs.Graph.{CellHolds, IsGraph, IsSolution, AreIn}
use Rattle.hol_typing.proofs.Growing.{is_graph_push, are_in_push_cell, push_cell_solves}
use Rattle.hol_typing.proofs.generate.Graph.fresh.Goals as goal

pub returns : goal.returns
returns c =
    let g = c.args.self.now in
    let cells = g.cells.items in
    let pending = g.pending.items in
    let cell = c.args.cell in
    let pushed : c.push.new.self.items ≡ cells ++ cell ∷ [] = c.in_ok-push.ensures.items in
    let at : c.len-slot.result ≡ slots g = search rules in
    let one_more : length c.push.new.self.items ≡ slots g + 1 = search rules in
    record {
      slot_is = at;
      slots_are = one_more;
      cells_are = pushed;
      pending_are = refl;
      names_are = refl;
      well_formed = record {
        cells_in = subst IsGraph (sym pushed) (is_graph_push cells cell c.requires.well_formed.cells_in c.requires.cell_in);
        pending_in = subst (λ (all : List Cell). AreIn all pending) (sym pushed) (are_in_push_cell cells pending cell c.requires.well_formed.pending_in);
        names_in = λ a s found. let below = c.requires.well_formed.names_in a s found in omega (arith, below, one_more);
      };
      solves = λ type_of types. (
        λ s. let parts = (push_cell_solves cells pending cell types).0 (subst (λ (all : List Cell). IsSolution all pending types) pushed s.solution) in
            (record { solution = parts.0; names = s.names }, subst (λ (slot : ℕ). CellHolds types (types slot) cell) (sym at) parts.1),
        λ (s, holds). record {
          solution = subst (λ (all : List Cell). IsSolution all pending types) (sym pushed) ((push_cell_solves cells pending cell types).1 (s.solution, subst (λ (slot : ℕ). CellHolds types (types slot) cell) at holds));
          names = s.names;
        },
      );
    }
