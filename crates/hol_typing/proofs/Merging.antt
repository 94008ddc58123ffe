-- A merge of two roots keeps the solutions.
use Rattle.std.proofs.Common.{◌≡◌, ◌≢◌, ℕ, ◌<◌, ◌≤◌, inl, inr, List, ◌∷◌, length, set, sym, ◌∙◌, ap, subst, arith, get_or-set_same, get_or-set_other, length-set, slice_index_or}
use Rattle.std.proofs.lemmas.List.Elements.{All-cons, All-head, All-tail}
use Rattle.std.proofs.lemmas.List.Sums.{sum_by-set}
use Rattle.std.proofs.lemmas.Bool.{cases_eq}
use Rattle.std.proofs.lemmas.List.{get_or_default}
use Rattle.hol_types.specs.Tree.{TypeTree}
use Rattle.hol_typing.specs.declared.cell.Cell.{Cell}
use Rattle.hol_typing.specs.declared.cell.Cell.TheVariants.{Unknown, Link}
use Rattle.hol_typing.specs.declared.cell.Equation.{Equation}
use Rattle.hol_typing.specs.Graph.{CellHolds, cell_at, Respects, EquationHolds, SameSolutions, HasNoSolution, IsCellIn, IsGraph, AreBelow, AreIn, cell_weight, work_left, IsJoined, HaveNoType, generic_weight, generics, AreJoinable}

-- a slot's cell after a write
pub written : (cells : List Cell) (at : ℕ) (cell : Cell) → at < length cells → cell_at (set cells at cell) at ≡ cell
written cells at cell h = get_or-set_same cells at cell Unknown h

pub kept : (cells : List Cell) (at i : ℕ) (cell : Cell) → i ≢ at → cell_at (set cells at cell) i ≡ cell_at cells i
kept cells at i cell h = get_or-set_other cells at i cell Unknown h

-- types that meet the graph and one more cell meet the graph with that cell written
pub respects_set : (cells : List Cell) (at : ℕ) (cell : Cell) (types : ℕ → TypeTree) → at < length cells → Respects cells types → CellHolds types (types at) cell → Respects (set cells at cell) types
respects_set cells at cell types h r holds = record {
  cell = λ i. elim (cases_eq i at) [
    | inl e ↦ subst (λ (k : ℕ). CellHolds types (types k) (cell_at (set cells at cell) k)) (sym e) (rw (written cells at cell h) holds)
    | inr ne ↦ rw (kept cells at i cell ne) (r.cell i)
  ];
}

-- and the other way round
pub holds_set : (cells : List Cell) (at : ℕ) (cell : Cell) (types : ℕ → TypeTree) → at < length cells → Respects (set cells at cell) types → CellHolds types (types at) cell
holds_set cells at cell types h r = rw (written cells at cell h) at (r.cell at)

pub respects_unset : (cells : List Cell) (at : ℕ) (cell : Cell) (types : ℕ → TypeTree) → Respects (set cells at cell) types → CellHolds types (types at) (cell_at cells at) → Respects cells types
respects_unset cells at cell types r holds = record {
  cell = λ i. elim (cases_eq i at) [
    | inl e ↦ subst (λ (k : ℕ). CellHolds types (types k) (cell_at cells k)) (sym e) holds
    | inr ne ↦ rw (kept cells at i cell ne) at (r.cell i)
  ];
}

-- a type that meets a cell may be replaced by an equal one
pub cell_holds_same : (types : ℕ → TypeTree) (s t : TypeTree) (cell : Cell) → s ≡ t → CellHolds types s cell → CellHolds types t cell
cell_holds_same types s t cell e h = subst (λ (u : TypeTree). CellHolds types u cell) e h

pub is_graph_set : (cells : List Cell) (at : ℕ) (cell : Cell) → at < length cells → IsGraph cells → IsCellIn (length cells) at cell → IsGraph (set cells at cell)
is_graph_set cells at cell h g new = record {
  cell_in = λ i. elim (cases_eq i at) [
    | inl e ↦ subst (λ (k : ℕ). IsCellIn (length (set cells at cell)) k (cell_at (set cells at cell) k)) (sym e) (rw (length-set, written cells at cell h) new)
    | inr ne ↦ rw (length-set, kept cells at i cell ne) (g.cell_in i)
  ];
}

module _ (cells : List Cell) (low high : ℕ) (order : low < high) (high_in : high < length cells) where
  apart : low ≢ high
  apart = omega arith

  low_in : low < length cells
  low_in = omega arith

  pub linked_graph : IsGraph cells → IsGraph (set cells high (Link low))
  linked_graph g = is_graph_set cells high (Link low) high_in g order

  -- the lower root knows nothing: it takes the cell of the higher one
  pub taken_solutions : (pending : List Equation) → cell_at cells low ≡ Unknown → SameSolutions (set (set cells high (Link low)) low (cell_at cells high)) pending cells (record { left = low; right = high } ∷ pending)
  taken_solutions pending unknown types = (
    λ s.
        let given : List Cell = set cells high (Link low) in
        let low_given : low < length given = rw length-set low_in in
        let at_low : CellHolds types (types low) (cell_at cells high) = holds_set given low (cell_at cells high) types low_given s.respects in
        let same : types high ≡ types low =
        rw (written cells high (Link low) high_in) at (rw (kept given low high (cell_at cells high) (λ e. apart (sym e))) at (s.respects.cell high)) in
        let before : CellHolds types (types low) (cell_at given low) = rw (kept cells high low (Link low) apart, unknown) tt in
        record {
          respects = respects_unset cells high (Link low) types
              (respects_unset given low (cell_at cells high) types s.respects before)
              (cell_holds_same types (types low) (types high) (cell_at cells high) (sym same) at_low);
          equations = All-cons (EquationHolds types) (record { left = low; right = high }) pending (sym same) s.equations;
        },
    λ s.
        let given : List Cell = set cells high (Link low) in
        let low_given : low < length given = rw length-set low_in in
        let same : types low ≡ types high = All-head (EquationHolds types) (record { left = low; right = high }) pending s.equations in
        record {
          respects = respects_set given low (cell_at cells high) types low_given
              (respects_set cells high (Link low) types high_in s.respects (sym same))
              (cell_holds_same types (types high) (types low) (cell_at cells high) (sym same) (s.respects.cell high));
          equations = All-tail (EquationHolds types) (record { left = low; right = high }) pending s.equations;
        },
  )

  pub taken_less : (pending : List Equation) → cell_at cells low ≡ Unknown → work_left (set (set cells high (Link low)) low (cell_at cells high)) pending < work_left cells pending
  taken_less pending unknown =
      let given : List Cell = set cells high (Link low) in
      let low_given : low < length given = rw length-set low_in in
      let a = sum_by-set cell_weight cells high (Link low) Unknown high_in in
      let b = sum_by-set cell_weight given low (cell_at cells high) Unknown low_given in
      let e : cell_at given low ≡ Unknown = kept cells high low (Link low) apart ∙ unknown in
      let f : cell_weight (cell_at given low) ≡ 1 = ap cell_weight e in
      omega (arith, a, b, f)

  pub taken_generics : cell_at cells low ≡ Unknown → generics (set (set cells high (Link low)) low (cell_at cells high)) ≤ generics cells
  taken_generics unknown =
      let given : List Cell = set cells high (Link low) in
      let low_given : low < length given = rw length-set low_in in
      let a = sum_by-set generic_weight cells high (Link low) Unknown high_in in
      let b = sum_by-set generic_weight given low (cell_at cells high) Unknown low_given in
      let e : cell_at given low ≡ Unknown = kept cells high low (Link low) apart ∙ unknown in
      let f : generic_weight (cell_at given low) ≡ 0 = ap generic_weight e in
      omega (arith, a, b, f)

  pub linked_generics : generics (set cells high (Link low)) ≤ generics cells
  linked_generics = let a = sum_by-set generic_weight cells high (Link low) Unknown high_in in omega (arith, a)

  -- the higher root says no more than the lower one, apart from the new equations
  pub linked_solutions : (pending pending' : List Equation) → IsJoined (cell_at cells low) (cell_at cells high) pending pending' →
      SameSolutions (set cells high (Link low)) pending' cells (record { left = low; right = high } ∷ pending)
  linked_solutions pending pending' joined types = (
    λ s.
        let same : types high ≡ types low = holds_set cells high (Link low) types high_in s.respects in
        let at_low : CellHolds types (types low) (cell_at cells low) = rw (kept cells high low (Link low) apart) at (s.respects.cell low) in
        let parts = (joined.joins types (types low) at_low).0 s.equations in
        record {
          respects = respects_unset cells high (Link low) types s.respects (cell_holds_same types (types low) (types high) (cell_at cells high) (sym same) parts.0);
          equations = All-cons (EquationHolds types) (record { left = low; right = high }) pending (sym same) parts.1;
        },
    λ s.
        let same : types low ≡ types high = All-head (EquationHolds types) (record { left = low; right = high }) pending s.equations in
        record {
          respects = respects_set cells high (Link low) types high_in s.respects (sym same);
          equations = (joined.joins types (types low) (s.respects.cell low)).1 (
            cell_holds_same types (types high) (types low) (cell_at cells high) (sym same) (s.respects.cell high),
            All-tail (EquationHolds types) (record { left = low; right = high }) pending s.equations,
          );
        },
  )

  pub linked_less : (pending pending' : List Equation) → IsJoined (cell_at cells low) (cell_at cells high) pending pending' → work_left (set cells high (Link low)) pending' < work_left cells pending
  linked_less pending pending' joined =
      let a = sum_by-set cell_weight cells high (Link low) Unknown high_in in
      let l = joined.less in
      omega (arith, a, l)

  pub clash : (pending : List Equation) → HaveNoType (cell_at cells low) (cell_at cells high) → HasNoSolution cells (record { left = low; right = high } ∷ pending)
  clash pending none types s =
      let same : types low ≡ types high = All-head (EquationHolds types) (record { left = low; right = high }) pending s.equations in
      none types (types low) (s.respects.cell low) (cell_holds_same types (types high) (types low) (cell_at cells high) (sym same) (s.respects.cell high))

-- what a read of a slot gives
pub read_cell : (cells : List Cell) (i : ℕ) (x : Cell) → i < length cells → x ≡ slice_index_or cells i x → cell_at cells i ≡ x
read_cell cells i x h e = get_or_default cells i Unknown x h ∙ sym e

pub joined_at : (cells : List Cell) (i j : ℕ) (x y : Cell) (before after : List Equation) → cell_at cells i ≡ x → cell_at cells j ≡ y → IsJoined x y before after → IsJoined (cell_at cells i) (cell_at cells j) before after
joined_at cells i j x y before after p q h = subst (λ (u : Cell). IsJoined u (cell_at cells j) before after) (sym p) (subst (λ (v : Cell). IsJoined x v before after) (sym q) h)

pub no_type_at : (cells : List Cell) (i j : ℕ) (x y : Cell) → cell_at cells i ≡ x → cell_at cells j ≡ y → HaveNoType x y → HaveNoType (cell_at cells i) (cell_at cells j)
no_type_at cells i j x y p q h = subst (λ (u : Cell). HaveNoType u (cell_at cells j)) (sym p) (subst (λ (v : Cell). HaveNoType x v) (sym q) h)

pub linked_below : (cells : List Cell) (low high : ℕ) (cell : Cell) (before after : List Equation) → IsGraph cells → IsJoined (cell_at cells low) (cell_at cells high) before after → AreIn cells before → AreIn (set cells high cell) after
linked_below cells low high cell before after g j h = subst (λ (n : ℕ). AreBelow n after) (sym (length-set cells high cell)) (j.are_in (length cells) low high (g.cell_in low) (g.cell_in high) h)

pub joinable_of : (cells : List Cell) (i j : ℕ) (x y : Cell) → cell_at cells i ≡ x → cell_at cells j ≡ y → AreJoinable (cell_at cells i) (cell_at cells j) → AreJoinable x y
joinable_of cells i j x y p q h = subst (λ (v : Cell). AreJoinable x v) q (subst (λ (u : Cell). AreJoinable u (cell_at cells j)) p h)
