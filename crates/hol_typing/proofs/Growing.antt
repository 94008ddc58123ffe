-- A graph that grows.
use Rattle.std.proofs.Common.{◌≡◌, ℕ, ◌+◌, ◌<◌, ◌≤◌, ◌⊎◌, inl, inr, List, [], ◌∷◌, ◌++◌, length, map, get_or, refl, sym, ◌∙◌, ap, subst, arith, length-append}
use Rattle.std.specs.Prelude.{◌↔◌}
use Rattle.std.specs.List.{All}
use Rattle.std.proofs.lemmas.Bool.{cases_eq, cases_lt}
use Rattle.std.proofs.lemmas.List.{get_or_append_left, get_or_past}
use Rattle.std.proofs.lemmas.List.Elements.{All-head, All-tail, All-weaker}
use Rattle.std.proofs.Math.Seq.{get_or-append_seam}
use Rattle.hol_types.specs.Tree.{TypeTree, TyApp, type_list}
use Rattle.hol_types.specs.Subst.{type_subst}
use Rattle.hol_typing.specs.Typing.{IsGenericInstance}
use Rattle.hol_typing.specs.declared.cell.Cell.{Cell}
use Rattle.hol_typing.specs.declared.cell.Cell.TheVariants.{Unknown, Link, Rigid, App, Generic, Part}
use Rattle.hol_typing.specs.declared.cell.Equation.{Equation}
use Rattle.hol_typing.specs.declared.cell.GenericPart.{GenericPart}
use Rattle.hol_typing.specs.declared.generate.Graph.{Graph}
use Rattle.hol_typing.specs.Graph.{pairs_from, IsBoundInstance, bound_names, IsPartIn, CellHolds, cell_at, Respects, IsSolution, IsCellIn, IsGraph, AreIn}
use Rattle.hol_typing.specs.Generate.{Agree, IsNewCell, Solves, slots, IsWellFormed}

-- of a list with one more at its end
pub all_last : (P : Equation → Type 0) (xs : List Equation) (x : Equation) → All P (xs ++ x ∷ []) → All P xs × P x
all_last P xs x h = (
  λ k d lt. rw (get_or_append_left xs (x ∷ []) d k lt) at (h k d (rw length-append (omega arith))),
  rw (get_or-append_seam xs x [] x) at (h (length xs) x (rw length-append (omega arith))),
)

-- the cells of a graph with one slot more
old_cell : (cells : List Cell) (cell : Cell) (i : ℕ) → i < length cells → cell_at (cells ++ cell ∷ []) i ≡ cell_at cells i
old_cell cells cell i lt = get_or_append_left cells (cell ∷ []) Unknown i lt

new_cell : (cells : List Cell) (cell : Cell) → cell_at (cells ++ cell ∷ []) (length cells) ≡ cell
new_cell cells cell = get_or-append_seam cells cell [] Unknown

past_cell : (cells : List Cell) (i : ℕ) → length cells ≤ i → cell_at cells i ≡ Unknown
past_cell cells i le = get_or_past cells i Unknown le

below_more : (n : ℕ) (parts : List ℕ) → All (λ p. p < n) parts → All (λ p. p < n + 1) parts
below_more n parts h = All-weaker (λ (p : ℕ). p < n) (λ (p : ℕ). p < n + 1) (λ x l. omega arith) parts h

is_part_in_more : (n : ℕ) (part : GenericPart) → IsPartIn n part → IsPartIn (n + 1) part
is_part_in_more n part h = record { row_in = (let r = h.row_in in omega (arith, r)); linear = h.linear; distinct = h.distinct; applied = h.applied }

is_cell_in_new : (n : ℕ) (cell : Cell) → IsNewCell n cell → IsCellIn (n + 1) n cell
is_cell_in_new n Unknown h = tt
is_cell_in_new n (Link j) h = h
is_cell_in_new n (Rigid a) h = h
is_cell_in_new n (App c parts) h = below_more n parts.items h
is_cell_in_new n (Generic ty) h = h
is_cell_in_new n (Part part) h = is_part_in_more n part h

is_cell_in_more : (n i : ℕ) (cell : Cell) → IsCellIn n i cell → IsCellIn (n + 1) i cell
is_cell_in_more n i Unknown h = tt
is_cell_in_more n i (Link j) h = h
is_cell_in_more n i (Rigid a) h = h
is_cell_in_more n i (App c parts) h = below_more n parts.items h
is_cell_in_more n i (Generic ty) h = h
is_cell_in_more n i (Part part) h = is_part_in_more n part h

-- a slot is an old one, the new one, or none
by_slot : (n i : ℕ) → (i < n) ⊎ ((i ≡ n) ⊎ (n + 1 ≤ i))
by_slot n i = elim (cases_lt i n) [
  | inl lt ↦ inl lt
  | inr ge ↦ elim (cases_eq i n) [ inl e ↦ inr (inl e) | inr ne ↦ inr (inr (omega arith)) ]
]

pushed_length : (cells : List Cell) (cell : Cell) → length (cells ++ cell ∷ []) ≡ length cells + 1
pushed_length cells cell = length-append cells (cell ∷ [])

pub is_graph_push : (cells : List Cell) (cell : Cell) → IsGraph cells → IsNewCell (length cells) cell → IsGraph (cells ++ cell ∷ [])
is_graph_push cells cell g new = record {
  cell_in = λ i. elim (by_slot (length cells) i) [
    | inl lt ↦ rw (pushed_length cells cell, old_cell cells cell i lt) (is_cell_in_more (length cells) i (cell_at cells i) (g.cell_in i))
    | inr more ↦ elim more [
      | inl e ↦ subst (λ (k : ℕ). IsCellIn (length (cells ++ cell ∷ [])) k (cell_at (cells ++ cell ∷ []) k)) (sym e)
          (rw (pushed_length cells cell, new_cell cells cell) (is_cell_in_new (length cells) cell new))
      | inr le ↦ rw (past_cell (cells ++ cell ∷ []) i (rw pushed_length le)) tt
    ]
  ];
}

pub respects_push : (cells : List Cell) (cell : Cell) (types : ℕ → TypeTree) → Respects (cells ++ cell ∷ []) types ↔ (Respects cells types × CellHolds types (types (length cells)) cell)
respects_push cells cell types = (
  λ r. (
    record {
      cell = λ i. elim (cases_lt i (length cells)) [
        | inl lt ↦ rw (old_cell cells cell i lt) at (r.cell i)
        | inr ge ↦ rw (past_cell cells i ge) tt
      ];
    },
    rw (new_cell cells cell) at (r.cell (length cells)),
  ),
  λ (r, h). record {
    cell = λ i. elim (by_slot (length cells) i) [
      | inl lt ↦ rw (old_cell cells cell i lt) (r.cell i)
      | inr more ↦ elim more [
        | inl e ↦ subst (λ (k : ℕ). CellHolds types (types k) (cell_at (cells ++ cell ∷ []) k)) (sym e) (rw (new_cell cells cell) h)
        | inr le ↦ rw (past_cell (cells ++ cell ∷ []) i (rw pushed_length le)) tt
      ]
    ];
  },
)

-- the solutions with a cell more, and with an equation more
pub push_cell_solves : (cells : List Cell) (pending : List Equation) (cell : Cell) (types : ℕ → TypeTree) →
    IsSolution (cells ++ cell ∷ []) pending types ↔ (IsSolution cells pending types × CellHolds types (types (length cells)) cell)
push_cell_solves cells pending cell types = (
  λ s. let parts = (respects_push cells cell types).0 s.respects in (record { respects = parts.0; equations = s.equations }, parts.1),
  λ (s, h). record { respects = (respects_push cells cell types).1 (s.respects, h); equations = s.equations },
)

pub are_in_push_cell : (cells : List Cell) (pending : List Equation) (cell : Cell) → AreIn cells pending → AreIn (cells ++ cell ∷ []) pending
are_in_push_cell cells pending cell h k d lt = let w = h k d lt in let e = pushed_length cells cell in (omega (arith, e, w.0), omega (arith, e, w.1))

-- types that agree on the slots solve the same
parts_agree : (n : ℕ) (types types' : ℕ → TypeTree) (parts : List ℕ) → Agree n types types' → All (λ p. p < n) parts → map types parts ≡ map types' parts
parts_agree n types types' [] a h = refl
parts_agree n types types' (p ∷ parts) a h =
    let e : types p ≡ types' p = a.agree p (All-head (λ (k : ℕ). k < n) p parts h) in
    let f : map types parts ≡ map types' parts = parts_agree n types types' parts a (All-tail (λ (k : ℕ). k < n) p parts h) in
    cc

pub map_agree : (n : ℕ) (types types' : ℕ → TypeTree) (env : List ℕ) → Agree n types types' → All (λ s. s < n) env → map types env ≡ map types' env
map_agree n types types' env a h = parts_agree n types types' env a h

pub app_ap : (c : List ℕ) (ss ts : List TypeTree) → ss ≡ ts → TyApp c (type_list ss) ≡ TyApp c (type_list ts)
app_ap c ss ts e = cc

pair_same : (s t : TypeTree) (a : List ℕ) (ps qs : List (TypeTree × List ℕ)) → s ≡ t → ps ≡ qs → (s, a) ∷ ps ≡ (t, a) ∷ qs
pair_same s t a ps qs p q = λ i. (p i, a) ∷ q i

-- and so do those that stand for names
pub pairs_agree : (n base : ℕ) (names : List (List ℕ)) (types types' : ℕ → TypeTree) → Agree n types types' → base + length names ≤ n → pairs_from types base names ≡ pairs_from types' base names
pairs_agree n base [] types types' a le = refl
pairs_agree n base (b ∷ names) types types' a le =
    pair_same (types base) (types' base) b (pairs_from types (base + 1) names) (pairs_from types' (base + 1) names)
    (a.agree base (omega (arith, le))) (pairs_agree n (base + 1) names types types' a (omega (arith, le)))

pub bound_agree : (n base : ℕ) (names : List (List ℕ)) (types types' : ℕ → TypeTree) (ty t : TypeTree) → Agree n types types' → base + length names ≤ n → IsBoundInstance types names base ty t → IsBoundInstance types' names base ty t
bound_agree n base names types types' ty t a le (pairs, e) =
    (pairs, e ∙ ap (λ (env : List (TypeTree × List ℕ)). type_subst (env ++ pairs) ty) (pairs_agree n base names types types' a le))

cell_holds_agree : (n i : ℕ) (types types' : ℕ → TypeTree) (cell : Cell) → Agree n types types' → i < n → IsCellIn n i cell → CellHolds types (types i) cell → CellHolds types' (types' i) cell
cell_holds_agree n i types types' Unknown a lt in' h = tt
cell_holds_agree n i types types' (Link j) a lt in' h = sym (a.agree i lt) ∙ h ∙ a.agree j (omega arith)
cell_holds_agree n i types types' (Rigid x) a lt in' h = sym (a.agree i lt) ∙ h
cell_holds_agree n i types types' (Generic ty) a lt in' h = subst (IsGenericInstance ty) (a.agree i lt) h
cell_holds_agree n i types types' (Part part) a lt in' h =
    subst (IsBoundInstance types' (bound_names part) part.base part.ty) (a.agree i lt)
    (bound_agree n part.base (bound_names part) types types' part.ty (types i) a in'.row_in h)
cell_holds_agree n i types types' (App c parts) a lt in' h =
    sym (a.agree i lt) ∙ h ∙ app_ap c (map types parts.items) (map types' parts.items) (parts_agree n types types' parts.items a in')

pub respects_agree : (cells : List Cell) (types types' : ℕ → TypeTree) → IsGraph cells → Agree (length cells) types types' → Respects cells types → Respects cells types'
respects_agree cells types types' g a r = record {
  cell = λ i. elim (cases_lt i (length cells)) [
    | inl lt ↦ cell_holds_agree (length cells) i types types' (cell_at cells i) a lt (g.cell_in i) (r.cell i)
    | inr ge ↦ rw (past_cell cells i ge) tt
  ];
}

pub agree_solves : (cells : List Cell) (pending : List Equation) (types types' : ℕ → TypeTree) → IsGraph cells → AreIn cells pending → Agree (length cells) types types' → IsSolution cells pending types → IsSolution cells pending types'
agree_solves cells pending types types' g p a s = record {
  respects = respects_agree cells types types' g a s.respects;
  equations = λ k d lt. let in' = p k d lt in sym (a.agree (get_or pending k d).left in'.0) ∙ s.equations k d lt ∙ a.agree (get_or pending k d).right in'.1;
}

pub solves_agree : (g : Graph) (type_of : List ℕ → TypeTree) (types types' : ℕ → TypeTree) → IsWellFormed g → Agree (slots g) types types' → Solves g type_of types → Solves g type_of types'
solves_agree g type_of types types' w a s = record {
  solution = agree_solves g.cells.items g.pending.items types types' w.cells_in w.pending_in a s.solution;
  names = λ b k e. s.names b k e ∙ a.agree k (w.names_in b k e);
}
