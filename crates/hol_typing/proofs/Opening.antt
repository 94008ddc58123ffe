-- Slots for the parts of generic types keep the solutions.
use Rattle.std.proofs.Common.{◌≡◌, ℕ, ◌+◌, ◌<◌, List, [], ◌∷◌, ◌++◌, length, map, set, get_or, refl, sym, ◌∙◌, ap, subst, arith, true, length-append, length-set}
use Rattle.std.specs.Prelude.{◌↔◌}
use Rattle.std.specs.List.{All}
use Rattle.std.proofs.lemmas.Slice.Eq.{bytes_eq-Decides}
use Rattle.std.proofs.lemmas.List.{get_or_append_left, append-nil}
use Rattle.std.proofs.lemmas.List.Elements.{All-nil, All-head, All-tail}
use Rattle.std.proofs.lemmas.List.Sums.{sum_by-set, sum_by-append, sum_by-cons}
use Rattle.hol_types.proofs.Steps.{subst_list}
use Rattle.hol_types.specs.Tree.{TypeTree, TyVar, TyApp, type_list, type_size}
use Rattle.hol_types.specs.Names.{is_among, type_names}
use Rattle.hol_types.specs.Subst.{type_subst, type_for}
use Rattle.hol_typing.specs.Typing.{IsGenericInstance}
use Rattle.hol_typing.specs.declared.cell.Cell.{Cell}
use Rattle.hol_typing.specs.declared.cell.Cell.TheVariants.{Unknown, Link, Rigid, App, Generic, Part}
use Rattle.hol_typing.specs.declared.generate.Graph.{Graph}
use Rattle.hol_typing.specs.Graph.{pairs_from, CellHolds, cell_at, Respects, IsGraph, IsCellIn, AreIn, IsExpandedCell, generic_weight, generics, SameSolutions}
use Rattle.hol_typing.specs.Generate.{Solves, slots, IsWellFormed, Agree, AddsUnknown, BuildsTypes}
use Rattle.hol_typing.specs.Expanding.{Refines, BuildsInstance, Expands}
use Rattle.hol_typing.proofs.Growing.{solves_agree, app_ap}
use Rattle.hol_typing.proofs.Extending.{agree_trans, agree_refl, grows_trans}
use Rattle.hol_typing.proofs.Instances.{put_from, put_from_agree, put_from_at, named_types, subst_same}
use Rattle.hol_typing.proofs.Merging.{written, respects_set, holds_set, respects_unset, is_graph_set}

-- ---- refining

pub refines_refl : (g : Graph) → IsWellFormed g → Refines g g
refines_refl g w = record {
  well_formed = w;
  more = omega arith;
  sound = λ type_of types s. s;
  complete = λ type_of types s. (types, agree_refl (slots g) types, s);
}

pub refines_trans : (f g h : Graph) → Refines f g → Refines g h → Refines f h
refines_trans f g h p q = record {
  well_formed = q.well_formed;
  more = (let m = p.more in let n = q.more in omega (arith, m, n));
  sound = λ type_of types s. p.sound type_of types (q.sound type_of types s);
  complete = λ type_of types s.
      let x = p.complete type_of types s in
      let y = q.complete type_of x.0 x.2 in
      (y.0, agree_trans (slots f) (slots g) types x.0 y.0 p.more x.1 y.1, y.2);
}

-- the same slots and names with the same solutions
pub refines_same : (g h : Graph) → IsWellFormed g → IsGraph h.cells.items → AreIn h.cells.items h.pending.items → slots h ≡ slots g → h.names.items ≡ g.names.items →
    SameSolutions h.cells.items h.pending.items g.cells.items g.pending.items → Refines g h
refines_same g h w graph pending len names same = record {
  well_formed = record {
    cells_in = graph;
    pending_in = pending;
    names_in = λ a s e. (let l = w.names_in a s (rw names at e) in omega (arith, l, len));
  };
  more = omega (arith, len);
  sound = λ type_of types s. record { solution = (same types).0 s.solution; names = λ a k e. s.names a k (rw names e) };
  complete = λ type_of types s. (types, agree_refl (slots g) types, record { solution = (same types).1 s.solution; names = λ a k e. s.names a k (rw names at e) });
}

-- ---- cells of a graph that grows

old_at : (cells extra : List Cell) (i : ℕ) → i < length cells → cell_at (cells ++ extra) i ≡ cell_at cells i
old_at cells extra i lt = get_or_append_left cells extra Unknown i lt

expanded_counts : (c : Cell) → IsExpandedCell c → generic_weight c ≡ 0
expanded_counts Unknown h = refl
expanded_counts (Link j) h = refl
expanded_counts (Rigid a) h = refl
expanded_counts (App d parts) h = refl
expanded_counts (Generic ty) h = absurd h
expanded_counts (Part part) h = absurd h

pub weights_none : (cells : List Cell) → All IsExpandedCell cells → generics cells ≡ 0
weights_none [] all = refl
weights_none (c ∷ cells) all =
    let r = weights_none cells (All-tail IsExpandedCell c cells all) in
    let h : generic_weight c ≡ 0 = expanded_counts c (All-head IsExpandedCell c cells all) in
    let whole : generics (c ∷ cells) ≡ generic_weight c + generics cells = sum_by-cons generic_weight c cells in
    omega (arith, r, h, whole)

-- ---- the cell of an instance

pub variable_for : (t : TypeTree) (a : List ℕ) → type_subst ((t, a) ∷ []) (TyVar a) ≡ t
variable_for t a = rw ((bytes_eq-Decides a a).1 refl) refl

pub builds_variable : (g : Graph) (ty : TypeTree) (a : List ℕ) → TyVar a ≡ ty → IsWellFormed g → BuildsInstance g g Unknown (Generic ty)
builds_variable g ty a e w = record {
  well_formed = w;
  extra = [];
  cells_are = sym (append-nil g.cells.items);
  pending_are = refl;
  names_are = refl;
  cell_in = λ i. tt;
  smaller = (let none = weights_none [] (All-nil IsExpandedCell) in let one : type_size ty ≡ 1 = ap type_size (sym e) in omega (arith, none, one));
  sound = λ type_of types s. (s, λ t holds. subst (λ (u : TypeTree). IsGenericInstance u t) e ((t, a) ∷ [], sym (variable_for t a)));
  complete = λ type_of types t s instance. (types, agree_refl (slots g) types, s, tt);
}

pub builds_constructed : (g g1 h : Graph) (c : List ℕ) (args : List TypeTree) (names : List (List ℕ)) (base : ℕ) (parts : List ℕ) (cell : Cell) → IsWellFormed g →
    ((a : List ℕ) → is_among (type_names (TyApp c (type_list args))) a ≡ true → is_among names a ≡ true) → base ≡ slots g → AddsUnknown g g1 (length names) → BuildsTypes g1 h names base parts args →
    ((types : ℕ → TypeTree) (t : TypeTree) → CellHolds types t cell ↔ (t ≡ TyApp c (type_list (map types parts)))) → ((i : ℕ) → IsCellIn (slots h) i cell) → IsExpandedCell cell →
    BuildsInstance g h cell (Generic (TyApp c (type_list args)))
builds_constructed g g1 h c args names base parts cell w covers base_is adds builds is in' plain = record {
  well_formed = builds.well_formed;
  extra = (grows_trans g g1 h adds.grows builds.grows).extra;
  cells_are = (grows_trans g g1 h adds.grows builds.grows).cells_are;
  pending_are = (grows_trans g g1 h adds.grows builds.grows).pending_are;
  names_are = builds.names_are ∙ adds.names_are;
  cell_in = in';
  smaller =
      let none = weights_none (grows_trans g g1 h adds.grows builds.grows).extra (grows_trans g g1 h adds.grows builds.grows).expanded in
      let zero' = expanded_counts cell plain in
      omega (arith, none, zero');
  sound = λ type_of types s.
      let q = builds.sound type_of types s in
      let σ = pairs_from types base names in
      ((adds.solves type_of types).0 q.0, λ t holds. (σ, (is types t).0 holds ∙ app_ap c (map types parts) (map (type_subst σ) args) q.1 ∙ ap (TyApp c) (subst_list σ args)));
  complete = λ type_of types t s (pairs, t_is).
      let n1 = adds.slots_are in
      let at = λ (k : ℕ). type_for pairs (get_or names k []) in
      let types1 = put_from types (slots g) at in
      let agree1 : Agree (slots g) types types1 = put_from_agree types (slots g) at in
      let s1 : Solves g1 type_of types1 = (adds.solves type_of types1).1 (solves_agree g type_of types types1 w agree1 s) in
      let x = builds.complete type_of types1 s1 in
      let agree2 : Agree (slots g) types x.0 = agree_trans (slots g) (slots g1) types types1 x.0 (omega (arith, n1)) agree1 x.1 in
      let each : (k : ℕ) → k < length names → x.0 (base + k) ≡ type_for pairs (get_or names k []) =
      λ k lt. sym (x.1.agree (base + k) (omega (arith, n1, base_is))) ∙ ap (λ (b : ℕ). types1 (b + k)) base_is ∙ put_from_at types (slots g) at k in
      let σ = pairs_from x.0 base names in
      let same : type_subst σ (TyApp c (type_list args)) ≡ type_subst pairs (TyApp c (type_list args)) =
      subst_same σ pairs (TyApp c (type_list args)) (λ a m. named_types pairs x.0 base names a each (covers a m)) in
      let t_parts : t ≡ TyApp c (type_list (map x.0 parts)) =
      t_is ∙ sym same ∙ sym (ap (TyApp c) (subst_list σ args)) ∙ sym (app_ap c (map x.0 parts) (map (type_subst σ) args) (builds.sound type_of x.0 x.2).1) in
      (x.0, agree2, x.2, (is x.0 t).1 t_parts);
}

pub builds_same : (g h : Graph) (cell : Cell) (s t : TypeTree) → s ≡ t → BuildsInstance g h cell (Generic s) → BuildsInstance g h cell (Generic t)
builds_same g h cell s t e b = subst (λ (u : TypeTree). BuildsInstance g h cell (Generic u)) e b

-- ---- a slot whose generic type's parts get slots

pub slots_opened : (g g0 : Graph) (slot : ℕ) → g0.cells.items ≡ set g.cells.items slot Unknown → slots g0 ≡ slots g
slots_opened g g0 slot cells0 = ap length cells0 ∙ length-set g.cells.items slot Unknown

-- the slot without its cell
pub opened : (g g0 : Graph) (slot : ℕ) → IsWellFormed g → slot < slots g → g0.cells.items ≡ set g.cells.items slot Unknown → g0.pending.items ≡ g.pending.items → g0.names.items ≡ g.names.items → IsWellFormed g0
opened g g0 slot w slot_in cells0 pending0 names0 =
    let len = slots_opened g g0 slot cells0 in
    record {
      cells_in = subst (λ (xs : List Cell). IsGraph xs) (sym cells0) (is_graph_set g.cells.items slot Unknown slot_in w.cells_in tt);
      pending_in = rw pending0 (λ k d lt. (let p = w.pending_in k d lt in (omega (arith, p.0, len), omega (arith, p.1, len))));
      names_in = λ a s e. (let l = w.names_in a s (rw names0 at e) in omega (arith, l, len));
    }

module _ (g g0 g1 h : Graph) (slot : ℕ) (old cell : Cell) (w : IsWellFormed g) (slot_in : slot < slots g) (generic : cell_at g.cells.items slot ≡ old)
    (cells0 : g0.cells.items ≡ set g.cells.items slot Unknown) (pending0 : g0.pending.items ≡ g.pending.items) (names0 : g0.names.items ≡ g.names.items)
    (builds : BuildsInstance g0 g1 cell old)
    (cells1 : h.cells.items ≡ set g1.cells.items slot cell) (pending1 : h.pending.items ≡ g1.pending.items) (names1 : h.names.items ≡ g1.names.items) where
  slots0 : slots g0 ≡ slots g
  slots0 = slots_opened g g0 slot cells0

  slots1 : slots h ≡ slots g1
  slots1 = ap length cells1 ∙ length-set g1.cells.items slot cell

  grown : slots g1 ≡ slots g + length builds.extra
  grown = ap length builds.cells_are ∙ length-append g0.cells.items builds.extra ∙ ap (λ (n : ℕ). n + length builds.extra) slots0

  in1 : slot < slots g1
  in1 = omega (arith, grown, slot_in)

  middle : cell_at g1.cells.items slot ≡ Unknown
  middle = ap (λ (xs : List Cell). cell_at xs slot) builds.cells_are ∙ old_at g0.cells.items builds.extra slot (omega (arith, slots0, slot_in))
      ∙ ap (λ (xs : List Cell). cell_at xs slot) cells0 ∙ written g.cells.items slot Unknown slot_in

  formed : IsWellFormed h
  formed = record {
    cells_in = subst (λ (xs : List Cell). IsGraph xs) (sym cells1) (is_graph_set g1.cells.items slot cell in1 builds.well_formed.cells_in (builds.cell_in slot));
    pending_in = rw pending1 (λ k d lt. (let p = builds.well_formed.pending_in k d lt in (omega (arith, p.0, slots1), omega (arith, p.1, slots1))));
    names_in = λ a s e. (let l = builds.well_formed.names_in a s (rw names1 at e) in omega (arith, l, slots1));
  }

  sound_of : (type_of : List ℕ → TypeTree) (types : ℕ → TypeTree) → Solves h type_of types → Solves g type_of types
  sound_of type_of types s =
      let r : Respects (set g1.cells.items slot cell) types = subst (λ (xs : List Cell). Respects xs types) cells1 s.solution.respects in
      let r1 : Respects g1.cells.items types = respects_unset g1.cells.items slot cell types r (rw middle tt) in
      let s1 : Solves g1 type_of types = record {
        solution = record { respects = r1; equations = rw pending1 at s.solution.equations };
        names = λ a k e. s.names a k (rw names1 e);
      } in
      let x = builds.sound type_of types s1 in
      let instance : CellHolds types (types slot) old = x.1 (types slot) (holds_set g1.cells.items slot cell types in1 r) in
      let r0 : Respects (set g.cells.items slot Unknown) types = subst (λ (xs : List Cell). Respects xs types) cells0 x.0.solution.respects in
      record {
        solution = record { respects = respects_unset g.cells.items slot Unknown types r0 (rw generic instance); equations = rw pending0 at x.0.solution.equations };
        names = λ a k e. x.0.names a k (rw names0 e);
      }

  complete_of : (type_of : List ℕ → TypeTree) (types : ℕ → TypeTree) → Solves g type_of types → (types' : ℕ → TypeTree) × Agree (slots g) types types' × Solves h type_of types'
  complete_of type_of types s =
      let r0 : Respects (set g.cells.items slot Unknown) types = respects_set g.cells.items slot Unknown types slot_in s.solution.respects tt in
      let s0 : Solves g0 type_of types = record {
        solution = record { respects = subst (λ (xs : List Cell). Respects xs types) (sym cells0) r0; equations = rw pending0 s.solution.equations };
        names = λ a k e. s.names a k (rw names0 at e);
      } in
      let instance : CellHolds types (types slot) old = rw generic at (s.solution.respects.cell slot) in
      let x = builds.complete type_of types (types slot) s0 instance in
      let agree : Agree (slots g) types x.0 = record { agree = λ i lt. x.1.agree i (omega (arith, lt, slots0)) } in
      let holds : CellHolds x.0 (x.0 slot) cell = subst (λ (u : TypeTree). CellHolds x.0 u cell) (agree.agree slot slot_in) x.3 in
      let r1 : Respects (set g1.cells.items slot cell) x.0 = respects_set g1.cells.items slot cell x.0 in1 x.2.solution.respects holds in (
        x.0,
        agree,
        record {
          solution = record { respects = subst (λ (xs : List Cell). Respects xs x.0) (sym cells1) r1; equations = rw pending1 x.2.solution.equations };
          names = λ a k e. x.2.names a k (rw names1 at e);
        },
      )

  pub expands_of : Expands g h slot
  expands_of = record {
    refines = record { well_formed = formed; more = omega (arith, slots1, grown); sound = sound_of; complete = complete_of };
    fewer = λ at.
        let a = sum_by-set generic_weight g1.cells.items slot cell Unknown in1 in
        let b : generics h.cells.items ≡ generics (set g1.cells.items slot cell) = ap generics cells1 in
        let d : generics g1.cells.items ≡ generics g0.cells.items + generics builds.extra = ap generics builds.cells_are ∙ sum_by-append generic_weight g0.cells.items builds.extra in
        let e = builds.smaller in
        let f : generics g0.cells.items ≡ generics (set g.cells.items slot Unknown) = ap generics cells0 in
        let k = sum_by-set generic_weight g.cells.items slot Unknown Unknown slot_in in
        let l : generic_weight (cell_at g.cells.items slot) ≡ generic_weight old = ap generic_weight generic in
        omega (arith, a, b, d, e, f, k, l);
  }
