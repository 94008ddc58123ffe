-- Types for the slots of a graph that grows.
use Rattle.std.proofs.Common.{◌≡◌, ◌≢◌, ℕ, ◌+◌, ◌<◌, ◌≤◌, List, [], ◌∷◌, ◌++◌, length, map, refl, sym, ◌∙◌, ap, subst, arith, cond, eqb, Some, None}
use Rattle.std.specs.Prelude.{◌↔◌}
use Rattle.std.specs.List.{All}
use Rattle.std.proofs.lemmas.Bool.{eq-eqb, ne_eqb}
use Rattle.std.proofs.lemmas.List.Elements.{All-weaker, All-nil, All-push, All-append}
use Rattle.hol_types.specs.Tree.{TypeTree, TyVar, TyApp, type_list}
use Rattle.hol_types.specs.Fun.{fun_type}
use Rattle.hol_types.specs.Subst.{type_subst, type_lookup}
use Rattle.hol_terms.specs.Nameless.{Nameless, free, fixed, app, lam, base_of}
use Rattle.hol_typing.specs.Raw.{RawTree}
use Rattle.hol_typing.specs.Typing.{IsTyping, IsOpen}
use Rattle.hol_typing.specs.SlotTree.{SlotTree, SlotBound, SlotConstant, SlotFree, SlotApply, SlotAbstraction, typed, AreSlotsIn}
use Rattle.hol_typing.specs.declared.cell.Cell.{Cell}
use Rattle.hol_typing.specs.declared.cell.Cell.TheVariants.{Unknown, Link, Rigid, App, Generic, Part}
use Rattle.hol_typing.specs.declared.generate.Graph.{Graph}
use Rattle.hol_typing.specs.Graph.{pairs_from, bound_names, CellHolds, IsExpandedCell}
use Rattle.hol_typing.specs.Generate.{Solves, slots, IsWellFormed, Agree, IsNewCell, IsFresh, IsFunction, BuildsType, BuildsTypes, IsPlace, HasNoPlace, Grows}
use Rattle.hol_typing.proofs.Growing.{solves_agree, map_agree, bound_agree, app_ap}
use Rattle.std.proofs.lemmas.List.{map-append, append-nil, append_assoc}
use Rattle.hol_types.proofs.Steps.{subst_list}

pub agree_trans : (n m : ℕ) (a b c : ℕ → TypeTree) → n ≤ m → Agree n a b → Agree m b c → Agree n a c
agree_trans n m a b c le p q = record { agree = λ i lt. p.agree i lt ∙ q.agree i (omega arith) }

pub agree_refl : (n : ℕ) (a : ℕ → TypeTree) → Agree n a a
agree_refl n a = record { agree = λ i lt. refl }

pub app_same : (u u' v v' : Nameless) → u ≡ u' → v ≡ v' → app u v ≡ app u' v'
app_same u u' v v' p q = cc

pub lam_same : (a : List ℕ) (s s' : TypeTree) (b b' : Nameless) → s ≡ s' → b ≡ b' → lam a s b ≡ lam a s' b'
lam_same a s s' b b' p q = cc

pub term_agree : (n : ℕ) (types types' : ℕ → TypeTree) (term : SlotTree) → Agree n types types' → AreSlotsIn n term → typed types term ≡ typed types' term
term_agree n types types' (SlotBound i) a in' = refl
term_agree n types types' (SlotConstant c s) a in' = ap (fixed c) (a.agree s in')
term_agree n types types' (SlotFree x s) a in' = ap (λ (t : TypeTree). free (x, t)) (a.agree s in')
term_agree n types types' (SlotApply f b) a (p, q) = app_same (typed types f) (typed types' f) (typed types b) (typed types' b) (term_agree n types types' f a p) (term_agree n types types' b a q)
term_agree n types types' (SlotAbstraction x s b) a (p, q) = lam_same (base_of x) (types s) (types' s) (typed types b) (typed types' b) (a.agree s p) (term_agree n types types' b a q)

pub are_slots_in_more : (n m : ℕ) (term : SlotTree) → n ≤ m → AreSlotsIn n term → AreSlotsIn m term
are_slots_in_more n m (SlotBound i) le h = tt
are_slots_in_more n m (SlotConstant c s) le h = omega arith
are_slots_in_more n m (SlotFree x s) le h = omega arith
are_slots_in_more n m (SlotApply f b) le (p, q) = (are_slots_in_more n m f le p, are_slots_in_more n m b le q)
are_slots_in_more n m (SlotAbstraction x s b) le (p, q) = (omega arith, are_slots_in_more n m b le q)

pub env_more : (n m : ℕ) (env : List ℕ) → n ≤ m → All (λ s. s < n) env → All (λ s. s < m) env
env_more n m env le all = All-weaker (λ (s : ℕ). s < n) (λ (s : ℕ). s < m) (λ x h. omega arith) env all

-- the typing of an equal type in equal surroundings
pub typing_at : (type_of : List ℕ → TypeTree) (b b' : List TypeTree) (raw : RawTree) (p : Nameless) (t t' : TypeTree) → b ≡ b' → t ≡ t' → IsTyping type_of b raw p t → IsTyping type_of b' raw p t'
typing_at type_of b b' raw p t t' e f h = subst (λ (u : TypeTree). IsTyping type_of b' raw p u) f (subst (λ (c : List TypeTree). IsTyping type_of c raw p t) e h)

-- types with one more
abbrev pub put : (ℕ → TypeTree) → ℕ → TypeTree → ℕ → TypeTree
put types n t k = cond (eqb k n) t (types k)

pub put_agree : (types : ℕ → TypeTree) (n : ℕ) (t : TypeTree) → Agree n types (put types n t)
put_agree types n t = record { agree = λ i lt. (let ne : i ≢ n = omega arith in rw (ne_eqb i n ne) refl) }

pub put_same : (types : ℕ → TypeTree) (n : ℕ) (t : TypeTree) → put types n t n ≡ t
put_same types n t = rw (eq-eqb n n refl) refl

parts_agree : (n : ℕ) (types types' : ℕ → TypeTree) (c : List ℕ) (parts : List ℕ) (t : TypeTree) → map types parts ≡ map types' parts → t ≡ TyApp c (type_list (map types parts)) → t ≡ TyApp c (type_list (map types' parts))
parts_agree n types types' c parts t e h = h ∙ app_ap c (map types parts) (map types' parts) e

cell_holds_new : (n : ℕ) (types types' : ℕ → TypeTree) (t : TypeTree) (cell : Cell) → Agree n types types' → IsNewCell n cell → CellHolds types t cell → CellHolds types' t cell
cell_holds_new n types types' t Unknown a in' h = tt
cell_holds_new n types types' t (Link j) a in' h = h ∙ a.agree j in'
cell_holds_new n types types' t (Rigid x) a in' h = h
cell_holds_new n types types' t (Generic ty) a in' h = h
cell_holds_new n types types' t (Part part) a in' h = bound_agree n part.base (bound_names part) types types' part.ty t a in'.row_in h
cell_holds_new n types types' t (App c parts) a in' h = parts_agree n types types' c parts.items t (map_agree n types types' parts.items a in') h

-- a solution and a type for the new slot give a solution
pub extend_fresh : (g h : Graph) (slot : ℕ) (cell : Cell) → IsWellFormed g → IsNewCell (slots g) cell → IsFresh g h slot cell →
    (type_of : List ℕ → TypeTree) (types : ℕ → TypeTree) (t : TypeTree) → Solves g type_of types → CellHolds types t cell →
    (types' : ℕ → TypeTree) × Agree (slots g) types types' × Solves h type_of types' × (types' slot ≡ t)
extend_fresh g h slot cell w in' fresh type_of types t s holds =
    let types' = put types (slots g) t in
    let a : Agree (slots g) types types' = put_agree types (slots g) t in
    let same : types' slot ≡ t = ap types' fresh.slot_is ∙ put_same types (slots g) t in
    (types', a, (fresh.solves type_of types').1 (solves_agree g type_of types types' w a s, subst (λ (u : TypeTree). CellHolds types' u cell) (sym same) (cell_holds_new (slots g) types types' t cell a in' holds)), same)

pub fun_same : (s s' t t' : TypeTree) → s ≡ s' → t ≡ t' → fun_type s t ≡ fun_type s' t'
fun_same s s' t t' p q = cc

pub extend_function : (g h : Graph) (slot d r : ℕ) → IsWellFormed g → d < slots g → r < slots g → IsFunction g h slot d r →
    (type_of : List ℕ → TypeTree) (types : ℕ → TypeTree) → Solves g type_of types →
    (types' : ℕ → TypeTree) × Agree (slots g) types types' × Solves h type_of types' × (types' slot ≡ fun_type (types d) (types r))
extend_function g h slot d r w d_in r_in new type_of types s =
    let t = fun_type (types d) (types r) in
    let types' = put types (slots g) t in
    let a : Agree (slots g) types types' = put_agree types (slots g) t in
    let same : types' slot ≡ t = ap types' new.slot_is ∙ put_same types (slots g) t in
    (types', a, (new.solves type_of types').1 (solves_agree g type_of types types' w a s, same ∙ fun_same (types d) (types' d) (types r) (types' r) (a.agree d d_in) (a.agree r r_in)), same)

-- ---- slots more

pub grows_refl : (g : Graph) → Grows g g
grows_refl g = record { extra = []; cells_are = sym (append-nil g.cells.items); expanded = All-nil IsExpandedCell; pending_are = refl }

pub grows_fresh : (g g1 h : Graph) (slot : ℕ) (cell : Cell) → Grows g g1 → IsFresh g1 h slot cell → IsExpandedCell cell → Grows g h
grows_fresh g g1 h slot cell w fresh plain = record {
  extra = w.extra ++ cell ∷ [];
  cells_are = fresh.cells_are ∙ ap (λ (xs : List Cell). xs ++ cell ∷ []) w.cells_are ∙ append_assoc g.cells.items w.extra (cell ∷ []);
  expanded = All-push IsExpandedCell w.extra cell w.expanded plain;
  pending_are = fresh.pending_are ∙ w.pending_are;
}

pub grows_trans : (f g h : Graph) → Grows f g → Grows g h → Grows f h
grows_trans f g h v w = record {
  extra = v.extra ++ w.extra;
  cells_are = w.cells_are ∙ ap (λ (xs : List Cell). xs ++ w.extra) v.cells_are ∙ append_assoc f.cells.items v.extra w.extra;
  expanded = All-append IsExpandedCell v.extra w.extra v.expanded w.expanded;
  pending_are = w.pending_are ∙ v.pending_are;
}

-- ---- the slots of a type

pub lookup_for : (pairs : List (TypeTree × List ℕ)) (a : List ℕ) (t : TypeTree) → type_lookup pairs a ≡ Some t → type_subst pairs (TyVar a) ≡ t
lookup_for pairs a t e = rw e refl

pub lookup_none : (pairs : List (TypeTree × List ℕ)) (a : List ℕ) → type_lookup pairs a ≡ None → type_subst pairs (TyVar a) ≡ TyVar a
lookup_none pairs a e = rw e refl

-- a type variable that is one of the names, and one that is not
pub builds_type_place : (g : Graph) (names : List (List ℕ)) (base i : ℕ) (a : List ℕ) → IsWellFormed g → base + length names ≤ slots g → IsPlace names a i → BuildsType g g names base (base + i) (TyVar a)
builds_type_place g names base i a w base_in p = record {
  well_formed = w;
  more = omega arith;
  slot_in = (let l = p.below in omega (arith, l));
  grows = grows_refl g;
  names_are = refl;
  sound = λ type_of types s. (s, sym (lookup_for (pairs_from types base names) a (types (base + i)) (p.gives types base)));
  complete = λ type_of types s. (types, agree_refl (slots g) types, s);
}

pub builds_type_rigid : (g h : Graph) (names : List (List ℕ)) (base slot : ℕ) (a : List ℕ) → IsWellFormed g → (IsOpen a → ⊥) → HasNoPlace names a → IsFresh g h slot (Rigid a) → BuildsType g h names base slot (TyVar a)
builds_type_rigid g h names base slot a w rigid none fresh = record {
  well_formed = fresh.well_formed;
  more = (let e = fresh.slots_are in omega (arith, e));
  slot_in = (let e = fresh.slots_are in let f = fresh.slot_is in omega (arith, e, f));
  grows = grows_fresh g g h slot (Rigid a) (grows_refl g) fresh tt;
  names_are = fresh.names_are;
  sound = λ type_of types s. (let x = (fresh.solves type_of types).0 s in (x.0, x.1 ∙ sym (lookup_none (pairs_from types base names) a (none.gives types base))));
  complete = λ type_of types s. (let x = extend_fresh g h slot (Rigid a) w rigid fresh type_of types (TyVar a) s refl in (x.0, x.1, x.2));
}

-- no arguments, and one more
pub builds_types_none : (g : Graph) (names : List (List ℕ)) (base : ℕ) → IsWellFormed g → BuildsTypes g g names base [] []
builds_types_none g names base w = record {
  well_formed = w;
  more = omega arith;
  parts_in = All-nil (λ (p : ℕ). p < slots g);
  grows = grows_refl g;
  names_are = refl;
  sound = λ type_of types s. (s, refl);
  complete = λ type_of types s. (types, agree_refl (slots g) types, s);
}

pub append_same : (xs xs' ys ys' : List TypeTree) → xs ≡ xs' → ys ≡ ys' → xs ++ ys ≡ xs' ++ ys'
append_same xs xs' ys ys' p q = cc

pub one_same : (s t : TypeTree) → s ≡ t → s ∷ [] ≡ t ∷ []
one_same s t p = cc

pub builds_types_more : (g g1 h : Graph) (names : List (List ℕ)) (base : ℕ) (parts : List ℕ) (tys : List TypeTree) (slot : ℕ) (ty : TypeTree) → BuildsTypes g g1 names base parts tys → BuildsType g1 h names base slot ty → BuildsTypes g h names base (parts ++ slot ∷ []) (tys ++ ty ∷ [])
builds_types_more g g1 h names base parts tys slot ty b c = record {
  well_formed = c.well_formed;
  more = (let p = b.more in let q = c.more in omega (arith, p, q));
  parts_in = All-push (λ (p : ℕ). p < slots h) parts slot (env_more (slots g1) (slots h) parts c.more b.parts_in) c.slot_in;
  grows = grows_trans g g1 h b.grows c.grows;
  names_are = c.names_are ∙ b.names_are;
  sound = λ type_of types z.
      let x = c.sound type_of types z in
      let y = b.sound type_of types x.0 in (
        y.0,
        map-append types parts (slot ∷ [])
            ∙ append_same (map types parts) (map (type_subst (pairs_from types base names)) tys) (types slot ∷ []) (type_subst (pairs_from types base names) ty ∷ []) y.1
            (one_same (types slot) (type_subst (pairs_from types base names) ty) x.1)
            ∙ sym (map-append (type_subst (pairs_from types base names)) tys (ty ∷ [])),
      );
  complete = λ type_of types z.
      let x = b.complete type_of types z in
      let y = c.complete type_of x.0 x.2 in
      let m = b.more in
      (y.0, agree_trans (slots g) (slots g1) types x.0 y.0 m x.1 y.1, y.2);
}

pub builds_type_app : (g g1 h : Graph) (names : List (List ℕ)) (base slot : ℕ) (c : List ℕ) (cell : Cell) (parts : List ℕ) (tys : List TypeTree) →
    ((types : ℕ → TypeTree) (t : TypeTree) → CellHolds types t cell ↔ (t ≡ TyApp c (type_list (map types parts)))) → IsNewCell (slots g1) cell → IsExpandedCell cell →
    BuildsTypes g g1 names base parts tys → IsFresh g1 h slot cell → BuildsType g h names base slot (TyApp c (type_list tys))
builds_type_app g g1 h names base slot c cell parts tys is new plain b fresh = record {
  well_formed = fresh.well_formed;
  more = (let e = fresh.slots_are in let p = b.more in omega (arith, e, p));
  slot_in = (let e = fresh.slots_are in let f = fresh.slot_is in omega (arith, e, f));
  grows = grows_fresh g g1 h slot cell b.grows fresh plain;
  names_are = fresh.names_are ∙ b.names_are;
  sound = λ type_of types z.
      let x = (fresh.solves type_of types).0 z in
      let y = b.sound type_of types x.0 in (
        y.0,
        (is types (types slot)).0 x.1
            ∙ app_ap c (map types parts) (map (type_subst (pairs_from types base names)) tys) y.1
            ∙ ap (TyApp c) (subst_list (pairs_from types base names) tys),
      );
  complete = λ type_of types z.
      let x = b.complete type_of types z in
      let v = extend_fresh g1 h slot cell b.well_formed new fresh type_of x.0 (TyApp c (type_list (map x.0 parts))) x.2 ((is x.0 (TyApp c (type_list (map x.0 parts)))).1 refl) in
      (v.0, agree_trans (slots g) (slots g1) types x.0 v.0 b.more x.1 v.1, v.2);
}
