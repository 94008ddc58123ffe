-- Numbers for the type variables of generic types whose parts have no slots.
use Rattle.std.proofs.Common.{◌≡◌, ℕ, ◌+◌, ◌*◌, ◌/◌, ◌%◌, ◌<◌, ◌≤◌, inl, inr, List, [], ◌∷◌, ◌++◌, length, get_or, take, drop, refl, sym, ◌∙◌, ap, arith, cond, Bool, true, false, bytes_eq, Some}
use Rattle.std.specs.Prelude.{unwrap_or}
use Rattle.std.specs.declared.cmp.Ordering.{Ordering}
use Rattle.std.specs.declared.cmp.Ordering.TheVariants.{Less, Equal, Greater}
use Rattle.std.proofs.lemmas.Bool.{cases_lt}
use Rattle.std.proofs.lemmas.List.{get_or_past, take_more, length-take-le, append_assoc}
use Rattle.std.proofs.lemmas.Nat.{div-mul-add, mod-mul-add}
use Rattle.std.proofs.lemmas.Slice.Eq.{bytes_eq-Decides}
use Rattle.std.proofs.Math.Nat.{mul-le-mul_right}
use Rattle.hol_types.specs.Tree.{TypeTree, TypeList, TyVar, TyApp, no_types, more_types, type_list, type_size, types_size}
use Rattle.hol_types.specs.Order.{name_cmp}
use Rattle.hol_types.specs.Names.{is_among, type_names, types_names, placed_name, insert_name, insert_names, tyvars}
use Rattle.hol_types.specs.Subst.{type_subst, types_subst, type_lookup, type_for}
use Rattle.hol_types.proofs.Names.{tyvars_among}
use Rattle.hol_types.proofs.Steps.{next_of}
use Rattle.hol_typing.specs.Shape.{fill, fills, shape_size, shapes_size, shape_holes, shapes_holes, place_among, instance_shape, instance_shapes}
use Rattle.hol_typing.specs.Holes.{add_holes}
use Rattle.hol_typing.specs.declared.cell.Cell.{Cell}
use Rattle.hol_typing.specs.declared.cell.Cell.TheVariants.{Unknown, Link, Rigid, App, Generic, Part}
use Rattle.hol_typing.specs.declared.numbering.Numbering.{Numbering}
use Rattle.hol_typing.specs.Graph.{pairs_from, bound_names, CellHolds, cell_at, Respects, IsGraph, IsCellIn}
use Rattle.hol_typing.specs.Generate.{Agree}
use Rattle.hol_typing.specs.Numbering.{base_at, limit_of, IsCounted, IsNumbering, IsNumberedAt, IsNumbered}
use Rattle.hol_typing.specs.Found.{HasRigidNames, HaveRigidNames, AreHolesBelow, AllHolesBelow}
use Rattle.hol_typing.proofs.Growing.{respects_agree, pairs_agree}
use Rattle.hol_typing.proofs.Holes.{add_holes_append}
use Rattle.hol_typing.proofs.Instances.{turned, among_front, among_back, put_from, put_from_agree, put_from_at, named_types, subst_same}

-- ---- how many names a type has

names_placed : (a : List ℕ) (names : List (List ℕ)) → length (insert_name a names) ≤ length names + 1
names_placed a [] = omega arith
names_placed a (b ∷ after) = by (name_cmp a b) (names_placed a after)
  where
    by : (r : Ordering) → length (insert_name a after) ≤ length after + 1 → length (placed_name r a b after (insert_name a after)) ≤ length (b ∷ after) + 1
    by Less h = omega arith
    by Equal h = omega arith
    by Greater h = omega (arith, h)

names_inserted : (names more : List (List ℕ)) → length (insert_names names more) ≤ length names + length more
names_inserted names [] = omega arith
names_inserted names (a ∷ more) =
    let p = names_placed a names in
    let r = names_inserted (insert_name a names) more in
    omega (arith, p, r)

length_both : (xs ys : List (List ℕ)) → length (xs ++ ys) ≤ length xs + length ys
length_both [] ys = omega arith
length_both (x ∷ xs) ys = let r = length_both xs ys in omega (arith, r)

mutual
  names_size : (ty : TypeTree) → length (type_names ty) ≤ type_size ty
  names_size (TyVar a) = omega arith
  names_size (TyApp c ts) = let r = all_names_size ts in omega (arith, r)

  all_names_size : (ts : TypeList) → length (types_names ts) ≤ types_size ts
  all_names_size no_types = omega arith
  all_names_size (more_types t ts) =
      let p = names_size t in
      let r = all_names_size ts in
      let l = length_both (type_names t) (types_names ts) in
      omega (arith, p, r, l)

pub few_names : (ty : TypeTree) → length (tyvars ty) ≤ type_size ty
few_names ty =
    let p = names_inserted [] (type_names ty) in
    let r = names_size ty in
    omega (arith, p, r)

-- ---- rows

row_step : (slots slot row : ℕ) → slot < slots → slot * row + row ≤ slots * row
row_step slots slot row lt =
    let h : slot + 1 ≤ slots = omega (arith, lt) in
    let e : (slot + 1) * row ≤ slots * row = mul-le-mul_right row h in
    omega (arith, e)

pub row_fits : (numbering : Numbering) (slot : ℕ) → slot < numbering.slots → numbering.slots + slot * numbering.row ≤ limit_of numbering
row_fits numbering slot lt = let e = row_step numbering.slots slot numbering.row lt in omega (arith, e)

pub instance_fits : (numbering : Numbering) (slot n : ℕ) → slot < numbering.slots → n ≤ numbering.row → base_at numbering slot + n ≤ limit_of numbering
instance_fits numbering slot n lt le = let e = row_step numbering.slots slot numbering.row lt in omega (arith, e, le)

-- ---- the shape of an instance

mutual
  pub instance_size : (base : ℕ) (names : List (List ℕ)) (ty : TypeTree) → shape_size (instance_shape base names ty) ≡ type_size ty
  instance_size base names (TyVar a) = refl
  instance_size base names (TyApp c ts) = ap (λ (n : ℕ). 1 + n) (instances_size base names ts)

  instances_size : (base : ℕ) (names : List (List ℕ)) (ts : TypeList) → shapes_size (instance_shapes base names ts) ≡ types_size ts
  instances_size base names no_types = refl
  instances_size base names (more_types t ts) =
      let p = instance_size base names t in
      let r = instances_size base names ts in
      omega (arith, p, r)

pub place_most : (names : List (List ℕ)) (a : List ℕ) → place_among names a ≤ length names
place_most [] a = omega arith
place_most (b ∷ names) a = by (bytes_eq b a) (place_most names a)
  where
    by : (t : Bool) → place_among names a ≤ length names → cond t 0 (1 + place_among names a) ≤ length (b ∷ names)
    by true r = omega arith
    by false r = omega (arith, r)

pub among_after : (a b : List ℕ) (names : List (List ℕ)) → bytes_eq b a ≡ false → is_among (b ∷ names) a ≡ true → is_among names a ≡ true
among_after a b names e h = let g : bytes_eq a b ≡ false = turned a b e in rw g at h

pub place_below : (names : List (List ℕ)) (a : List ℕ) → is_among names a ≡ true → place_among names a < length names
place_below [] a h = absurd (cc)
place_below (b ∷ names) a h = by (bytes_eq b a) refl (place_below names a)
  where
    by : (t : Bool) → bytes_eq b a ≡ t → (is_among names a ≡ true → place_among names a < length names) → cond t 0 (1 + place_among names a) < length (b ∷ names)
    by true e r = omega arith
    by false e r = let l = r (among_after a b names e h) in omega (arith, l)

pub place_for : (at : ℕ → TypeTree) (base : ℕ) (names : List (List ℕ)) (a : List ℕ) → is_among names a ≡ true → at (base + place_among names a) ≡ type_for (pairs_from at base names) a
place_for at base [] a h = absurd (cc)
place_for at base (b ∷ names) a h = by (bytes_eq b a) refl (place_for at (base + 1) names a)
  where
    by : (t : Bool) → bytes_eq b a ≡ t → (is_among names a ≡ true → at (base + 1 + place_among names a) ≡ type_for (pairs_from at (base + 1) names) a) →
        at (base + place_among (b ∷ names) a) ≡ type_for (pairs_from at base (b ∷ names)) a
    by true e r = rw e (ap at (omega arith))
    by false e r = rw e (ap at (omega arith) ∙ r (among_after a b names e h))

-- each variable of the type is one of the names
abbrev pub Covers : List (List ℕ) → List (List ℕ) → Type 0
Covers names some = (a : List ℕ) → is_among some a ≡ true → is_among names a ≡ true

pub covers_all : (ty : TypeTree) → Covers (tyvars ty) (type_names ty)
covers_all ty a h = tyvars_among ty a ∙ h

pub covers_front : (names xs ys : List (List ℕ)) → Covers names (xs ++ ys) → Covers names xs
covers_front names xs ys h a e = h a (among_front a xs ys e)

pub covers_back : (names xs ys : List (List ℕ)) → Covers names (xs ++ ys) → Covers names ys
covers_back names xs ys h a e = h a (among_back a xs ys e)

pub covers_self : (names : List (List ℕ)) (a : List ℕ) → Covers names (a ∷ []) → is_among names a ≡ true
covers_self names a h = h a (rw ((bytes_eq-Decides a a).1 refl) refl)

mutual
  instance_fill : (at : ℕ → TypeTree) (base : ℕ) (names : List (List ℕ)) (ty : TypeTree) → Covers names (type_names ty) → fill at (instance_shape base names ty) ≡ type_subst (pairs_from at base names) ty
  instance_fill at base names (TyVar a) h = place_for at base names a (covers_self names a h)
  instance_fill at base names (TyApp c ts) h = ap (TyApp c) (instances_fill at base names ts h)

  instances_fill : (at : ℕ → TypeTree) (base : ℕ) (names : List (List ℕ)) (ts : TypeList) → Covers names (types_names ts) → fills at (instance_shapes base names ts) ≡ types_subst (pairs_from at base names) ts
  instances_fill at base names no_types h = refl
  instances_fill at base names (more_types t ts) h =
      λ i. more_types (instance_fill at base names t (covers_front names (type_names t) (types_names ts) h) i) (instances_fill at base names ts (covers_back names (type_names t) (types_names ts) h) i)

-- an instance of a generic type
pub filled : (at : ℕ → TypeTree) (base : ℕ) (ty : TypeTree) → fill at (instance_shape base (tyvars ty) ty) ≡ type_subst (pairs_from at base (tyvars ty)) ty
filled at base ty = instance_fill at base (tyvars ty) ty (covers_all ty)

mutual
  pub instance_rigid : (base : ℕ) (names : List (List ℕ)) (ty : TypeTree) → HasRigidNames (instance_shape base names ty)
  instance_rigid base names (TyVar a) = tt
  instance_rigid base names (TyApp c ts) = instances_rigid base names ts

  instances_rigid : (base : ℕ) (names : List (List ℕ)) (ts : TypeList) → HaveRigidNames (instance_shapes base names ts)
  instances_rigid base names no_types = tt
  instances_rigid base names (more_types t ts) = (instance_rigid base names t, instances_rigid base names ts)

mutual
  holes_below : (limit base : ℕ) (names : List (List ℕ)) (ty : TypeTree) → base + length names ≤ limit → Covers names (type_names ty) → AreHolesBelow limit (instance_shape base names ty)
  holes_below limit base names (TyVar a) le h = let l = place_below names a (covers_self names a h) in omega (arith, le, l)
  holes_below limit base names (TyApp c ts) le h = all_below limit base names ts le h

  all_below : (limit base : ℕ) (names : List (List ℕ)) (ts : TypeList) → base + length names ≤ limit → Covers names (types_names ts) → AllHolesBelow limit (instance_shapes base names ts)
  all_below limit base names no_types le h = tt
  all_below limit base names (more_types t ts) le h =
      (holes_below limit base names t le (covers_front names (type_names t) (types_names ts) h), all_below limit base names ts le (covers_back names (type_names t) (types_names ts) h))

pub instance_below : (limit base : ℕ) (ty : TypeTree) → base + length (tyvars ty) ≤ limit → AreHolesBelow limit (instance_shape base (tyvars ty) ty)
instance_below limit base ty le = holes_below limit base (tyvars ty) ty le (covers_all ty)

-- ---- loops over parts and names

pub add_type_step : (order : List ℕ) (base : ℕ) (names : List (List ℕ)) (ts : List TypeTree) (i : ℕ) (t : TypeTree) → i < length ts → t ≡ get_or ts i t →
    add_holes order (shapes_holes (instance_shapes base names (type_list (drop i ts)))) ≡ add_holes (add_holes order (shape_holes (instance_shape base names t))) (shapes_holes (instance_shapes base names (type_list (drop (i + 1) ts))))
add_type_step order base names ts i t h e = rw (next_of ts i t h e) (add_holes_append order (shape_holes (instance_shape base names t)) (shapes_holes (instance_shapes base names (type_list (drop (i + 1) ts)))))

pairs_last : (at : ℕ → TypeTree) (base : ℕ) (names : List (List ℕ)) (a : List ℕ) → pairs_from at base (names ++ a ∷ []) ≡ pairs_from at base names ++ (at (base + length names), a) ∷ []
pairs_last at base [] a = ap (λ (n : ℕ). (at n, a) ∷ []) (omega arith)
pairs_last at base (b ∷ names) a =
    ap (λ (ps : List (TypeTree × List ℕ)). (at base, b) ∷ ps) (pairs_last at (base + 1) names a ∙ ap (λ (n : ℕ). pairs_from at (base + 1) names ++ (at n, a) ∷ []) (omega arith))

appended : (pairs ps : List (TypeTree × List ℕ)) (t u : TypeTree) (a b : List ℕ) → pairs ≡ ps → t ≡ u → b ≡ a → pairs ++ (t, b) ∷ [] ≡ ps ++ (u, a) ∷ []
appended pairs ps t u a b p q r = λ i. p i ++ (q i, r i) ∷ []

-- one turn of the loop over the names
pub pairs_next : (at : ℕ → TypeTree) (base : ℕ) (names : List (List ℕ)) (first pairs after : List (TypeTree × List ℕ)) (i : ℕ) (t : TypeTree) (a b : List ℕ) → i < length names → get_or names i [] ≡ a →
    pairs ≡ first ++ pairs_from at base (take i names) → t ≡ at (base + i) → b ≡ a → after ≡ pairs ++ (t, b) ∷ [] → after ≡ first ++ pairs_from at base (take (i + 1) names)
pairs_next at base names first pairs after i t a b lt e p q r s =
    let more : take (i + 1) names ≡ take i names ++ a ∷ [] = take_more names i [] lt ∙ ap (λ (x : List ℕ). take i names ++ x ∷ []) e in
    let len : length (take i names) ≡ i = length-take-le i names (omega (arith, lt)) in
    let whole : pairs_from at base (take (i + 1) names) ≡ pairs_from at base (take i names) ++ (at (base + i), a) ∷ [] =
    ap (pairs_from at base) more ∙ pairs_last at base (take i names) a ∙ ap (λ (n : ℕ). pairs_from at base (take i names) ++ (at (base + n), a) ∷ []) len in
    s ∙ appended pairs (first ++ pairs_from at base (take i names)) t (at (base + i)) a b p q r ∙ append_assoc first (pairs_from at base (take i names)) ((at (base + i), a) ∷ []) ∙ sym (ap (λ (ps : List (TypeTree × List ℕ)). first ++ ps) whole)

-- ---- types for the numbers

-- pairs that put the same do so after others
before_same : (env σ τ : List (TypeTree × List ℕ)) (a : List ℕ) → type_for σ a ≡ type_for τ a → type_for (env ++ σ) a ≡ type_for (env ++ τ) a
before_same [] σ τ a h = h
before_same (p ∷ env) σ τ a h = by (bytes_eq p.1 a) (before_same env σ τ a h)
  where
    by : (t : Bool) → type_for (env ++ σ) a ≡ type_for (env ++ τ) a → unwrap_or (cond t (Some p.0) (type_lookup (env ++ σ) a)) (TyVar a) ≡ unwrap_or (cond t (Some p.0) (type_lookup (env ++ τ) a)) (TyVar a)
    by true r = refl
    by false r = r

-- the type of a variable of a slot of type t
abbrev variable_type : (types : ℕ → TypeTree) (t : TypeTree) (cell : Cell) → CellHolds types t cell → ℕ → TypeTree
variable_type types t Unknown h k = t
variable_type types t (Link j) h k = t
variable_type types t (Rigid a) h k = t
variable_type types t (App c parts) h k = t
variable_type types t (Generic ty) (pairs, e) k = type_for pairs (get_or (tyvars ty) k [])
variable_type types t (Part part) (pairs, e) k = type_for pairs (get_or (tyvars part.ty) k [])

-- where the slots of some names stand before
env_same : (types types' : ℕ → TypeTree) (n base : ℕ) (names : List (List ℕ)) (σ τ : List (TypeTree × List ℕ)) (ty : TypeTree) → Agree n types types' → base + length names ≤ n →
    ((a : List ℕ) → is_among (type_names ty) a ≡ true → type_for σ a ≡ type_for τ a) → type_subst (pairs_from types base names ++ σ) ty ≡ type_subst (pairs_from types' base names ++ τ) ty
env_same types types' n base names σ τ ty agree le h =
    ap (λ (env : List (TypeTree × List ℕ)). type_subst (env ++ σ) ty) (pairs_agree n base names types types' agree le)
    ∙ subst_same (pairs_from types' base names ++ σ) (pairs_from types' base names ++ τ) ty (λ a m. before_same (pairs_from types' base names) σ τ a (h a m))

numbered_cell : (types types' : ℕ → TypeTree) (n row base : ℕ) (i : ℕ) (t t' : TypeTree) (cell : Cell) (holds : CellHolds types t cell) → Agree n types types' → IsCellIn n i cell → t ≡ t' → IsCounted row cell →
    ((k : ℕ) → k < row → types' (base + k) ≡ variable_type types t cell holds k) → IsNumberedAt types' base t' cell
numbered_cell types types' n row base i t t' Unknown holds agree in' same counted h = tt
numbered_cell types types' n row base i t t' (Link j) holds agree in' same counted h = tt
numbered_cell types types' n row base i t t' (Rigid a) holds agree in' same counted h = tt
numbered_cell types types' n row base i t t' (App c parts) holds agree in' same counted h = tt
numbered_cell types types' n row base i t t' (Part part) (pairs, e) agree in' same counted h =
    sym same ∙ e
    ∙ env_same types types' n part.base (bound_names part) pairs (pairs_from types' base (tyvars part.ty)) part.ty agree in'.row_in
    (λ a m. sym (named_types pairs types' base (tyvars part.ty) a (λ k lt. h k (omega (arith, lt, counted))) (covers_all part.ty a m)))
numbered_cell types types' n row base i t t' (Generic ty) (pairs, e) agree in' same counted h =
    sym same ∙ e
    ∙ sym (subst_same (pairs_from types' base (tyvars ty)) pairs ty
    (λ a m. named_types pairs types' base (tyvars ty) a (λ k lt. h k (omega (arith, lt, counted))) (covers_all ty a m)))

-- types for the numbers, where the slots have types
pub numbered : (cells : List Cell) (numbering : Numbering) (types : ℕ → TypeTree) → IsGraph cells → IsNumbering cells numbering → Respects cells types →
    (types' : ℕ → TypeTree) × Agree (length cells) types types' × Respects cells types' × IsNumbered cells numbering types'
numbered cells numbering types graph is r =
    let n = length cells in
    let row = numbering.row in
    let at : ℕ → TypeTree = λ k. variable_type types (types (k / row)) (cell_at cells (k / row)) (r.cell (k / row)) (k % row) in
    let types' = put_from types n at in
    let agree : Agree n types types' = put_from_agree types n at in
    let in_row : (i k : ℕ) → k < row → types' (base_at numbering i + k) ≡ variable_type types (types i) (cell_at cells i) (r.cell i) k =
    λ i k lt.
    let e : base_at numbering i + k ≡ n + (i * row + k) = (let s = is.slots_are in omega (arith, s)) in
    let f : (i * row + k) / row ≡ i = div-mul-add i row k lt in
    let g : (i * row + k) % row ≡ k = mod-mul-add i row k lt in
    ap types' e ∙ put_from_at types n at (i * row + k)
    ∙ ap (λ (m : ℕ). variable_type types (types ((i * row + k) / row)) (cell_at cells ((i * row + k) / row)) (r.cell ((i * row + k) / row)) m) g
    ∙ ap (λ (j : ℕ). variable_type types (types j) (cell_at cells j) (r.cell j) k) f in (
      types',
      agree,
      respects_agree cells types types' graph agree r,
      record {
        cell = λ i. elim (cases_lt i n) [
          | inl lt ↦ numbered_cell types types' n row (base_at numbering i) i (types i) (types' i) (cell_at cells i) (r.cell i) agree (graph.cell_in i) (agree.agree i lt) (is.counted i) (in_row i)
          | inr ge ↦ rw (get_or_past cells i Unknown ge) tt
        ];
      },
    )
