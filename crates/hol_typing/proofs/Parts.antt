-- The shapes of parts of instances, in which shapes are put for some variables.
use Rattle.std.proofs.Common.{◌≡◌, ℕ, zero, suc, ◌+◌, ◌<◌, ◌≤◌, List, [], ◌∷◌, ◌++◌, length, get_or, drop, take, refl, sym, ◌∙◌, ap, subst, arith, Bool, true, false, ◌||◌, cond, bytes_eq, min, Option, Some, None}
use Rattle.std.specs.Prelude.{unwrap_or}
use Rattle.std.specs.Global.{Vec}
use Rattle.std.proofs.lemmas.List.{take_more, take_all, drop_all, drop-drop, length-take-le}
use Rattle.std.proofs.lemmas.Slice.Eq.{bytes_eq-Decides}
use Rattle.std.proofs.lemmas.Bool.{or_parts}
use Rattle.hol_types.specs.Tree.{TypeTree, TypeList, TyVar, TyApp, no_types, more_types, type_list, type_size, types_size}
use Rattle.hol_types.specs.Names.{is_among, type_names, types_names, tyvars}
use Rattle.hol_types.specs.Subst.{type_subst, types_subst, type_lookup, type_for}
use Rattle.hol_types.proofs.Filters.{among_append}
use Rattle.hol_types.proofs.Steps.{next_of}
use Rattle.hol_typing.specs.Shape.{ShapeTree, Hole, fill, fills, shape_size, shapes_size, shape_holes, shapes_holes, place_among, part_shape, part_shapes, shape_lookup, AreWithin, AreSingle, fill_pairs}
use Rattle.hol_typing.specs.Graph.{pairs_from, IsApplied}
use Rattle.hol_typing.specs.Linear.{AreDistinct}
use Rattle.hol_typing.specs.Holes.{add_hole, add_holes, AreHolesOf}
use Rattle.hol_typing.specs.Found.{found_at, shape_found, bound_from, AreRowFound, HasRigidNames, HaveRigidNames, AreHolesBelow, AllHolesBelow}
use Rattle.hol_typing.proofs.Instances.{subst_same}
use Rattle.hol_typing.proofs.Holes.{add_holes_append, add_added, holes_of_push}
use Rattle.hol_typing.proofs.Numbers.{Covers, covers_all, covers_front, covers_back, covers_self, place_for, place_below}

-- ---- sizes

single_for : (bound : List (ShapeTree × List ℕ)) (k : ℕ) (a : List ℕ) → AreSingle bound → shape_size (unwrap_or (shape_lookup bound a) (Hole k)) ≡ 1
single_for [] k a h = refl
single_for (p ∷ bound) k a h = by (bytes_eq p.1 a) (single_for bound k a h.1)
  where
    by : (t : Bool) → shape_size (unwrap_or (shape_lookup bound a) (Hole k)) ≡ 1 → shape_size (unwrap_or (cond t (Some p.0) (shape_lookup bound a)) (Hole k)) ≡ 1
    by true r = h.0
    by false r = r

mutual
  -- shapes of one node change no size
  pub single_size : (bound : List (ShapeTree × List ℕ)) (base : ℕ) (names : List (List ℕ)) (ty : TypeTree) → AreSingle bound → shape_size (part_shape bound base names ty) ≡ type_size ty
  single_size bound base names (TyVar a) h = single_for bound (base + place_among names a) a h
  single_size bound base names (TyApp c ts) h = ap (λ (n : ℕ). 1 + n) (single_sizes bound base names ts h)

  single_sizes : (bound : List (ShapeTree × List ℕ)) (base : ℕ) (names : List (List ℕ)) (ts : TypeList) → AreSingle bound → shapes_size (part_shapes bound base names ts) ≡ types_size ts
  single_sizes bound base names no_types h = refl
  single_sizes bound base names (more_types t ts) h =
      let p = single_size bound base names t h in
      let r = single_sizes bound base names ts h in
      omega (arith, p, r)

lookup_size : (bound : List (ShapeTree × List ℕ)) (a : List ℕ) (s t : ShapeTree) → shape_lookup bound a ≡ Some s → shape_size (unwrap_or (shape_lookup bound a) t) ≡ shape_size s
lookup_size bound a s t e = ap (λ (o : Option ShapeTree). shape_size (unwrap_or o t)) e

mutual
  -- what is put for a variable that stands in a type is no larger than the whole
  stands_le : (bound : List (ShapeTree × List ℕ)) (base : ℕ) (names : List (List ℕ)) (ty : TypeTree) (a : List ℕ) (s : ShapeTree) → is_among (type_names ty) a ≡ true → shape_lookup bound a ≡ Some s → shape_size s ≤ shape_size (part_shape bound base names ty)
  stands_le bound base names (TyVar b) a s m e = by (bytes_eq a b) refl m
    where
      by : (t : Bool) → bytes_eq a b ≡ t → (t || false) ≡ true → shape_size s ≤ shape_size (part_shape bound base names (TyVar b))
      by true f n =
          let same : shape_lookup bound b ≡ Some s = subst (λ (x : List ℕ). shape_lookup bound x ≡ Some s) ((bytes_eq-Decides a b).0 f) e in
          let z = lookup_size bound b s (Hole (base + place_among names b)) same in
          omega (arith, z)
      by false f n = absurd (cc)
  stands_le bound base names (TyApp c ts) a s m e = let r = all_stand_le bound base names ts a s m e in omega (arith, r)

  all_stand_le : (bound : List (ShapeTree × List ℕ)) (base : ℕ) (names : List (List ℕ)) (ts : TypeList) (a : List ℕ) (s : ShapeTree) → is_among (types_names ts) a ≡ true → shape_lookup bound a ≡ Some s → shape_size s ≤ shapes_size (part_shapes bound base names ts)
  all_stand_le bound base names no_types a s m e = absurd (cc)
  all_stand_le bound base names (more_types t ts) a s m e =
      by (is_among (type_names t) a) refl (sym (among_append (type_names t) (types_names ts) a) ∙ m)
      (λ h. stands_le bound base names t a s h e) (λ h. all_stand_le bound base names ts a s h e)
    where
      by : (b : Bool) → is_among (type_names t) a ≡ b → (is_among (type_names t) a || is_among (types_names ts) a) ≡ true →
          (is_among (type_names t) a ≡ true → shape_size s ≤ shape_size (part_shape bound base names t)) →
          (is_among (types_names ts) a ≡ true → shape_size s ≤ shapes_size (part_shapes bound base names ts)) →
          shape_size s ≤ shape_size (part_shape bound base names t) + shapes_size (part_shapes bound base names ts)
      by true f n p q = let l = p f in omega (arith, l)
      by false f n p q = let l = q (rw f at n) in omega (arith, l)

-- and smaller, where the type is no variable
stands_lt : (bound : List (ShapeTree × List ℕ)) (base : ℕ) (names : List (List ℕ)) (ty : TypeTree) → IsApplied ty → (a : List ℕ) (s : ShapeTree) → is_among (type_names ty) a ≡ true → shape_lookup bound a ≡ Some s → shape_size s < shape_size (part_shape bound base names ty)
stands_lt bound base names (TyVar b) h a s m e = absurd h
stands_lt bound base names (TyApp c ts) h a s m e = let r = all_stand_le bound base names ts a s m e in omega (arith, r)

-- ---- the shapes that are found for a part's variables

apart_names : (names : List (List ℕ)) (b : List ℕ) (k : ℕ) → is_among names b ≡ false → k < length names → bytes_eq b (get_or names k []) ≡ false
apart_names [] b k h lt = absurd (omega (arith, lt))
apart_names (c ∷ names) b zero h lt = (or_parts (bytes_eq b c) (is_among names b) h).0
apart_names (c ∷ names) b (suc k) h lt = apart_names names b k (or_parts (bytes_eq b c) (is_among names b) h).1 (omega (arith, lt))

at_start : (found : List (Option ShapeTree)) (base : ℕ) → Some (shape_found (found_at found base)) ≡ Some (shape_found (found_at found (base + 0)))
at_start found base = ap (λ (j : ℕ). Some (shape_found (found_at found j))) (omega arith)

-- each name that stands in the type has its slot's shape
lookup_found : (found : List (Option ShapeTree)) (ty : TypeTree) (base : ℕ) (names : List (List ℕ)) (k : ℕ) → AreDistinct names → k < length names → is_among (type_names ty) (get_or names k []) ≡ true →
    shape_lookup (bound_from found ty base names) (get_or names k []) ≡ Some (shape_found (found_at found (base + k)))
lookup_found found ty base [] k d lt m = absurd (omega (arith, lt))
lookup_found found ty base (b ∷ names) zero d lt m =
    rw m (ap (λ (t : Bool). cond t (Some (shape_found (found_at found base))) (shape_lookup (bound_from found ty (base + 1) names) b)) ((bytes_eq-Decides b b).1 refl) ∙ at_start found base)
lookup_found found ty base (b ∷ names) (suc k) d lt m =
    by (is_among (type_names ty) b) (apart_names names b k d.0 (omega (arith, lt))) (lookup_found found ty (base + 1) names k d.1 (omega (arith, lt)) m ∙ ap (λ (j : ℕ). Some (shape_found (found_at found j))) (omega arith))
  where
    by : (t : Bool) → bytes_eq b (get_or names k []) ≡ false → shape_lookup (bound_from found ty (base + 1) names) (get_or names k []) ≡ Some (shape_found (found_at found (base + suc k))) →
        shape_lookup (cond t ((shape_found (found_at found base), b) ∷ bound_from found ty (base + 1) names) (bound_from found ty (base + 1) names)) (get_or names k []) ≡ Some (shape_found (found_at found (base + suc k)))
    by true e r = rw e r
    by false e r = r

within_from : (n : ℕ) (found : List (Option ShapeTree)) (ty : TypeTree) (whole : List (ShapeTree × List ℕ)) →
    ((a : List ℕ) (s : ShapeTree) → is_among (type_names ty) a ≡ true → shape_lookup whole a ≡ Some s → shape_size s < n) → (base : ℕ) (names : List (List ℕ)) →
    ((k : ℕ) → k < length names → is_among (type_names ty) (get_or names k []) ≡ true → shape_lookup whole (get_or names k []) ≡ Some (shape_found (found_at found (base + k)))) → AreWithin n (bound_from found ty base names)
within_from n found ty whole le base [] h = tt
within_from n found ty whole le base (b ∷ names) h =
    by (is_among (type_names ty) b) refl
    (within_from n found ty whole le (base + 1) names (λ k lt m. h (suc k) (omega (arith, lt)) m ∙ ap (λ (j : ℕ). Some (shape_found (found_at found j))) (omega arith)))
  where
    by : (t : Bool) → is_among (type_names ty) b ≡ t → AreWithin n (bound_from found ty (base + 1) names) →
        AreWithin n (cond t ((shape_found (found_at found base), b) ∷ bound_from found ty (base + 1) names) (bound_from found ty (base + 1) names))
    by true m r = (le b (shape_found (found_at found base)) m (h 0 (omega arith) m ∙ sym (at_start found base)), r)
    by false m r = r

pub bound_within : (found : List (Option ShapeTree)) (ty : TypeTree) (base : ℕ) (names : List (List ℕ)) (row : ℕ) (open' : List (List ℕ)) → AreDistinct names → IsApplied ty →
    AreWithin (shape_size (part_shape (bound_from found ty base names) row open' ty)) (bound_from found ty base names)
bound_within found ty base names row open' d applied =
    within_from (shape_size (part_shape (bound_from found ty base names) row open' ty)) found ty (bound_from found ty base names)
    (λ a s m e. stands_lt (bound_from found ty base names) row open' ty applied a s m e) base names (λ k lt m. lookup_found found ty base names k d lt m)

bound_last : (found : List (Option ShapeTree)) (ty : TypeTree) (base : ℕ) (names : List (List ℕ)) (a : List ℕ) →
    bound_from found ty base (names ++ a ∷ []) ≡ bound_from found ty base names ++ cond (is_among (type_names ty) a) ((shape_found (found_at found (base + length names)), a) ∷ []) []
bound_last found ty base [] a = by (is_among (type_names ty) a)
  where
    by : (t : Bool) → cond {A = List (ShapeTree × List ℕ)} t ((shape_found (found_at found base), a) ∷ []) [] ≡ cond t ((shape_found (found_at found (base + 0)), a) ∷ []) []
    by true = ap (λ (j : ℕ). (shape_found (found_at found j), a) ∷ []) (omega arith)
    by false = refl
bound_last found ty base (b ∷ names) a =
    by (is_among (type_names ty) b)
    (bound_last found ty (base + 1) names a ∙ ap (λ (j : ℕ). bound_from found ty (base + 1) names ++ cond (is_among (type_names ty) a) ((shape_found (found_at found j), a) ∷ []) []) (omega arith))
  where
    by : (t : Bool) → bound_from found ty (base + 1) (names ++ a ∷ []) ≡ bound_from found ty (base + 1) names ++ cond (is_among (type_names ty) a) ((shape_found (found_at found (base + length (b ∷ names))), a) ∷ []) [] →
        cond t ((shape_found (found_at found base), b) ∷ bound_from found ty (base + 1) (names ++ a ∷ [])) (bound_from found ty (base + 1) (names ++ a ∷ []))
        ≡ cond t ((shape_found (found_at found base), b) ∷ bound_from found ty (base + 1) names) (bound_from found ty (base + 1) names) ++ cond (is_among (type_names ty) a) ((shape_found (found_at found (base + length (b ∷ names))), a) ∷ []) []
    by true r = ap (λ (ps : List (ShapeTree × List ℕ)). (shape_found (found_at found base), b) ∷ ps) r
    by false r = r

row_last : (found : List (Option ShapeTree)) (ty : TypeTree) (base : ℕ) (names : List (List ℕ)) (a : List ℕ) → AreRowFound found ty base names →
    (is_among (type_names ty) a ≡ true → (s : ShapeTree) × (found_at found (base + length names) ≡ Some s)) → AreRowFound found ty base (names ++ a ∷ [])
row_last found ty base [] a row h = ((λ m. let x = h m in (x.0, ap (found_at found) (omega arith) ∙ x.1)), tt)
row_last found ty base (b ∷ names) a row h = (row.0, row_last found ty (base + 1) names a row.1 (λ m. let x = h m in (x.0, ap (found_at found) (omega arith) ∙ x.1)))

pub read_found : (found : List (Option ShapeTree)) (k : ℕ) (o : Option ShapeTree) → k < length found → o ≡ get_or found k o → found_at found k ≡ o
read_found [] k o lt e = absurd (omega (arith, lt))
read_found (f ∷ found) zero o lt e = sym e
read_found (f ∷ found) (suc k) o lt e = read_found found k o (omega (arith, lt)) e

pub adds_one : (found : List (Option ShapeTree)) (ty : TypeTree) (k : ℕ) (a : List ℕ) (bound after : List (ShapeTree × List ℕ)) (s : ShapeTree) → is_among (type_names ty) a ≡ true → found_at found k ≡ Some s → after ≡ bound ++ (s, a) ∷ [] →
    AreRowFound found ty k (a ∷ []) × (after ≡ bound ++ bound_from found ty k (a ∷ []))
adds_one found ty k a bound after s m some e =
    let same : s ≡ shape_found (found_at found k) = sym (ap shape_found some) in
    (((λ h. (s, some)), tt), e ∙ rw m (ap (λ (u : ShapeTree). bound ++ (u, a) ∷ []) same))

-- one turn of the loop over the names
pub row_step : (found : List (Option ShapeTree)) (ty : TypeTree) (base : ℕ) (names : List (List ℕ)) (i : ℕ) (a : List ℕ) (bound after : List (ShapeTree × List ℕ)) → i < length names → a ≡ get_or names i a →
    AreRowFound found ty (base + i) (a ∷ []) → after ≡ bound ++ bound_from found ty (base + i) (a ∷ []) → AreRowFound found ty base (take i names) → bound ≡ bound_from found ty base (take i names) →
    AreRowFound found ty base (take (i + 1) names) × (after ≡ bound_from found ty base (take (i + 1) names))
row_step found ty base names i a bound after lt e one g row f =
    let n = take i names in
    let len : length n ≡ i = length-take-le i names (omega (arith, lt)) in
    let last = λ (k : ℕ). bound_from found ty base n ++ cond (is_among (type_names ty) a) ((shape_found (found_at found (base + k)), a) ∷ []) [] in
    subst (λ (ns : List (List ℕ)). AreRowFound found ty base ns × (after ≡ bound_from found ty base ns)) (sym (take_more names i a lt ∙ ap (λ (b : List ℕ). n ++ b ∷ []) (sym e))) (
      row_last found ty base n a row (λ m. let x = one.0 m in (x.0, ap (λ (k : ℕ). found_at found (base + k)) len ∙ x.1)),
      g ∙ ap (λ (ps : List (ShapeTree × List ℕ)). ps ++ bound_from found ty (base + i) (a ∷ [])) f ∙ ap last (sym len) ∙ sym (bound_last found ty base n a),
    )

-- where the loop over the names is over
pub row_whole : (found : List (Option ShapeTree)) (ty : TypeTree) (base : ℕ) (names : List (List ℕ)) (i : ℕ) (bound : List (ShapeTree × List ℕ)) → length names ≤ i → AreRowFound found ty base (take i names) → bound ≡ bound_from found ty base (take i names) →
    AreRowFound found ty base names × (bound ≡ bound_from found ty base names)
row_whole found ty base names i bound le row e = subst (λ (ns : List (List ℕ)). AreRowFound found ty base ns × (bound ≡ bound_from found ty base ns)) (take_all i names le) (row, e)

default_same : (names : List (List ℕ)) (k : ℕ) (a b : List ℕ) → k < length names → get_or names k a ≡ get_or names k b
default_same [] k a b lt = absurd (omega (arith, lt))
default_same (c ∷ names) zero a b lt = refl
default_same (c ∷ names) (suc k) a b lt = default_same names k a b (omega (arith, lt))

-- shapes that are found stay
pub row_more : (found after : List (Option ShapeTree)) (ty : TypeTree) → ((i : ℕ) (s : ShapeTree) → found_at found i ≡ Some s → found_at after i ≡ Some s) → (base : ℕ) (names : List (List ℕ)) → AreRowFound found ty base names →
    AreRowFound after ty base names × (bound_from found ty base names ≡ bound_from after ty base names)
row_more found after ty keep base [] row = (tt, refl)
row_more found after ty keep base (b ∷ names) row =
    let r = row_more found after ty keep (base + 1) names row.1 in
    (((λ m. let x = row.0 m in (x.0, keep base x.0 x.1)), r.0), by (is_among (type_names ty) b) refl r.1)
  where
    by : (t : Bool) → is_among (type_names ty) b ≡ t → bound_from found ty (base + 1) names ≡ bound_from after ty (base + 1) names →
        cond t ((shape_found (found_at found base), b) ∷ bound_from found ty (base + 1) names) (bound_from found ty (base + 1) names)
        ≡ cond t ((shape_found (found_at after base), b) ∷ bound_from after ty (base + 1) names) (bound_from after ty (base + 1) names)
    by true m r =
        let x = row.0 m in
        let same : shape_found (found_at found base) ≡ shape_found (found_at after base) = ap shape_found x.1 ∙ sym (ap shape_found (keep base x.0 x.1)) in
        λ i. (same i, b) ∷ r i
    by false m r = r

-- ---- types

var_fill : (at : ℕ → TypeTree) (base : ℕ) (names : List (List ℕ)) (a : List ℕ) → is_among names a ≡ true → (bound : List (ShapeTree × List ℕ)) →
    fill at (unwrap_or (shape_lookup bound a) (Hole (base + place_among names a))) ≡ type_for (fill_pairs at bound ++ pairs_from at base names) a
var_fill at base names a h [] = place_for at base names a h
var_fill at base names a h (p ∷ bound) = by (bytes_eq p.1 a) (var_fill at base names a h bound)
  where
    by : (t : Bool) → fill at (unwrap_or (shape_lookup bound a) (Hole (base + place_among names a))) ≡ type_for (fill_pairs at bound ++ pairs_from at base names) a →
        fill at (unwrap_or (cond t (Some p.0) (shape_lookup bound a)) (Hole (base + place_among names a))) ≡ unwrap_or (cond t (Some (fill at p.0)) (type_lookup (fill_pairs at bound ++ pairs_from at base names) a)) (TyVar a)
    by true r = refl
    by false r = r

mutual
  part_fill : (at : ℕ → TypeTree) (base : ℕ) (names : List (List ℕ)) (bound : List (ShapeTree × List ℕ)) (ty : TypeTree) → Covers names (type_names ty) → fill at (part_shape bound base names ty) ≡ type_subst (fill_pairs at bound ++ pairs_from at base names) ty
  part_fill at base names bound (TyVar a) h = var_fill at base names a (covers_self names a h) bound
  part_fill at base names bound (TyApp c ts) h = ap (TyApp c) (parts_fill at base names bound ts h)

  parts_fill : (at : ℕ → TypeTree) (base : ℕ) (names : List (List ℕ)) (bound : List (ShapeTree × List ℕ)) (ts : TypeList) → Covers names (types_names ts) → fills at (part_shapes bound base names ts) ≡ types_subst (fill_pairs at bound ++ pairs_from at base names) ts
  parts_fill at base names bound no_types h = refl
  parts_fill at base names bound (more_types t ts) h =
      λ i. more_types (part_fill at base names bound t (covers_front names (type_names t) (types_names ts) h) i) (parts_fill at base names bound ts (covers_back names (type_names t) (types_names ts) h) i)

pub part_filled : (at : ℕ → TypeTree) (base : ℕ) (bound : List (ShapeTree × List ℕ)) (ty : TypeTree) → fill at (part_shape bound base (tyvars ty) ty) ≡ type_subst (fill_pairs at bound ++ pairs_from at base (tyvars ty)) ty
part_filled at base bound ty = part_fill at base (tyvars ty) bound ty (covers_all ty)

-- the slots of the names that stand in the type have the types of their shapes
abbrev pub RowHolds : (ℕ → TypeTree) → (ℕ → TypeTree) → List (Option ShapeTree) → TypeTree → ℕ → List (List ℕ) → Type 0
RowHolds types at found ty base [] = Unit {0}
RowHolds types at found ty base (b ∷ names) = (is_among (type_names ty) b ≡ true → types base ≡ fill at (shape_found (found_at found base))) × RowHolds types at found ty (base + 1) names

bound_for : (types at : ℕ → TypeTree) (found : List (Option ShapeTree)) (ty : TypeTree) (rest : List (TypeTree × List ℕ)) (a : List ℕ) → is_among (type_names ty) a ≡ true → (base : ℕ) (names : List (List ℕ)) → RowHolds types at found ty base names →
    type_lookup (fill_pairs at (bound_from found ty base names) ++ rest) a ≡ type_lookup (pairs_from types base names ++ rest) a
bound_for types at found ty rest a m base [] row = refl
bound_for types at found ty rest a m base (b ∷ names) row = by (is_among (type_names ty) b) (bytes_eq b a) refl refl (bound_for types at found ty rest a m (base + 1) names row.1)
  where
    by : (t u : Bool) → is_among (type_names ty) b ≡ t → bytes_eq b a ≡ u → type_lookup (fill_pairs at (bound_from found ty (base + 1) names) ++ rest) a ≡ type_lookup (pairs_from types (base + 1) names ++ rest) a →
        type_lookup (fill_pairs at (cond t ((shape_found (found_at found base), b) ∷ bound_from found ty (base + 1) names) (bound_from found ty (base + 1) names)) ++ rest) a
        ≡ cond (bytes_eq b a) (Some (types base)) (type_lookup (pairs_from types (base + 1) names ++ rest) a)
    by true true s e r = rw e (ap (λ (x : TypeTree). Some x) (sym (row.0 s)))
    by true false s e r = rw e r
    by false true s e r =
        let same : is_among (type_names ty) b ≡ true = subst (λ (x : List ℕ). is_among (type_names ty) x ≡ true) (sym ((bytes_eq-Decides b a).0 e)) m in
        let z : true ≡ false = sym same ∙ s in
        absurd (cc)
    by false false s e r = rw e r

-- the shape of a part gives an instance of it
pub bound_filled : (types at : ℕ → TypeTree) (found : List (Option ShapeTree)) (ty : TypeTree) (base : ℕ) (names : List (List ℕ)) (row : ℕ) → RowHolds types at found ty base names →
    fill at (part_shape (bound_from found ty base names) row (tyvars ty) ty) ≡ type_subst (pairs_from types base names ++ pairs_from at row (tyvars ty)) ty
bound_filled types at found ty base names row holds =
    part_filled at row (bound_from found ty base names) ty
    ∙ subst_same (fill_pairs at (bound_from found ty base names) ++ pairs_from at row (tyvars ty)) (pairs_from types base names ++ pairs_from at row (tyvars ty)) ty
    (λ a m. ap (λ (o : Option TypeTree). unwrap_or o (TyVar a)) (bound_for types at found ty (pairs_from at row (tyvars ty)) a m base names holds))

pub row_holds : (types at : ℕ → TypeTree) (found : List (Option ShapeTree)) (ty : TypeTree) → (base : ℕ) (names : List (List ℕ)) → AreRowFound found ty base names →
    ((i : ℕ) (s : ShapeTree) → base ≤ i → i < base + length names → found_at found i ≡ Some s → types i ≡ fill at s) → RowHolds types at found ty base names
row_holds types at found ty base [] row general = tt
row_holds types at found ty base (b ∷ names) row general =
    ((λ m. let x = row.0 m in general base x.0 (omega arith) (omega arith) x.1 ∙ ap (fill at) (sym (ap shape_found x.1))), row_holds types at found ty (base + 1) names row.1 (λ i s lo hi e. general i s (omega (arith, lo)) (omega (arith, hi)) e))

-- ---- names and open slots

abbrev pub AreShapes : (ShapeTree → Type 0) → List (ShapeTree × List ℕ) → Type 0
AreShapes P [] = Unit {0}
AreShapes P (p ∷ bound) = P p.0 × AreShapes P bound

pub shapes_from : (P : ShapeTree → Type 0) (found : List (Option ShapeTree)) (ty : TypeTree) → ((i : ℕ) (s : ShapeTree) → found_at found i ≡ Some s → P s) → (base : ℕ) (names : List (List ℕ)) → AreRowFound found ty base names → AreShapes P (bound_from found ty base names)
shapes_from P found ty h base [] row = tt
shapes_from P found ty h base (b ∷ names) row = by (is_among (type_names ty) b) refl (shapes_from P found ty h (base + 1) names row.1)
  where
    by : (t : Bool) → is_among (type_names ty) b ≡ t → AreShapes P (bound_from found ty (base + 1) names) →
        AreShapes P (cond t ((shape_found (found_at found base), b) ∷ bound_from found ty (base + 1) names) (bound_from found ty (base + 1) names))
    by true m r = let x = row.0 m in (subst P (sym (ap shape_found x.1)) (h base x.0 x.1), r)
    by false m r = r

shape_for : (P : ShapeTree → Type 0) (bound : List (ShapeTree × List ℕ)) (a : List ℕ) (t : ShapeTree) → AreShapes P bound → P t → P (unwrap_or (shape_lookup bound a) t)
shape_for P [] a t all h = h
shape_for P (p ∷ bound) a t all h = by (bytes_eq p.1 a) (shape_for P bound a t all.1 h)
  where
    by : (b : Bool) → P (unwrap_or (shape_lookup bound a) t) → P (unwrap_or (cond b (Some p.0) (shape_lookup bound a)) t)
    by true r = all.0
    by false r = r

mutual
  pub part_rigid : (bound : List (ShapeTree × List ℕ)) (base : ℕ) (names : List (List ℕ)) (ty : TypeTree) → AreShapes HasRigidNames bound → HasRigidNames (part_shape bound base names ty)
  part_rigid bound base names (TyVar a) all = shape_for HasRigidNames bound a (Hole (base + place_among names a)) all tt
  part_rigid bound base names (TyApp c ts) all = parts_rigid bound base names ts all

  parts_rigid : (bound : List (ShapeTree × List ℕ)) (base : ℕ) (names : List (List ℕ)) (ts : TypeList) → AreShapes HasRigidNames bound → HaveRigidNames (part_shapes bound base names ts)
  parts_rigid bound base names no_types all = tt
  parts_rigid bound base names (more_types t ts) all = (part_rigid bound base names t all, parts_rigid bound base names ts all)

mutual
  part_holes : (limit base : ℕ) (names : List (List ℕ)) (bound : List (ShapeTree × List ℕ)) (ty : TypeTree) → base + length names ≤ limit → AreShapes (AreHolesBelow limit) bound → Covers names (type_names ty) → AreHolesBelow limit (part_shape bound base names ty)
  part_holes limit base names bound (TyVar a) le all h =
      shape_for (AreHolesBelow limit) bound a (Hole (base + place_among names a)) all (let l = place_below names a (covers_self names a h) in omega (arith, le, l))
  part_holes limit base names bound (TyApp c ts) le all h = parts_holes limit base names bound ts le all h

  parts_holes : (limit base : ℕ) (names : List (List ℕ)) (bound : List (ShapeTree × List ℕ)) (ts : TypeList) → base + length names ≤ limit → AreShapes (AreHolesBelow limit) bound → Covers names (types_names ts) → AllHolesBelow limit (part_shapes bound base names ts)
  parts_holes limit base names bound no_types le all h = tt
  parts_holes limit base names bound (more_types t ts) le all h =
      (part_holes limit base names bound t le all (covers_front names (type_names t) (types_names ts) h), parts_holes limit base names bound ts le all (covers_back names (type_names t) (types_names ts) h))

pub part_below : (limit base : ℕ) (bound : List (ShapeTree × List ℕ)) (ty : TypeTree) → base + length (tyvars ty) ≤ limit → AreShapes (AreHolesBelow limit) bound → AreHolesBelow limit (part_shape bound base (tyvars ty) ty)
part_below limit base bound ty le all = part_holes limit base (tyvars ty) bound ty le all (covers_all ty)

-- ---- where a shape is missing, its slot has a smaller type

row_lookup : (types : ℕ → TypeTree) (rest : List (TypeTree × List ℕ)) (base : ℕ) (names : List (List ℕ)) (k : ℕ) → AreDistinct names → k < length names → type_lookup (pairs_from types base names ++ rest) (get_or names k []) ≡ Some (types (base + k))
row_lookup types rest base [] k d lt = absurd (omega (arith, lt))
row_lookup types rest base (b ∷ names) zero d lt = rw ((bytes_eq-Decides b b).1 refl) (ap (λ (j : ℕ). Some (types j)) (omega arith))
row_lookup types rest base (b ∷ names) (suc k) d lt =
    let other : bytes_eq b (get_or names k []) ≡ false = apart_names names b k d.0 (omega (arith, lt)) in
    rw other (row_lookup types rest (base + 1) names k d.1 (omega (arith, lt)) ∙ ap (λ (j : ℕ). Some (types j)) (omega arith))

mutual
  variable_size : (σ : List (TypeTree × List ℕ)) (ty : TypeTree) (a : List ℕ) → is_among (type_names ty) a ≡ true → type_size (type_for σ a) ≤ type_size (type_subst σ ty)
  variable_size σ (TyVar b) a m = by (bytes_eq a b) refl m
    where
      by : (t : Bool) → bytes_eq a b ≡ t → (t || false) ≡ true → type_size (type_for σ a) ≤ type_size (type_for σ b)
      by true f n = let e : type_size (type_for σ a) ≡ type_size (type_for σ b) = ap (λ (x : List ℕ). type_size (type_for σ x)) ((bytes_eq-Decides a b).0 f) in omega (arith, e)
      by false f n = absurd (cc)
  variable_size σ (TyApp c ts) a m = let r = variable_sizes σ ts a m in omega (arith, r)

  pub variable_sizes : (σ : List (TypeTree × List ℕ)) (ts : TypeList) (a : List ℕ) → is_among (types_names ts) a ≡ true → type_size (type_for σ a) ≤ types_size (types_subst σ ts)
  variable_sizes σ no_types a m = absurd (cc)
  variable_sizes σ (more_types t ts) a m =
      by (is_among (type_names t) a) refl (sym (among_append (type_names t) (types_names ts) a) ∙ m) (λ h. variable_size σ t a h) (λ h. variable_sizes σ ts a h)
    where
      by : (b : Bool) → is_among (type_names t) a ≡ b → (is_among (type_names t) a || is_among (types_names ts) a) ≡ true →
          (is_among (type_names t) a ≡ true → type_size (type_for σ a) ≤ type_size (type_subst σ t)) →
          (is_among (types_names ts) a ≡ true → type_size (type_for σ a) ≤ types_size (types_subst σ ts)) →
          type_size (type_for σ a) ≤ type_size (type_subst σ t) + types_size (types_subst σ ts)
      by true f n p q = let l = p f in omega (arith, l)
      by false f n p q = let l = q (rw f at n) in omega (arith, l)

pub row_smaller : (types : ℕ → TypeTree) (pairs : List (TypeTree × List ℕ)) (base : ℕ) (names : List (List ℕ)) (c : List ℕ) (ts : TypeList) (t : TypeTree) (k : ℕ) → AreDistinct names → k < length names → is_among (types_names ts) (get_or names k []) ≡ true →
    t ≡ type_subst (pairs_from types base names ++ pairs) (TyApp c ts) → type_size (types (base + k)) + 1 ≤ type_size t
row_smaller types pairs base names c ts t k d lt m e =
    let a = get_or names k [] in
    let σ = pairs_from types base names ++ pairs in
    let here : type_size (type_for σ a) ≡ type_size (types (base + k)) = ap (λ (o : Option TypeTree). type_size (unwrap_or o (TyVar a))) (row_lookup types pairs base names k d lt) in
    let whole : type_size t ≡ 1 + types_size (types_subst σ ts) = ap type_size e in
    let r = variable_sizes σ ts a m in
    omega (arith, here, whole, r)

-- ---- loops over shapes and arguments

single_push : (bound : List (ShapeTree × List ℕ)) (p : ShapeTree × List ℕ) → AreSingle bound → shape_size p.0 ≡ 1 → AreSingle (bound ++ p ∷ [])
single_push [] p all e = (e, tt)
single_push (q ∷ bound) p all e = (all.0, single_push bound p all.1 e)

pub single_step : (bound : List (ShapeTree × List ℕ)) (i : ℕ) (p : ShapeTree × List ℕ) → i < length bound → p ≡ get_or bound i p → AreSingle (take i bound) → shape_size p.0 ≡ 1 → AreSingle (take (i + 1) bound)
single_step bound i p lt e all one =
    subst AreSingle (sym (take_more bound i p lt ∙ ap (λ (q : ShapeTree × List ℕ). take i bound ++ q ∷ []) (sym e))) (single_push (take i bound) p all one)

pub single_all : (bound : List (ShapeTree × List ℕ)) (i : ℕ) → length bound ≤ i → AreSingle (take i bound) → AreSingle bound
single_all bound i le all = subst AreSingle (take_all i bound le) all

pub lookup_next : (bound : List (ShapeTree × List ℕ)) (i : ℕ) (p : ShapeTree × List ℕ) (a : List ℕ) → i < length bound → p ≡ get_or bound i p → bytes_eq p.1 a ≡ false → shape_lookup (drop i bound) a ≡ shape_lookup (drop (i + 1) bound) a
lookup_next bound i p a lt e other = rw (next_of bound i p lt e) (rw other refl)

pub lookup_here : (bound : List (ShapeTree × List ℕ)) (i : ℕ) (p : ShapeTree × List ℕ) (a : List ℕ) → i < length bound → p ≡ get_or bound i p → bytes_eq p.1 a ≡ true → shape_lookup (drop i bound) a ≡ Some p.0
lookup_here bound i p a lt e same = rw (next_of bound i p lt e) (rw same refl)

pub lookup_end : (bound : List (ShapeTree × List ℕ)) (i : ℕ) (a : List ℕ) → length bound ≤ i → shape_lookup (drop i bound) a ≡ None
lookup_end bound i a le = ap (λ (ps : List (ShapeTree × List ℕ)). shape_lookup ps a) (drop_all i bound le)

-- the size of what is put for a variable
pub found_size : (bound : List (ShapeTree × List ℕ)) (a : List ℕ) (s : ShapeTree) → shape_lookup bound a ≡ Some s → (base : ℕ) (names : List (List ℕ)) → min (shape_size s) 20001 ≡ min (shape_size (part_shape bound base names (TyVar a))) 20001
found_size bound a s e base names = sym (ap (λ (o : Option ShapeTree). min (shape_size (unwrap_or o (Hole (base + place_among names a)))) 20001) e)

pub open_size : (bound : List (ShapeTree × List ℕ)) (a : List ℕ) → shape_lookup bound a ≡ None → (base : ℕ) (names : List (List ℕ)) → 1 ≡ min (shape_size (part_shape bound base names (TyVar a))) 20001
open_size bound a e base names = sym (ap (λ (o : Option ShapeTree). min (shape_size (unwrap_or o (Hole (base + place_among names a)))) 20001) e)

-- one turn of the loop over the arguments
pub size_step : (bound : List (ShapeTree × List ℕ)) (base : ℕ) (names : List (List ℕ)) (ts : List TypeTree) (i : ℕ) (t : TypeTree) → i < length ts → t ≡ get_or ts i t →
    shapes_size (part_shapes bound base names (type_list (drop i ts))) ≡ shape_size (part_shape bound base names t) + shapes_size (part_shapes bound base names (type_list (drop (i + 1) ts)))
size_step bound base names ts i t lt e = ap (λ (us : List TypeTree). shapes_size (part_shapes bound base names (type_list us))) (next_of ts i t lt e)

-- one turn of the loop that puts the open slots of arguments
pub holes_step : (shapes : List (ShapeTree × List ℕ)) (order : List ℕ) (base : ℕ) (names : List (List ℕ)) (ts : List TypeTree) (i : ℕ) (t : TypeTree) → i < length ts → t ≡ get_or ts i t →
    add_holes order (shapes_holes (part_shapes shapes base names (type_list (drop i ts)))) ≡ add_holes (add_holes order (shape_holes (part_shape shapes base names t))) (shapes_holes (part_shapes shapes base names (type_list (drop (i + 1) ts))))
holes_step shapes order base names ts i t lt e = rw (next_of ts i t lt e) (add_holes_append order (shape_holes (part_shape shapes base names t)) (shapes_holes (part_shapes shapes base names (type_list (drop (i + 1) ts)))))

-- ---- the open slots of a variable

-- the lists from the i-th on are those of the shapes from the i-th on, and a name is looked up there
abbrev pub LooksFrom : List (Vec ℕ × List ℕ) → List ℕ → ℕ → Type 0
LooksFrom bound a i = (shapes : List (ShapeTree × List ℕ)) → AreHolesOf bound shapes → AreHolesOf (drop i bound) (drop i shapes) × (shape_lookup shapes a ≡ shape_lookup (drop i shapes) a)

pub looks_start : (bound : List (Vec ℕ × List ℕ)) (a : List ℕ) → LooksFrom bound a 0
looks_start bound a shapes all = (all, refl)

looks_on : (q : Vec ℕ × List ℕ) (rest : List (Vec ℕ × List ℕ)) (a : List ℕ) (shapes : List (ShapeTree × List ℕ)) → AreHolesOf (q ∷ rest) shapes → bytes_eq q.1 a ≡ false → AreHolesOf rest (drop 1 shapes) × (shape_lookup shapes a ≡ shape_lookup (drop 1 shapes) a)
looks_on q rest a [] all other = absurd all
looks_on q rest a (p ∷ shapes) all other =
    let f : bytes_eq p.1 a ≡ false = subst (λ (x : List ℕ). bytes_eq x a ≡ false) all.1 other in
    (all.2, rw f refl)

looks_at : (q : Vec ℕ × List ℕ) (rest : List (Vec ℕ × List ℕ)) (a : List ℕ) (shapes : List (ShapeTree × List ℕ)) → AreHolesOf (q ∷ rest) shapes → bytes_eq q.1 a ≡ true → (s : ShapeTree) × (shape_lookup shapes a ≡ Some s) × (q.0.items ≡ add_holes [] (shape_holes s))
looks_at q rest a [] all same = absurd all
looks_at q rest a (p ∷ shapes) all same =
    let f : bytes_eq p.1 a ≡ true = subst (λ (x : List ℕ). bytes_eq x a ≡ true) all.1 same in
    (p.0, rw f refl, all.0)

pub looks_next : (bound : List (Vec ℕ × List ℕ)) (a : List ℕ) (i : ℕ) (q : Vec ℕ × List ℕ) → i < length bound → q ≡ get_or bound i q → bytes_eq q.1 a ≡ false → LooksFrom bound a i → LooksFrom bound a (i + 1)
looks_next bound a i q lt e other looks shapes all =
    let h = looks shapes all in
    let r = looks_on q (drop (i + 1) bound) a (drop i shapes) (rw (next_of bound i q lt e) at h.0) other in (
      subst (λ (ps : List (ShapeTree × List ℕ)). AreHolesOf (drop (i + 1) bound) ps) (drop-drop 1 i shapes) r.0,
      h.1 ∙ r.1 ∙ ap (λ (ps : List (ShapeTree × List ℕ)). shape_lookup ps a) (drop-drop 1 i shapes),
    )

-- the name's shape is put, whose open slots are those of its list
pub looks_found : (bound : List (Vec ℕ × List ℕ)) (a : List ℕ) (i : ℕ) (q : Vec ℕ × List ℕ) (order : List ℕ) (base : ℕ) (names : List (List ℕ)) → i < length bound → q ≡ get_or bound i q → bytes_eq q.1 a ≡ true → LooksFrom bound a i →
    (shapes : List (ShapeTree × List ℕ)) → AreHolesOf bound shapes → add_holes order q.0.items ≡ add_holes order (shape_holes (part_shape shapes base names (TyVar a)))
looks_found bound a i q order base names lt e same looks shapes all =
    let h = looks shapes all in
    let r = looks_at q (drop (i + 1) bound) a (drop i shapes) (rw (next_of bound i q lt e) at h.0) same in
    ap (add_holes order) r.2 ∙ add_added order [] (shape_holes r.0)
    ∙ sym (ap (λ (o : Option ShapeTree). add_holes order (shape_holes (unwrap_or o (Hole (base + place_among names a))))) (h.1 ∙ r.1))

none_left : (shapes : List (ShapeTree × List ℕ)) (a : List ℕ) → AreHolesOf [] shapes → shape_lookup shapes a ≡ None
none_left [] a all = refl
none_left (p ∷ shapes) a all = absurd all

pub looks_none : (bound : List (Vec ℕ × List ℕ)) (a : List ℕ) (i : ℕ) (order : List ℕ) (base : ℕ) (names : List (List ℕ)) → length bound ≤ i → LooksFrom bound a i →
    (shapes : List (ShapeTree × List ℕ)) → AreHolesOf bound shapes → add_hole order (base + place_among names a) ≡ add_holes order (shape_holes (part_shape shapes base names (TyVar a)))
looks_none bound a i order base names le looks shapes all =
    let h = looks shapes all in
    let none = none_left (drop i shapes) a (rw (drop_all i bound le) at h.0) in
    sym (ap (λ (o : Option ShapeTree). add_holes order (shape_holes (unwrap_or o (Hole (base + place_among names a))))) (h.1 ∙ none))

pub holes_push : (bound after : List (Vec ℕ × List ℕ)) (shapes : List (ShapeTree × List ℕ)) (i : ℕ) (q : Vec ℕ × List ℕ) (p : ShapeTree × List ℕ) → i < length shapes → p ≡ get_or shapes i p → AreHolesOf bound (take i shapes) → q.0.items ≡ add_holes [] (shape_holes p.0) → q.1 ≡ p.1 → after ≡ bound ++ q ∷ [] →
    AreHolesOf after (take (i + 1) shapes)
holes_push bound after shapes i q p lt e all h n f =
    subst (λ (xs : List (Vec ℕ × List ℕ)). AreHolesOf xs (take (i + 1) shapes)) (sym f)
    (subst (AreHolesOf (bound ++ q ∷ [])) (sym (take_more shapes i p lt ∙ ap (λ (r : ShapeTree × List ℕ). take i shapes ++ r ∷ []) (sym e))) (holes_of_push bound (take i shapes) q p all h n))

pub fill_push : (at : ℕ → TypeTree) (bound : List (ShapeTree × List ℕ)) (i : ℕ) (p : ShapeTree × List ℕ) (t : TypeTree) (a : List ℕ) (pairs after : List (TypeTree × List ℕ)) → i < length bound → p ≡ get_or bound i p → pairs ≡ fill_pairs at (take i bound) → t ≡ fill at p.0 → a ≡ p.1 → after ≡ pairs ++ (t, a) ∷ [] → after ≡ fill_pairs at (take (i + 1) bound)
fill_push at bound i p t a pairs after lt e f g n h =
    let more : take (i + 1) bound ≡ take i bound ++ p ∷ [] = take_more bound i p lt ∙ ap (λ (q : ShapeTree × List ℕ). take i bound ++ q ∷ []) (sym e) in
    h ∙ (λ j. f j ++ (g j, n j) ∷ []) ∙ sym (ap (fill_pairs at) more ∙ fill_last (take i bound) p)
  where
    fill_last : (xs : List (ShapeTree × List ℕ)) (x : ShapeTree × List ℕ) → fill_pairs at (xs ++ x ∷ []) ≡ fill_pairs at xs ++ (fill at x.0, x.1) ∷ []
    fill_last [] x = refl
    fill_last (y ∷ xs) x = ap (λ (ps : List (TypeTree × List ℕ)). (fill at y.0, y.1) ∷ ps) (fill_last xs x)

-- where the loop over the shapes is over
pub fill_whole : (at : ℕ → TypeTree) (bound : List (ShapeTree × List ℕ)) (i base : ℕ) (ty : TypeTree) (pairs after : List (TypeTree × List ℕ)) → length bound ≤ i → pairs ≡ fill_pairs at (take i bound) → after ≡ pairs ++ pairs_from at base (tyvars ty) →
    type_subst after ty ≡ fill at (part_shape bound base (tyvars ty) ty)
fill_whole at bound i base ty pairs after le e f =
    ap (λ (ps : List (TypeTree × List ℕ)). type_subst ps ty) (f ∙ ap (λ (ps : List (TypeTree × List ℕ)). ps ++ pairs_from at base (tyvars ty)) (e ∙ ap (fill_pairs at) (take_all i bound le)))
    ∙ sym (part_filled at base bound ty)
