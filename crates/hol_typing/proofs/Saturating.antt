-- Finding the shapes of the slots.
use Rattle.std.proofs.Common.{◌≡◌, ℕ, zero, suc, ◌+◌, ◌*◌, ◌<◌, ◌≤◌, inl, inr, List, [], ◌∷◌, ◌++◌, length, map, set, get_or, refl, sym, ◌∙◌, ap, subst, arith, Bool, true, false, get_or-set_same, get_or-set_other, Option, Some, None}
use Rattle.std.specs.List.{All, Contains}
use Rattle.std.proofs.lemmas.Bool.{cases_eq, cases_lt}
use Rattle.std.proofs.lemmas.List.{get_or_past}
use Rattle.std.proofs.lemmas.List.Elements.{All-head, All-tail, All-contains}
use Rattle.std.proofs.Math.Nat.{mul-le-mul_right}
use Rattle.hol_typing.proofs.Splitting.{more_same}
use Rattle.hol_types.specs.Tree.{TypeTree, TyVar, TyApp, type_list, type_size, types_size}
use Rattle.hol_types.specs.Names.{tyvars, type_names, is_among}
use Rattle.hol_types.specs.Subst.{type_subst}
use Rattle.hol_typing.specs.Shape.{ShapeTree, Hole, shape_list, fill, fills, part_shape}
use Rattle.hol_typing.specs.declared.cell.Cell.{Cell}
use Rattle.hol_typing.specs.declared.cell.Cell.TheVariants.{Unknown, Link, Rigid, App, Generic, Part}
use Rattle.hol_typing.specs.declared.numbering.Numbering.{Numbering}
use Rattle.hol_typing.specs.declared.cell.GenericPart.{GenericPart}
use Rattle.hol_typing.specs.Graph.{pairs_from, part_pairs, bound_names, IsApplied, cell_at, Respects, CellHolds, IsGraph, IsCellIn}
use Rattle.hol_typing.specs.Linear.{AreDistinct}
use Rattle.hol_typing.specs.Numbering.{base_at, limit_of, IsCounted, IsNumbering, IsNumberedAt, IsNumbered}
use Rattle.hol_typing.specs.Found.{found_at, ArePartsFound, BuiltFrom, IsBlocked, HasRigidNames, HaveRigidNames, AreHolesBelow, AllHolesBelow, IsBuilt, IsStuckAt, IsStuck, missing, shape_at, types_at, AreGeneral}
use Rattle.hol_typing.proofs.Parts.{row_more, row_holds, bound_filled, part_rigid, AreShapes, shapes_from, part_below, row_smaller}
use Rattle.hol_typing.proofs.Numbers.{filled, instance_rigid, instance_below, instance_fits, numbered}

-- a sweep that has come to slot n
abbrev pub SweepSoFar : List Cell → List (Option ShapeTree) → List (Option ShapeTree) → ℕ → Bool → Type 0
SweepSoFar cells before after n true = missing after < missing before
SweepSoFar cells before after n false = (after ≡ before) × ((k : ℕ) → k < n → IsStuckAt cells after k)

none_some : (s : ShapeTree) → None ≡ Some s → ⊥
none_some s p = cc

some_same : (s t : ShapeTree) → Some s ≡ Some t → s ≡ t
some_same s t p = cc

cons_parts : (o p : Option ShapeTree) (os ps : List (Option ShapeTree)) → o ∷ os ≡ p ∷ ps → (o ≡ p) × (os ≡ ps)
cons_parts o p os ps e = (cc, cc)

cons_same : (o p : Option ShapeTree) (os ps : List (Option ShapeTree)) → o ≡ p → os ≡ ps → o ∷ os ≡ p ∷ ps
cons_same o p os ps e f = cc

-- a slot that gets a shape had none, so no other shape is lost
keeps : (found : List (Option ShapeTree)) (at i : ℕ) (s t : ShapeTree) → found_at found at ≡ None → found_at found i ≡ Some s → found_at (set found at (Some t)) i ≡ Some s
keeps found at i s t none some = elim (cases_eq i at) [
  | inl e ↦ (let w : found_at found i ≡ None = ap (λ (k : ℕ). found_at found k) e ∙ none in cc)
  | inr ne ↦ get_or-set_other found at i (Some t) None ne ∙ some
]

parts_keep : (found : List (Option ShapeTree)) (at : ℕ) (t : ShapeTree) (parts : List ℕ) (shapes : List ShapeTree) → found_at found at ≡ None → ArePartsFound found parts shapes → ArePartsFound (set found at (Some t)) parts shapes
parts_keep found at t [] shapes none e = e
parts_keep found at t (p ∷ parts) [] none e = absurd (cc)
parts_keep found at t (p ∷ parts) (s ∷ shapes) none e =
    let both = cons_parts (found_at found p) (Some s) (map (found_at found) parts) (map Some shapes) e in
    cons_same (found_at (set found at (Some t)) p) (Some s) (map (found_at (set found at (Some t))) parts) (map Some shapes)
    (keeps found at p s t none both.0) (parts_keep found at t parts shapes none both.1)

built_from_more : (numbering : Numbering) (found : List (Option ShapeTree)) (at i : ℕ) (s t : ShapeTree) (cell : Cell) → found_at found at ≡ None → BuiltFrom numbering found i s cell → BuiltFrom numbering (set found at (Some t)) i s cell
built_from_more numbering found at i s t Unknown none b = b
built_from_more numbering found at i s t (Link j) none b = keeps found at j s t none b
built_from_more numbering found at i s t (Rigid a) none b = b
built_from_more numbering found at i s t (Generic ty) none b = b
built_from_more numbering found at i s t (Part part) none (bound, (row, e), f) =
    let more = row_more found (set found at (Some t)) part.ty (λ k u some. keeps found at k u t none some) part.base (bound_names part) row in
    (bound, (more.0, e ∙ more.1), f)
built_from_more numbering found at i s t (App c parts) none (shapes, p, e) = (shapes, parts_keep found at t parts.items shapes none p, e)

-- the types of parts are instances of their shapes
parts_general : (cells : List Cell) (numbering : Numbering) (found : List (Option ShapeTree)) (types : ℕ → TypeTree) → IsBuilt cells numbering found → Respects cells types → IsNumbered cells numbering types → (parts : List ℕ) (shapes : List ShapeTree) → ArePartsFound found parts shapes → type_list (map types parts) ≡ fills types (shape_list shapes)
parts_general cells numbering found types b r m [] [] e = refl
parts_general cells numbering found types b r m [] (s ∷ shapes) e = absurd (cc)
parts_general cells numbering found types b r m (p ∷ parts) [] e = absurd (cc)
parts_general cells numbering found types b r m (p ∷ parts) (s ∷ shapes) e =
    let both = cons_parts (found_at found p) (Some s) (map (found_at found) parts) (map Some shapes) e in
    more_same (types p) (fill types s) (type_list (map types parts)) (fills types (shape_list shapes))
    (b.general types r m p s both.0) (parts_general cells numbering found types b r m parts shapes both.1)

-- a shape made of general shapes is general
built_from_general : (cells : List Cell) (numbering : Numbering) (found : List (Option ShapeTree)) (i : ℕ) (s : ShapeTree) (cell : Cell) (types : ℕ → TypeTree) → IsBuilt cells numbering found → Respects cells types → IsNumbered cells numbering types → CellHolds types (types i) cell → IsNumberedAt types (base_at numbering i) (types i) cell → BuiltFrom numbering found i s cell → types i ≡ fill types s
built_from_general cells numbering found i s Unknown types b r m holds numbers e = sym (ap (fill types) e)
built_from_general cells numbering found i s (Link j) types b r m holds numbers e = holds ∙ b.general types r m j s e
built_from_general cells numbering found i s (Rigid a) types b r m holds numbers e = holds ∙ sym (ap (fill types) e)
built_from_general cells numbering found i s (Part part) types b r m holds numbers (bound, (row, e), f) =
    let rows = row_holds types types found part.ty part.base (bound_names part) row (λ k u lo hi some. b.general types r m k u some) in
    numbers ∙ sym (bound_filled types types found part.ty part.base (bound_names part) (base_at numbering i) rows)
    ∙ sym (ap (λ (ps : List (ShapeTree × List ℕ)). fill types (part_shape ps (base_at numbering i) (tyvars part.ty) part.ty)) e) ∙ sym (ap (fill types) f)
built_from_general cells numbering found i s (Generic ty) types b r m holds numbers e = numbers ∙ sym (filled types (base_at numbering i) ty) ∙ sym (ap (fill types) e)
built_from_general cells numbering found i s (App c parts) types b r m holds numbers (shapes, p, e) =
    holds ∙ ap (TyApp c) (parts_general cells numbering found types b r m parts.items shapes p) ∙ sym (ap (fill types) e)

-- and one made of shapes with rigid names has rigid names
parts_rigid : (cells : List Cell) (numbering : Numbering) (found : List (Option ShapeTree)) → IsBuilt cells numbering found → (parts : List ℕ) (shapes : List ShapeTree) → ArePartsFound found parts shapes → HaveRigidNames (shape_list shapes)
parts_rigid cells numbering found b parts [] e = tt
parts_rigid cells numbering found b [] (s ∷ shapes) e = absurd (cc)
parts_rigid cells numbering found b (p ∷ parts) (s ∷ shapes) e =
    let both = cons_parts (found_at found p) (Some s) (map (found_at found) parts) (map Some shapes) e in
    (b.rigid p s both.0, parts_rigid cells numbering found b parts shapes both.1)

built_from_rigid : (cells : List Cell) (numbering : Numbering) (found : List (Option ShapeTree)) (n i : ℕ) (s : ShapeTree) (cell : Cell) → IsBuilt cells numbering found → IsCellIn n i cell → BuiltFrom numbering found i s cell → HasRigidNames s
built_from_rigid cells numbering found n i s Unknown b in' e = subst HasRigidNames (sym e) tt
built_from_rigid cells numbering found n i s (Link j) b in' e = b.rigid j s e
built_from_rigid cells numbering found n i s (Rigid a) b in' e = subst HasRigidNames (sym e) in'
built_from_rigid cells numbering found n i s (Part part) b in' (bound, (row, e), f) =
    subst HasRigidNames (sym f)
    (part_rigid bound (base_at numbering i) (tyvars part.ty) part.ty
    (subst (AreShapes HasRigidNames) (sym e) (shapes_from HasRigidNames found part.ty b.rigid part.base (bound_names part) row)))
built_from_rigid cells numbering found n i s (Generic ty) b in' e = subst HasRigidNames (sym e) (instance_rigid (base_at numbering i) (tyvars ty) ty)
built_from_rigid cells numbering found n i s (App c parts) b in' (shapes, p, e) = subst HasRigidNames (sym e) (parts_rigid cells numbering found b parts.items shapes p)

-- and the open slots are among those of the graph
parts_below : (cells : List Cell) (numbering : Numbering) (found : List (Option ShapeTree)) → IsBuilt cells numbering found → (parts : List ℕ) (shapes : List ShapeTree) → ArePartsFound found parts shapes → AllHolesBelow (limit_of numbering) (shape_list shapes)
parts_below cells numbering found b parts [] e = tt
parts_below cells numbering found b [] (s ∷ shapes) e = absurd (cc)
parts_below cells numbering found b (p ∷ parts) (s ∷ shapes) e =
    let both = cons_parts (found_at found p) (Some s) (map (found_at found) parts) (map Some shapes) e in
    (b.below p s both.0, parts_below cells numbering found b parts shapes both.1)

built_from_below : (cells : List Cell) (numbering : Numbering) (found : List (Option ShapeTree)) (i : ℕ) (s : ShapeTree) (cell : Cell) → i < numbering.slots → IsCounted numbering.row cell → IsBuilt cells numbering found → BuiltFrom numbering found i s cell → AreHolesBelow (limit_of numbering) s
built_from_below cells numbering found i s Unknown lt counted b e = subst (AreHolesBelow (limit_of numbering)) (sym e) (omega (arith, lt))
built_from_below cells numbering found i s (Link j) lt counted b e = b.below j s e
built_from_below cells numbering found i s (Rigid a) lt counted b e = subst (AreHolesBelow (limit_of numbering)) (sym e) tt
built_from_below cells numbering found i s (Part part) lt counted b (bound, (row, e), f) =
    subst (AreHolesBelow (limit_of numbering)) (sym f)
    (part_below (limit_of numbering) (base_at numbering i) bound part.ty (instance_fits numbering i (length (tyvars part.ty)) lt counted)
    (subst (AreShapes (AreHolesBelow (limit_of numbering))) (sym e) (shapes_from (AreHolesBelow (limit_of numbering)) found part.ty b.below part.base (bound_names part) row)))
built_from_below cells numbering found i s (Generic ty) lt counted b e = subst (AreHolesBelow (limit_of numbering)) (sym e) (instance_below (limit_of numbering) (base_at numbering i) ty (instance_fits numbering i (length (tyvars ty)) lt counted))
built_from_below cells numbering found i s (App c parts) lt counted b (shapes, p, e) = subst (AreHolesBelow (limit_of numbering)) (sym e) (parts_below cells numbering found b parts.items shapes p)

pub is_built_more : (cells : List Cell) (numbering : Numbering) (found : List (Option ShapeTree)) (at : ℕ) (t : ShapeTree) → at < length found → length found ≡ length cells → found_at found at ≡ None → IsGraph cells → IsNumbering cells numbering → IsBuilt cells numbering found → BuiltFrom numbering found at t (cell_at cells at) → IsBuilt cells numbering (set found at (Some t))
is_built_more cells numbering found at t lt len none graph is b new =
    let the_new : (i : ℕ) (s : ShapeTree) → i ≡ at → found_at (set found at (Some t)) i ≡ Some s → t ≡ s =
    λ i s e p. some_same t s (sym (get_or-set_same found at (Some t) None lt) ∙ ap (λ (k : ℕ). found_at (set found at (Some t)) k) (sym e) ∙ p) in
    record {
      built = λ i s p. elim (cases_eq i at) [
        | inl e ↦
            subst (λ (k : ℕ). BuiltFrom numbering (set found at (Some t)) k s (cell_at cells k)) (sym e)
            (built_from_more numbering found at at s t (cell_at cells at) none
            (subst (λ (u : ShapeTree). BuiltFrom numbering found at u (cell_at cells at)) (the_new i s e p) new))
        | inr ne ↦ built_from_more numbering found at i s t (cell_at cells i) none (b.built i s (sym (get_or-set_other found at i (Some t) None ne) ∙ p))
      ];
      general = λ types r m i s p. elim (cases_eq i at) [
        | inl e ↦
            ap types e ∙ built_from_general cells numbering found at t (cell_at cells at) types b r m (r.cell at) (m.cell at) new ∙ ap (fill types) (the_new i s e p)
        | inr ne ↦ b.general types r m i s (sym (get_or-set_other found at i (Some t) None ne) ∙ p)
      ];
      rigid = λ i s p. elim (cases_eq i at) [
        | inl e ↦ subst HasRigidNames (the_new i s e p) (built_from_rigid cells numbering found (length cells) at t (cell_at cells at) b (graph.cell_in at) new)
        | inr ne ↦ b.rigid i s (sym (get_or-set_other found at i (Some t) None ne) ∙ p)
      ];
      below = λ i s p. elim (cases_eq i at) [
        | inl e ↦ subst (AreHolesBelow (limit_of numbering)) (the_new i s e p) (let slots = is.slots_are in built_from_below cells numbering found at t (cell_at cells at) (omega (arith, lt, len, slots)) (is.counted at) b new)
        | inr ne ↦ b.below i s (sym (get_or-set_other found at i (Some t) None ne) ∙ p)
      ];
    }

smaller : (s t n i j : ℕ) → s + 1 ≤ t → j < n → s * (n + 1) + j < t * (n + 1) + i
smaller s t n i j h l = let e : (s + 1) * (n + 1) ≤ t * (n + 1) = mul-le-mul_right (n + 1) h in omega arith

-- a part is smaller than the whole
part_size : (types : ℕ → TypeTree) (parts : List ℕ) (j : ℕ) → Contains parts j → type_size (types j) ≤ types_size (type_list (map types parts))
part_size types [] j (k, lt, e) = absurd (omega (arith, lt))
part_size types (p ∷ parts) j (zero, lt, e) = let f : type_size (types p) ≡ type_size (types j) = ap (λ (x : ℕ). type_size (types x)) e in omega (arith, f)
part_size types (p ∷ parts) j (suc k, lt, e) = let r = part_size types parts j (k, omega (arith, lt), e) in omega (arith, r)

-- where no slot can get a shape, one without a shape would be of an infinite type
module _ (cells : List Cell) (found : List (Option ShapeTree)) (graph : IsGraph cells) (stuck : IsStuck cells found) (types : ℕ → TypeTree) (r : Respects cells types) where
  abbrev weight : ℕ → ℕ
  weight i = type_size (types i) * (length cells + 1) + i

  part_smaller : (part : GenericPart) (t : TypeTree) (pairs : List (TypeTree × List ℕ)) (k : ℕ) → IsApplied part.ty → AreDistinct (bound_names part) → k < length (bound_names part) → is_among (type_names part.ty) (get_or (bound_names part) k []) ≡ true →
      t ≡ type_subst (part_pairs types part ++ pairs) part.ty → type_size (types (part.base + k)) + 1 ≤ type_size t
  part_smaller part t pairs k applied distinct k_in stands e = by part.ty applied stands e
    where
      by : (ty : TypeTree) → IsApplied ty → is_among (type_names ty) (get_or (bound_names part) k []) ≡ true → t ≡ type_subst (part_pairs types part ++ pairs) ty → type_size (types (part.base + k)) + 1 ≤ type_size t
      by (TyVar a) applied' m f = absurd applied'
      by (TyApp c ts) applied' m f = row_smaller types pairs part.base (bound_names part) c ts t k distinct k_in m f

  blocked_falls : (fuel i : ℕ) (cell : Cell) →
      ((j : ℕ) → j < length cells → weight j < fuel → found_at found j ≡ None → ⊥) →
      i < length cells → weight i < suc fuel → IsCellIn (length cells) i cell → CellHolds types (types i) cell → IsBlocked found cell → ⊥
  blocked_falls fuel i (Generic ty) below lt less in' holds blocked = blocked
  blocked_falls fuel i (Part part) below lt less in' (pairs, e) (k, k_in, stands, none) =
      let p = part_smaller part (types i) pairs k in'.applied in'.distinct k_in stands e in
      let row = in'.row_in in
      let j_in : part.base + k < length cells = omega (arith, k_in, row) in
      let w : weight (part.base + k) < weight i = smaller (type_size (types (part.base + k))) (type_size (types i)) (length cells) i (part.base + k) p j_in in
      below (part.base + k) j_in (omega arith) none
  blocked_falls fuel i Unknown below lt less in' holds blocked = blocked
  blocked_falls fuel i (Link j) below lt less in' holds blocked =
      let e : weight j ≡ type_size (types i) * (length cells + 1) + j = ap (λ (t : TypeTree). type_size t * (length cells + 1) + j) (sym holds) in
      below j (omega arith) (omega (arith, e)) blocked
  blocked_falls fuel i (Rigid a) below lt less in' holds blocked = blocked
  blocked_falls fuel i (App c parts) below lt less in' holds (j, contains, none) =
      let e : type_size (types i) ≡ 1 + types_size (type_list (map types parts.items)) = ap type_size holds in
      let p = part_size types parts.items j contains in
      let j_in : j < length cells = All-contains (λ (k : ℕ). k < length cells) parts.items j in' contains in
      let w : weight j < weight i = smaller (type_size (types j)) (type_size (types i)) (length cells) i j (omega (arith, e, p)) j_in in
      below j j_in (omega arith) none

  none_below : (fuel i : ℕ) → i < length cells → weight i < fuel → found_at found i ≡ None → ⊥
  none_below zero i lt less none = omega arith
  none_below (suc fuel) i lt less none = blocked_falls fuel i (cell_at cells i) (none_below fuel) lt less (graph.cell_in i) (r.cell i) (stuck.stuck i lt none)

  pub stuck_untypable : (i : ℕ) → i < length cells → found_at found i ≡ None → ⊥
  stuck_untypable i lt none = none_below (weight i + 1) i lt (omega arith) none

-- all shapes are found
module _ (cells : List Cell) (numbering : Numbering) (found : List (Option ShapeTree)) (ss : List ShapeTree) (graph : IsGraph cells) (is : IsNumbering cells numbering) (b : IsBuilt cells numbering found) (len : length ss ≡ length cells) (all : (i : ℕ) → i < length cells → found_at found i ≡ Some (shape_at ss i)) where
  parts_hold : (at : ℕ → TypeTree) (parts : List ℕ) (shapes : List ShapeTree) → All (λ p. p < length cells) parts → ArePartsFound found parts shapes → fills at (shape_list shapes) ≡ type_list (map (types_at ss at) parts)
  parts_hold at [] [] in' e = refl
  parts_hold at [] (s ∷ shapes) in' e = absurd (cc)
  parts_hold at (p ∷ parts) [] in' e = absurd (cc)
  parts_hold at (p ∷ parts) (s ∷ shapes) in' e =
      let both = cons_parts (found_at found p) (Some s) (map (found_at found) parts) (map Some shapes) e in
      let same : s ≡ shape_at ss p = some_same s (shape_at ss p) (sym both.0 ∙ all p (All-head (λ (k : ℕ). k < length cells) p parts in')) in
      more_same (fill at s) (types_at ss at p) (fills at (shape_list shapes)) (type_list (map (types_at ss at) parts))
      (ap (fill at) same) (parts_hold at parts shapes (All-tail (λ (k : ℕ). k < length cells) p parts in') both.1)

  cell_holds : (at : ℕ → TypeTree) (i : ℕ) (cell : Cell) → i < length cells → IsCellIn (length cells) i cell → BuiltFrom numbering found i (shape_at ss i) cell → CellHolds (types_at ss at) (types_at ss at i) cell
  cell_holds at i Unknown lt in' e = tt
  cell_holds at i (Link j) lt in' e = ap (fill at) (some_same (shape_at ss i) (shape_at ss j) (sym e ∙ all j (omega arith)))
  cell_holds at i (Rigid a) lt in' e = ap (fill at) e
  cell_holds at i (Part part) lt in' (bound, (row, e), f) =
      let fits = in'.row_in in
      let rows = row_holds (types_at ss at) at found part.ty part.base (bound_names part) row
      (λ k u lo hi some. ap (fill at) (some_same (shape_at ss k) u (sym (all k (omega (arith, hi, fits))) ∙ some))) in (
        pairs_from at (base_at numbering i) (tyvars part.ty),
        ap (fill at) f ∙ ap (λ (ps : List (ShapeTree × List ℕ)). fill at (part_shape ps (base_at numbering i) (tyvars part.ty) part.ty)) e
            ∙ bound_filled (types_at ss at) at found part.ty part.base (bound_names part) (base_at numbering i) rows,
      )
  cell_holds at i (Generic ty) lt in' e = (pairs_from at (base_at numbering i) (tyvars ty), ap (fill at) e ∙ filled at (base_at numbering i) ty)
  cell_holds at i (App c parts) lt in' (shapes, p, e) = ap (fill at) e ∙ ap (TyApp c) (parts_hold at parts.items shapes in' p)

  instances_at : (types : ℕ → TypeTree) → Respects cells types → IsNumbered cells numbering types → (i : ℕ) → types i ≡ types_at ss types i
  instances_at types r m i = elim (cases_lt i (length cells)) [
    | inl lt ↦ b.general types r m i (shape_at ss i) (all i lt)
    | inr ge ↦ sym (ap (fill types) (get_or_past ss i (Hole i) (rw len ge)))
  ]

  pub shapes_general : AreGeneral cells ss
  shapes_general = record {
    respects = λ at. record {
      cell = λ i. elim (cases_lt i (length cells)) [
        | inl lt ↦ cell_holds at i (cell_at cells i) lt (graph.cell_in i) (b.built i (shape_at ss i) (all i lt))
        | inr ge ↦ rw (get_or_past cells i Unknown ge) tt
      ];
    };
    instances = λ types r. (let x = numbered cells numbering types graph is r in (x.0, x.1, instances_at x.0 x.2 x.3));
    rigid = λ i. elim (cases_lt i (length cells)) [
      | inl lt ↦ b.rigid i (shape_at ss i) (all i lt)
      | inr ge ↦ rw (get_or_past ss i (Hole i) (rw len ge)) tt
    ];
    len = len;
    limit = limit_of numbering;
    small = is.fits;
    below = λ i lt. b.below i (shape_at ss i) (all i (omega (arith, lt, len)));
  }
