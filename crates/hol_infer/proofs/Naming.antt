-- The most general typing, with its open slots named as they occur, is the reading.
use Rattle.std.proofs.Common.{◌≡◌, ◌≢◌, inl, inr, ℕ, ◌+◌, ◌<◌, ◌≤◌, ◌^◌, List, [], ◌∷◌, ◌++◌, length, refl, sym, ◌∙◌, ap, subst, arith, append_assoc, append-nil, length-append, cond, Bool, true, false, ◌||◌, ◌==◌, bytes_eq, decimal, Some, None, eq-eqb}
use Rattle.std.proofs.lemmas.Bool.{eqb-true}
use Rattle.std.specs.List.{All}
use Rattle.std.proofs.lemmas.Fmt.{decimal_injective}
use Rattle.std.proofs.lemmas.List.Elements.{All-nil, All-cons}
use Rattle.std.proofs.lemmas.Slice.Eq.{bytes_eq-Decides}
use Rattle.hol_typing.proofs.Extending.{app_same, lam_same, lookup_for, lookup_none}
use Rattle.hol_types.specs.Tree.{TypeTree, TyApp, more_types}
use Rattle.hol_types.specs.Subst.{type_lookup, type_subst, types_subst}
use Rattle.hol_types.specs.Names.{type_names, types_names}
use Rattle.hol_terms.specs.Nameless.{free, fixed, base_of}
use Rattle.hol_typing.specs.Typing.{open_name, IsOpen, instantiate_types}
use Rattle.hol_infer.specs.Reading.{occurring_tyvars, ComeInOrder}
use Rattle.hol_typing.specs.Shape.{ShapeTree, ShapeList, Hole, Fixed, Built, no_shapes, more_shapes, fill, fills, shape_holes, shapes_holes}
use Rattle.hol_typing.specs.SlotTree.{SlotTree, SlotBound, SlotConstant, SlotFree, SlotApply, SlotAbstraction, typed}
use Rattle.hol_typing.specs.Found.{shape_at, types_at, HasRigidNames, HaveRigidNames}
use Rattle.hol_typing.specs.Holes.{is_hole_among, add_hole, add_holes, hole_index, open_type}
use Rattle.hol_typing.specs.Solved.{term_holes}
use Rattle.hol_typing.proofs.Holes.{add_holes_append, added_there}

-- ---- open names

open_name_inj : (j k : ℕ) → j < 2 ^ 64 → k < 2 ^ 64 → open_name j ≡ open_name k → j ≡ k
open_name_inj j k l m e = decimal_injective j k l m (let f : decimal j ≡ decimal k = cc in f)

names_apart : (j k : ℕ) → j < 2 ^ 64 → k < 2 ^ 64 → j ≢ k → bytes_eq (open_name j) (open_name k) ≡ false
names_apart j k l m ne = by (bytes_eq (open_name j) (open_name k)) refl
  where
    by : (b : Bool) → bytes_eq (open_name j) (open_name k) ≡ b → bytes_eq (open_name j) (open_name k) ≡ false
    by true e = absurd (ne (open_name_inj j k l m ((bytes_eq-Decides (open_name j) (open_name k)).0 e)))
    by false e = e

-- ---- the pairs that give the open slots of the order their types

abbrev pub pairs_of : (ℕ → TypeTree) → ℕ → List ℕ → List (TypeTree × List ℕ)
pairs_of at base [] = []
pairs_of at base (k ∷ order) = (at k, open_name base) ∷ pairs_of at (base + 1) order

pub pairs_open : (at : ℕ → TypeTree) (base : ℕ) (order : List ℕ) → All (λ pair. IsOpen pair.1) (pairs_of at base order)
pairs_open at base [] = All-nil (λ (pair : TypeTree × List ℕ). IsOpen pair.1)
pairs_open at base (k ∷ order) = All-cons (λ (pair : TypeTree × List ℕ). IsOpen pair.1) (at k, open_name base) (pairs_of at (base + 1) order) (base, refl) (pairs_open at (base + 1) order)

lookup_here : (s : TypeTree) (a b : List ℕ) (rest : List (TypeTree × List ℕ)) → a ≡ b → type_lookup ((s, a) ∷ rest) b ≡ Some s
lookup_here s a b rest e = rw ((bytes_eq-Decides a b).1 e) refl

lookup_there : (s : TypeTree) (a b : List ℕ) (rest : List (TypeTree × List ℕ)) → bytes_eq a b ≡ false → type_lookup ((s, a) ∷ rest) b ≡ type_lookup rest b
lookup_there s a b rest e = rw e refl

index_here : (j k : ℕ) (order : List ℕ) → (j == k) ≡ true → hole_index (j ∷ order) k ≡ 0
index_here j k order e = rw e refl

index_there : (j k : ℕ) (order : List ℕ) → (j == k) ≡ false → hole_index (j ∷ order) k ≡ 1 + hole_index order k
index_there j k order e = rw e refl

index_within : (order : List ℕ) (k : ℕ) → hole_index order k ≤ length order
index_within [] k = omega arith
index_within (j ∷ order) k = by (j == k) refl (index_within order k)
  where
    by : (b : Bool) → (j == k) ≡ b → hole_index order k ≤ length order → hole_index (j ∷ order) k ≤ length (j ∷ order)
    by true e r = let f = index_here j k order e in omega (arith, f)
    by false e r = let f = index_there j k order e in omega (arith, f, r)

among_there : (j k : ℕ) (order : List ℕ) → (j == k) ≡ false → is_hole_among (j ∷ order) k ≡ true → is_hole_among order k ≡ true
among_there j k order e h = rw e at h

pub pair_found : (at : ℕ → TypeTree) (base : ℕ) (order : List ℕ) (k : ℕ) → base + length order < 2 ^ 64 → is_hole_among order k ≡ true → type_lookup (pairs_of at base order) (open_name (base + hole_index order k)) ≡ Some (at k)
pair_found at base [] k l h = absurd (cc)
pair_found at base (j ∷ order) k l h = by (j == k) refl (λ g. pair_found at (base + 1) order k (omega (arith, l)) g)
  where
    by : (b : Bool) → (j == k) ≡ b → (is_hole_among order k ≡ true → type_lookup (pairs_of at (base + 1) order) (open_name (base + 1 + hole_index order k)) ≡ Some (at k)) →
        type_lookup (pairs_of at base (j ∷ order)) (open_name (base + hole_index (j ∷ order) k)) ≡ Some (at k)
    by true e r =
        let i = index_here j k order e in
        let n : base ≡ base + hole_index (j ∷ order) k = omega (arith, i) in
        lookup_here (at j) (open_name base) (open_name (base + hole_index (j ∷ order) k)) (pairs_of at (base + 1) order) (ap open_name n) ∙ ap (λ (m : ℕ). Some (at m)) (eqb-true j k e)
    by false e r =
        let i = index_there j k order e in
        let w = index_within order k in
        let n : base + hole_index (j ∷ order) k ≡ base + 1 + hole_index order k = omega (arith, i) in
        let apart : base ≢ base + hole_index (j ∷ order) k = omega (arith, i) in
        lookup_there (at j) (open_name base) (open_name (base + hole_index (j ∷ order) k)) (pairs_of at (base + 1) order)
        (names_apart base (base + hole_index (j ∷ order) k) (omega (arith, l)) (omega (arith, l, i, w)) apart)
        ∙ ap (λ (m : ℕ). type_lookup (pairs_of at (base + 1) order) (open_name m)) n ∙ r (among_there j k order e h)

-- a name that is no open one is none of them
pub pair_missing : (at : ℕ → TypeTree) (base : ℕ) (order : List ℕ) (a : List ℕ) → (IsOpen a → ⊥) → type_lookup (pairs_of at base order) a ≡ None
pair_missing at base [] a rigid = refl
pair_missing at base (j ∷ order) a rigid = by (bytes_eq (open_name base) a) refl (pair_missing at (base + 1) order a rigid)
  where
    by : (b : Bool) → bytes_eq (open_name base) a ≡ b → (rest : type_lookup (pairs_of at (base + 1) order) a ≡ None) → type_lookup (pairs_of at base (j ∷ order)) a ≡ None
    by true e rest = absurd (rigid (base, sym ((bytes_eq-Decides (open_name base) a).0 e)))
    by false e rest = lookup_there (at j) (open_name base) a (pairs_of at (base + 1) order) e ∙ rest

-- ---- instances

-- each open slot is in the order
abbrev mutual
  pub AreHolesIn : List ℕ → ShapeTree → Type 0
  AreHolesIn order (Hole k) = is_hole_among order k ≡ true
  AreHolesIn order (Fixed a) = Unit {0}
  AreHolesIn order (Built c ss) = AllHolesIn order ss

  pub AllHolesIn : List ℕ → ShapeList → Type 0
  AllHolesIn order no_shapes = Unit {0}
  AllHolesIn order (more_shapes s ss) = AreHolesIn order s × AllHolesIn order ss

mutual
  pub subst_fill : (at : ℕ → TypeTree) (order : List ℕ) (s : ShapeTree) → length order < 2 ^ 64 → AreHolesIn order s → HasRigidNames s → type_subst (pairs_of at 0 order) (fill (open_type order) s) ≡ fill at s
  subst_fill at order (Hole k) l h r = (let z : 0 + hole_index order k ≡ hole_index order k = omega arith in
      lookup_for (pairs_of at 0 order) (open_name (hole_index order k)) (at k)
      (subst (λ (n : ℕ). type_lookup (pairs_of at 0 order) (open_name n) ≡ Some (at k)) z (pair_found at 0 order k (omega (arith, l)) h)))
  subst_fill at order (Fixed a) l h r = lookup_none (pairs_of at 0 order) a (pair_missing at 0 order a r)
  subst_fill at order (Built c ss) l h r = ap (TyApp c) (subst_fills at order ss l h r)

  subst_fills : (at : ℕ → TypeTree) (order : List ℕ) (ss : ShapeList) → length order < 2 ^ 64 → AllHolesIn order ss → HaveRigidNames ss → types_subst (pairs_of at 0 order) (fills (open_type order) ss) ≡ fills at ss
  subst_fills at order no_shapes l h r = refl
  subst_fills at order (more_shapes s ss) l (h, hs) (r, rs) = λ i. more_types (subst_fill at order s l h r i) (subst_fills at order ss l hs rs i)

-- each open slot of the term is in the order
abbrev pub AreTermHolesIn : List ShapeTree → List ℕ → SlotTree → Type 0
AreTermHolesIn shapes order (SlotBound i) = Unit {0}
AreTermHolesIn shapes order (SlotConstant c s) = AreHolesIn order (shape_at shapes s)
AreTermHolesIn shapes order (SlotFree x s) = AreHolesIn order (shape_at shapes s)
AreTermHolesIn shapes order (SlotApply f a) = AreTermHolesIn shapes order f × AreTermHolesIn shapes order a
AreTermHolesIn shapes order (SlotAbstraction x s b) = AreHolesIn order (shape_at shapes s) × AreTermHolesIn shapes order b

pub instance_of : (at : ℕ → TypeTree) (shapes : List ShapeTree) (order : List ℕ) (term : SlotTree) → length order < 2 ^ 64 → AreTermHolesIn shapes order term → ((i : ℕ) → HasRigidNames (shape_at shapes i)) →
    instantiate_types (pairs_of at 0 order) (typed (types_at shapes (open_type order)) term) ≡ typed (types_at shapes at) term
instance_of at shapes order (SlotBound i) l h r = refl
instance_of at shapes order (SlotConstant c s) l h r = ap (fixed c) (subst_fill at order (shape_at shapes s) l h (r s))
instance_of at shapes order (SlotFree x s) l h r = ap (λ (t : TypeTree). free (x, t)) (subst_fill at order (shape_at shapes s) l h (r s))
instance_of at shapes order (SlotApply f a) l (h, k) r =
    app_same (instantiate_types (pairs_of at 0 order) (typed (types_at shapes (open_type order)) f)) (typed (types_at shapes at) f)
    (instantiate_types (pairs_of at 0 order) (typed (types_at shapes (open_type order)) a)) (typed (types_at shapes at) a)
    (instance_of at shapes order f l h r) (instance_of at shapes order a l k r)
instance_of at shapes order (SlotAbstraction x s b) l (h, k) r =
    lam_same (base_of x) (type_subst (pairs_of at 0 order) (fill (open_type order) (shape_at shapes s))) (fill at (shape_at shapes s))
    (instantiate_types (pairs_of at 0 order) (typed (types_at shapes (open_type order)) b)) (typed (types_at shapes at) b)
    (subst_fill at order (shape_at shapes s) l h (r s)) (instance_of at shapes order b l k r)

-- ---- the order of the names

pub among_last : (order : List ℕ) (k : ℕ) → is_hole_among (order ++ k ∷ []) k ≡ true
among_last [] k = rw (eq-eqb k k refl) refl
among_last (j ∷ order) k = by (j == k) (among_last order k)
  where
    by : (b : Bool) → is_hole_among (order ++ k ∷ []) k ≡ true → (b || is_hole_among (order ++ k ∷ []) k) ≡ true
    by true r = refl
    by false r = r

pub among_before : (order rest : List ℕ) (k : ℕ) → is_hole_among order k ≡ true → is_hole_among (order ++ rest) k ≡ true
among_before [] rest k h = absurd (cc)
among_before (j ∷ order) rest k h = by (j == k) h (among_before order rest k)
  where
    by : (b : Bool) → (b || is_hole_among order k) ≡ true → (is_hole_among order k ≡ true → is_hole_among (order ++ rest) k ≡ true) → (b || is_hole_among (order ++ rest) k) ≡ true
    by true e r = refl
    by false e r = r e

-- the order only grows
pub record Grows (order after : List ℕ) : Type 0 where
  pub rest : List ℕ
  pub is : after ≡ order ++ rest

hole_grows : (order : List ℕ) (k : ℕ) → Grows order (add_hole order k)
hole_grows order k = by (is_hole_among order k)
  where
    by : (b : Bool) → Grows order (cond b order (order ++ k ∷ []))
    by true = record { rest = []; is = sym (append-nil order) }
    by false = record { rest = k ∷ []; is = refl }

grows_trans : (a b c : List ℕ) → Grows a b → Grows b c → Grows a c
grows_trans a b c p q = record { rest = p.rest ++ q.rest; is = q.is ∙ ap (λ (xs : List ℕ). xs ++ q.rest) p.is ∙ append_assoc a p.rest q.rest }

holes_grow : (order ks : List ℕ) → Grows order (add_holes order ks)
holes_grow order [] = record { rest = []; is = sym (append-nil order) }
holes_grow order (k ∷ ks) = grows_trans order (add_hole order k) (add_holes (add_hole order k) ks) (hole_grows order k) (holes_grow (add_hole order k) ks)

among_grown : (order after : List ℕ) (k : ℕ) → Grows order after → is_hole_among order k ≡ true → is_hole_among after k ≡ true
among_grown order after k g h = subst (λ (xs : List ℕ). is_hole_among xs k ≡ true) (sym g.is) (among_before order g.rest k h)

-- the place of a slot stays as the order grows
index_before : (order rest : List ℕ) (k : ℕ) → is_hole_among order k ≡ true → hole_index (order ++ rest) k ≡ hole_index order k
index_before [] rest k h = absurd (cc)
index_before (j ∷ order) rest k h = by (j == k) h (index_before order rest k)
  where
    by : (b : Bool) → (b || is_hole_among order k) ≡ true → (is_hole_among order k ≡ true → hole_index (order ++ rest) k ≡ hole_index order k) →
        cond b 0 (1 + hole_index (order ++ rest) k) ≡ cond b 0 (1 + hole_index order k)
    by true e r = refl
    by false e r = ap (λ (n : ℕ). 1 + n) (r e)

index_below : (order : List ℕ) (k : ℕ) → is_hole_among order k ≡ true → hole_index order k < length order
index_below [] k h = absurd (cc)
index_below (j ∷ order) k h = by (j == k) h (index_below order k)
  where
    by : (b : Bool) → (b || is_hole_among order k) ≡ true → (is_hole_among order k ≡ true → hole_index order k < length order) → cond b 0 (1 + hole_index order k) < length (j ∷ order)
    by true e r = omega arith
    by false e r = let l = r e in omega (arith, l)

index_last : (order : List ℕ) (k : ℕ) → is_hole_among order k ≡ false → hole_index (order ++ k ∷ []) k ≡ length order
index_last [] k h = rw (eq-eqb k k refl) refl
index_last (j ∷ order) k h = by (j == k) h (index_last order k)
  where
    by : (b : Bool) → (b || is_hole_among order k) ≡ false → (is_hole_among order k ≡ false → hole_index (order ++ k ∷ []) k ≡ length order) → cond b 0 (1 + hole_index (order ++ k ∷ []) k) ≡ length (j ∷ order)
    by true e r = absurd (cc)
    by false e r = let q = r e in omega (arith, q)

index_grown : (order after : List ℕ) (k : ℕ) → Grows order after → is_hole_among order k ≡ true → hole_index after k ≡ hole_index order k
index_grown order after k g h = ap (λ (xs : List ℕ). hole_index xs k) g.is ∙ index_before order g.rest k h

pub in_order_append : (n m l : ℕ) (xs ys : List (List ℕ)) → ComeInOrder n xs m → ComeInOrder m ys l → ComeInOrder n (xs ++ ys) l
in_order_append n m l [] ys p q = subst (λ (k : ℕ). ComeInOrder k ys l) (sym p) q
in_order_append n m l (x ∷ xs) ys (inl (r, p)) q = inl (r, in_order_append n m l xs ys p q)
in_order_append n m l (x ∷ xs) ys (inr (inl (k, lt, e, p))) q = inr (inl (k, lt, e, in_order_append n m l xs ys p q))
in_order_append n m l (x ∷ xs) ys (inr (inr (e, p))) q = inr (inr (e, in_order_append (n + 1) m l xs ys p q))

hole_in_order : (order final : List ℕ) (k : ℕ) → Grows (add_hole order k) final → ComeInOrder (length order) (open_name (hole_index final k) ∷ []) (length (add_hole order k))
hole_in_order order final k g = by (is_hole_among order k) refl g
  where
    by : (b : Bool) → is_hole_among order k ≡ b → Grows (cond b order (order ++ k ∷ [])) final → ComeInOrder (length order) (open_name (hole_index final k) ∷ []) (length (cond b order (order ++ k ∷ [])))
    by true e g' = inr (inl (hole_index final k, subst (λ (n : ℕ). n < length order) (sym (index_grown order final k g' e)) (index_below order k e), refl, refl))
    by false e g' = inr (inr (ap open_name (index_grown (order ++ k ∷ []) final k g' (among_last order k) ∙ index_last order k e), sym (length-append order (k ∷ []))))

-- the names of the type variables of a shape come in order
mutual
  pub shape_in_order : (order final : List ℕ) (s : ShapeTree) → HasRigidNames s → Grows (add_holes order (shape_holes s)) final → ComeInOrder (length order) (type_names (fill (open_type final) s)) (length (add_holes order (shape_holes s)))
  shape_in_order order final (Hole k) r g = hole_in_order order final k g
  shape_in_order order final (Fixed a) r g = inl (r, refl)
  shape_in_order order final (Built c ss) r g = shapes_in_order order final ss r g

  shapes_in_order : (order final : List ℕ) (ss : ShapeList) → HaveRigidNames ss → Grows (add_holes order (shapes_holes ss)) final → ComeInOrder (length order) (types_names (fills (open_type final) ss)) (length (add_holes order (shapes_holes ss)))
  shapes_in_order order final no_shapes r g = refl
  shapes_in_order order final (more_shapes s ss) (r, rs) g =
      let split = add_holes_append order (shape_holes s) (shapes_holes ss) in
      let g2 : Grows (add_holes (add_holes order (shape_holes s)) (shapes_holes ss)) final = subst (λ (xs : List ℕ). Grows xs final) split g in
      let g1 : Grows (add_holes order (shape_holes s)) final = grows_trans (add_holes order (shape_holes s)) (add_holes (add_holes order (shape_holes s)) (shapes_holes ss)) final (holes_grow (add_holes order (shape_holes s)) (shapes_holes ss)) g2 in
      subst (λ (xs : List ℕ). ComeInOrder (length order) (type_names (fill (open_type final) s) ++ types_names (fills (open_type final) ss)) (length xs)) (sym split)
      (in_order_append (length order) (length (add_holes order (shape_holes s))) (length (add_holes (add_holes order (shape_holes s)) (shapes_holes ss)))
      (type_names (fill (open_type final) s)) (types_names (fills (open_type final) ss))
      (shape_in_order order final s r g1) (shapes_in_order (add_holes order (shape_holes s)) final ss rs g2))

-- two parts, of which the second comes after
both_in_order : (order final ks ls : List ℕ) (xs ys : List (List ℕ)) →
    (Grows (add_holes order ks) final → ComeInOrder (length order) xs (length (add_holes order ks))) →
    (Grows (add_holes (add_holes order ks) ls) final → ComeInOrder (length (add_holes order ks)) ys (length (add_holes (add_holes order ks) ls))) →
    Grows (add_holes order (ks ++ ls)) final → ComeInOrder (length order) (xs ++ ys) (length (add_holes order (ks ++ ls)))
both_in_order order final ks ls xs ys p q g =
    let split = add_holes_append order ks ls in
    let g2 : Grows (add_holes (add_holes order ks) ls) final = subst (λ (zs : List ℕ). Grows zs final) split g in
    let g1 : Grows (add_holes order ks) final = grows_trans (add_holes order ks) (add_holes (add_holes order ks) ls) final (holes_grow (add_holes order ks) ls) g2 in
    subst (λ (zs : List ℕ). ComeInOrder (length order) (xs ++ ys) (length zs)) (sym split)
    (in_order_append (length order) (length (add_holes order ks)) (length (add_holes (add_holes order ks) ls)) xs ys (p g1) (q g2))

pub term_in_order : (shapes : List ShapeTree) (order final : List ℕ) (term : SlotTree) → ((i : ℕ) → HasRigidNames (shape_at shapes i)) → Grows (add_holes order (term_holes shapes term)) final →
    ComeInOrder (length order) (occurring_tyvars (typed (types_at shapes (open_type final)) term)) (length (add_holes order (term_holes shapes term)))
term_in_order shapes order final (SlotBound i) r g = refl
term_in_order shapes order final (SlotConstant c s) r g = shape_in_order order final (shape_at shapes s) (r s) g
term_in_order shapes order final (SlotFree x s) r g = shape_in_order order final (shape_at shapes s) (r s) g
term_in_order shapes order final (SlotApply f a) r g =
    both_in_order order final (term_holes shapes f) (term_holes shapes a) (occurring_tyvars (typed (types_at shapes (open_type final)) f)) (occurring_tyvars (typed (types_at shapes (open_type final)) a))
    (term_in_order shapes order final f r) (term_in_order shapes (add_holes order (term_holes shapes f)) final a r) g
term_in_order shapes order final (SlotAbstraction x s b) r g =
    both_in_order order final (shape_holes (shape_at shapes s)) (term_holes shapes b) (type_names (fill (open_type final) (shape_at shapes s))) (occurring_tyvars (typed (types_at shapes (open_type final)) b))
    (shape_in_order order final (shape_at shapes s) (r s)) (term_in_order shapes (add_holes order (shape_holes (shape_at shapes s))) final b r) g

-- ---- each open slot of the term is in the order

mutual
  shape_covered : (order final : List ℕ) (s : ShapeTree) → Grows (add_holes order (shape_holes s)) final → AreHolesIn final s
  shape_covered order final (Hole k) g = among_grown (add_hole order k) final k g (added_there order k)
  shape_covered order final (Fixed a) g = tt
  shape_covered order final (Built c ss) g = shapes_covered order final ss g

  shapes_covered : (order final : List ℕ) (ss : ShapeList) → Grows (add_holes order (shapes_holes ss)) final → AllHolesIn final ss
  shapes_covered order final no_shapes g = tt
  shapes_covered order final (more_shapes s ss) g =
      let split = add_holes_append order (shape_holes s) (shapes_holes ss) in
      let g2 : Grows (add_holes (add_holes order (shape_holes s)) (shapes_holes ss)) final = subst (λ (xs : List ℕ). Grows xs final) split g in
      let g1 : Grows (add_holes order (shape_holes s)) final = grows_trans (add_holes order (shape_holes s)) (add_holes (add_holes order (shape_holes s)) (shapes_holes ss)) final (holes_grow (add_holes order (shape_holes s)) (shapes_holes ss)) g2 in
      (shape_covered order final s g1, shapes_covered (add_holes order (shape_holes s)) final ss g2)

both_grow : (order final ks ls : List ℕ) → Grows (add_holes order (ks ++ ls)) final → Grows (add_holes order ks) final × Grows (add_holes (add_holes order ks) ls) final
both_grow order final ks ls g =
    let g2 : Grows (add_holes (add_holes order ks) ls) final = subst (λ (zs : List ℕ). Grows zs final) (add_holes_append order ks ls) g in
    (grows_trans (add_holes order ks) (add_holes (add_holes order ks) ls) final (holes_grow (add_holes order ks) ls) g2, g2)

pub term_covered : (shapes : List ShapeTree) (order final : List ℕ) (term : SlotTree) → Grows (add_holes order (term_holes shapes term)) final → AreTermHolesIn shapes final term
term_covered shapes order final (SlotBound i) g = tt
term_covered shapes order final (SlotConstant c s) g = shape_covered order final (shape_at shapes s) g
term_covered shapes order final (SlotFree x s) g = shape_covered order final (shape_at shapes s) g
term_covered shapes order final (SlotApply f a) g =
    let both = both_grow order final (term_holes shapes f) (term_holes shapes a) g in
    (term_covered shapes order final f both.0, term_covered shapes (add_holes order (term_holes shapes f)) final a both.1)
term_covered shapes order final (SlotAbstraction x s b) g =
    let both = both_grow order final (shape_holes (shape_at shapes s)) (term_holes shapes b) g in
    (shape_covered order final (shape_at shapes s) both.0, term_covered shapes (add_holes order (shape_holes (shape_at shapes s))) final b both.1)

pub grows_self : (order : List ℕ) → Grows order order
grows_self order = record { rest = []; is = sym (append-nil order) }
