-- Instances of generic types, by slots for their type variables.
use Rattle.std.proofs.Common.{◌≡◌, ℕ, zero, suc, ◌+◌, ◌-◌, ◌<◌, ◌≤◌, List, [], ◌∷◌, ◌++◌, length, get_or, refl, sym, ◌∙◌, ap, arith, cond, ltb, Bool, true, false, ◌||◌, bytes_eq, Some}
use Rattle.std.proofs.lemmas.Bool.{lt-ltb, le-ltb}
use Rattle.std.proofs.lemmas.Slice.Eq.{bytes_eq-Decides}
use Rattle.hol_types.specs.Tree.{TypeTree, TypeList, TyVar, TyApp, no_types, more_types}
use Rattle.hol_types.specs.Subst.{type_subst, types_subst, type_lookup, type_for}
use Rattle.hol_types.specs.Names.{is_among, type_names, types_names}
use Rattle.hol_typing.specs.Graph.{pairs_from}
use Rattle.hol_typing.specs.Generate.{Agree, IsPlace, HasNoPlace, IsRigidBut, AreRigidBut}

-- ---- places of names

-- a is not the name b
other_lookup : (types : ℕ → TypeTree) (base : ℕ) (a b : List ℕ) (names : List (List ℕ)) → bytes_eq b a ≡ false → type_lookup (pairs_from types base (b ∷ names)) a ≡ type_lookup (pairs_from types (base + 1) names) a
other_lookup types base a b names e = rw e refl

same_lookup : (types : ℕ → TypeTree) (base : ℕ) (a b : List ℕ) (names : List (List ℕ)) → bytes_eq b a ≡ true → type_lookup (pairs_from types base (b ∷ names)) a ≡ Some (types base)
same_lookup types base a b names e = rw e refl

-- the test of two names is the same in both orders
pub turned : (a b : List ℕ) → bytes_eq b a ≡ false → bytes_eq a b ≡ false
turned a b e = by (bytes_eq a b) refl
  where
    by : (t : Bool) → bytes_eq a b ≡ t → bytes_eq a b ≡ false
    by true f = let z : true ≡ false = sym ((bytes_eq-Decides b a).1 (sym ((bytes_eq-Decides a b).0 f))) ∙ e in absurd (cc)
    by false f = f

not_here : (a b : List ℕ) (names : List (List ℕ)) → bytes_eq b a ≡ false → is_among names a ≡ false → is_among (b ∷ names) a ≡ false
not_here a b names e f = let g : bytes_eq a b ≡ false = turned a b e in rw (g, f) refl

pub no_place : (names : List (List ℕ)) (a : List ℕ) → ((k : ℕ) → k < length names → bytes_eq (get_or names k []) a ≡ false) → HasNoPlace names a
no_place [] a h = record { not_among = refl; gives = λ types base. refl }
no_place (b ∷ names) a h =
    let e : bytes_eq b a ≡ false = h 0 (omega arith) in
    let r = no_place names a (λ k l. h (suc k) (omega arith)) in
    record {
      not_among = not_here a b names e r.not_among;
      gives = λ types base. other_lookup types base a b names e ∙ r.gives types (base + 1);
    }

pub place_at : (names : List (List ℕ)) (a : List ℕ) (i : ℕ) → ((k : ℕ) → k < i → bytes_eq (get_or names k []) a ≡ false) → i < length names → bytes_eq (get_or names i []) a ≡ true → IsPlace names a i
place_at [] a i h l e = absurd (omega arith)
place_at (b ∷ names) a zero h l e = record {
  below = l;
  gives = λ types base. same_lookup types base a b names e ∙ ap (λ (k : ℕ). Some (types k)) (omega arith);
}
place_at (b ∷ names) a (suc i) h l e =
    let r = place_at names a i (λ k m. h (suc k) (omega arith)) (omega arith) e in
    let below' = r.below in
    record {
      below = omega (arith, below');
      gives = λ types base. other_lookup types base a b names (h 0 (omega arith)) ∙ r.gives types (base + 1) ∙ ap (λ (k : ℕ). Some (types k)) (omega arith);
    }

-- ---- all type variables are among the names

pub among_front : (a : List ℕ) (xs ys : List (List ℕ)) → is_among xs a ≡ true → is_among (xs ++ ys) a ≡ true
among_front a [] ys e = absurd (cc)
among_front a (x ∷ xs) ys e = by (bytes_eq a x) e (among_front a xs ys)
  where
    by : (b : Bool) → (b || is_among xs a) ≡ true → (is_among xs a ≡ true → is_among (xs ++ ys) a ≡ true) → (b || is_among (xs ++ ys) a) ≡ true
    by true f r = refl
    by false f r = r f

pub among_back : (a : List ℕ) (xs ys : List (List ℕ)) → is_among ys a ≡ true → is_among (xs ++ ys) a ≡ true
among_back a [] ys e = e
among_back a (x ∷ xs) ys e = by (bytes_eq a x) (among_back a xs ys e)
  where
    by : (b : Bool) → is_among (xs ++ ys) a ≡ true → (b || is_among (xs ++ ys) a) ≡ true
    by true f = refl
    by false f = f

mutual
  -- so none is left to be rigid
  pub covered_rigid : (names : List (List ℕ)) (ty : TypeTree) → ((a : List ℕ) → is_among (type_names ty) a ≡ true → is_among names a ≡ true) → IsRigidBut names ty
  covered_rigid names (TyVar b) h = λ not open'.
      let self : is_among (b ∷ []) b ≡ true = rw ((bytes_eq-Decides b b).1 refl) refl in
      let z : true ≡ false = sym (h b self) ∙ not in cc
  covered_rigid names (TyApp c ts) h = covereds_rigid names ts h

  covereds_rigid : (names : List (List ℕ)) (ts : TypeList) → ((a : List ℕ) → is_among (types_names ts) a ≡ true → is_among names a ≡ true) → AreRigidBut names ts
  covereds_rigid names no_types h = tt
  covereds_rigid names (more_types t ts) h =
      (covered_rigid names t (λ a e. h a (among_front a (type_names t) (types_names ts) e)), covereds_rigid names ts (λ a e. h a (among_back a (type_names t) (types_names ts) e)))

-- types that the slots have where the pairs say so
abbrev pub put_from : (ℕ → TypeTree) → ℕ → (ℕ → TypeTree) → ℕ → TypeTree
put_from types n at k = cond (ltb k n) (types k) (at (k - n))

pub put_from_agree : (types : ℕ → TypeTree) (n : ℕ) (at : ℕ → TypeTree) → Agree n types (put_from types n at)
put_from_agree types n at = record { agree = λ i lt. rw (lt-ltb i n lt) refl }

pub put_from_at : (types : ℕ → TypeTree) (n : ℕ) (at : ℕ → TypeTree) (k : ℕ) → put_from types n at (n + k) ≡ at k
put_from_at types n at k =
    let ge : n ≤ n + k = omega arith in
    let e : n + k - n ≡ k = omega arith in
    rw (le-ltb (n + k) n ge, e) refl

-- the slots of the names have the types that the pairs give
pub named_types : (pairs : List (TypeTree × List ℕ)) (types : ℕ → TypeTree) (base : ℕ) (names : List (List ℕ)) (a : List ℕ) →
    ((k : ℕ) → k < length names → types (base + k) ≡ type_for pairs (get_or names k [])) → is_among names a ≡ true → type_for (pairs_from types base names) a ≡ type_for pairs a
named_types pairs types base [] a h e = absurd (cc)
named_types pairs types base (b ∷ names) a h e = by (bytes_eq b a) refl e (λ f. named_types pairs types (base + 1) names a rest f)
  where
    rest : (k : ℕ) → k < length names → types (base + 1 + k) ≡ type_for pairs (get_or names k [])
    rest k l = ap types (omega arith) ∙ h (suc k) (omega arith)

    by : (t : Bool) → bytes_eq b a ≡ t → is_among (b ∷ names) a ≡ true → (is_among names a ≡ true → type_for (pairs_from types (base + 1) names) a ≡ type_for pairs a) →
        type_for (pairs_from types base (b ∷ names)) a ≡ type_for pairs a
    by true f m r = rw f (ap types (omega arith) ∙ h 0 (omega arith) ∙ ap (type_for pairs) ((bytes_eq-Decides b a).0 f))
    by false f m r = rw f (r (let g : bytes_eq a b ≡ false = turned a b f in rw g at m))

mutual
  pub subst_same : (σ τ : List (TypeTree × List ℕ)) (ty : TypeTree) → ((a : List ℕ) → is_among (type_names ty) a ≡ true → type_for σ a ≡ type_for τ a) → type_subst σ ty ≡ type_subst τ ty
  subst_same σ τ (TyVar b) h = h b (rw ((bytes_eq-Decides b b).1 refl) refl)
  subst_same σ τ (TyApp c ts) h = ap (TyApp c) (substs_same σ τ ts h)

  pub substs_same : (σ τ : List (TypeTree × List ℕ)) (ts : TypeList) → ((a : List ℕ) → is_among (types_names ts) a ≡ true → type_for σ a ≡ type_for τ a) → types_subst σ ts ≡ types_subst τ ts
  substs_same σ τ no_types h = refl
  substs_same σ τ (more_types t ts) h =
      λ i. more_types (subst_same σ τ t (λ a e. h a (among_front a (type_names t) (types_names ts) e)) i) (substs_same σ τ ts (λ a e. h a (among_back a (type_names t) (types_names ts) e)) i)
