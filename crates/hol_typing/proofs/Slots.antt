-- Slots for types of functions, for free names, and for instances of generic types.
use Rattle.std.proofs.Common.{◌≡◌, ℕ, ◌+◌, ◌<◌, List, [], ◌∷◌, ◌++◌, length, map, codes, refl, sym, ◌∙◌, ap, subst, arith, Bool, true, false, cond, bytes_eq, Option, Some, None}
use Rattle.std.specs.Prelude.{◌↔◌}
use Rattle.std.proofs.lemmas.Slice.Eq.{bytes_eq-Decides}
use Rattle.hol_types.specs.Tree.{TypeTree, TyApp, type_list}
use Rattle.hol_types.specs.Fun.{fun_type}
use Rattle.hol_typing.specs.Typing.{IsGenericInstance}
use Rattle.hol_typing.specs.declared.cell.Cell.{Cell}
use Rattle.hol_typing.specs.declared.cell.Cell.TheVariants.{Unknown, Generic}
use Rattle.hol_typing.specs.declared.generate.Graph.{Graph}
use Rattle.hol_typing.specs.Graph.{CellHolds, IsGraph}
use Rattle.hol_typing.specs.Generate.{Solves, slots, slot_of, IsWellFormed, IsFresh, IsFunction, IsEquated, AddsUnknown, Instantiates, FindsName}
use Rattle.hol_typing.proofs.Extending.{extend_fresh, grows_refl, grows_fresh}

pub function_of : (g h : Graph) (slot d r : ℕ) (cell : Cell) → ((types : ℕ → TypeTree) (t : TypeTree) → CellHolds types t cell ↔ (t ≡ fun_type (types d) (types r))) → IsFresh g h slot cell → IsFunction g h slot d r
function_of g h slot d r cell is fresh = record {
  slot_is = fresh.slot_is;
  slots_are = fresh.slots_are;
  well_formed = fresh.well_formed;
  solves = λ type_of types. (
    λ s. let x = (fresh.solves type_of types).0 s in (x.0, (is types (types slot)).0 x.1),
    λ (s, e). (fresh.solves type_of types).1 (s, (is types (types slot)).1 e),
  );
}

pub unknown_none : (g : Graph) → IsWellFormed g → AddsUnknown g g 0
unknown_none g w = record {
  well_formed = w;
  slots_are = omega arith;
  names_are = refl;
  grows = grows_refl g;
  solves = λ type_of types. (λ s. s, λ s. s);
}

pub unknown_more : (g g1 h : Graph) (n slot : ℕ) → AddsUnknown g g1 n → IsFresh g1 h slot Unknown → AddsUnknown g h (n + 1)
unknown_more g g1 h n slot adds fresh = record {
  well_formed = fresh.well_formed;
  slots_are = (let a = adds.slots_are in let b = fresh.slots_are in omega (arith, a, b));
  names_are = fresh.names_are ∙ adds.names_are;
  grows = grows_fresh g g1 h slot Unknown adds.grows fresh tt;
  solves = λ type_of types. (
    λ s. (adds.solves type_of types).0 ((fresh.solves type_of types).0 s).0,
    λ s. (fresh.solves type_of types).1 ((adds.solves type_of types).1 s, tt),
  );
}

-- ---- free names

slot_before : (xs ys : List (List ℕ × ℕ)) (a : List ℕ) (s : ℕ) → slot_of xs a ≡ Some s → slot_of (xs ++ ys) a ≡ Some s
slot_before [] ys a s e = absurd (cc)
slot_before (x ∷ xs) ys a s e = by (bytes_eq x.0 a) e (slot_before xs ys a s)
  where
    by : (b : Bool) → cond b (Some x.1) (slot_of xs a) ≡ Some s → (slot_of xs a ≡ Some s → slot_of (xs ++ ys) a ≡ Some s) → cond b (Some x.1) (slot_of (xs ++ ys) a) ≡ Some s
    by true f r = f
    by false f r = r f

-- the last name's slot is found where no earlier one is
slot_last : (xs : List (List ℕ × ℕ)) (a : List ℕ) (s : ℕ) → slot_of xs a ≡ None → slot_of (xs ++ (a, s) ∷ []) a ≡ Some s
slot_last [] a s e = rw ((bytes_eq-Decides a a).1 refl) refl
slot_last (x ∷ xs) a s e = by (bytes_eq x.0 a) e (slot_last xs a s)
  where
    by : (b : Bool) → cond b (Some x.1) (slot_of xs a) ≡ None → (slot_of xs a ≡ None → slot_of (xs ++ (a, s) ∷ []) a ≡ Some s) → cond b (Some x.1) (slot_of (xs ++ (a, s) ∷ []) a) ≡ Some s
    by true f r = absurd (cc)
    by false f r = r f

-- what is found where no earlier name is it is the last
slot_new : (xs : List (List ℕ × ℕ)) (a c : List ℕ) (s k : ℕ) → slot_of xs c ≡ None → slot_of (xs ++ (a, s) ∷ []) c ≡ Some k → (a ≡ c) × (s ≡ k)
slot_new [] a c s k none f = by (bytes_eq a c) refl f
  where
    by : (b : Bool) → bytes_eq a c ≡ b → cond b (Some s) None ≡ Some k → (a ≡ c) × (s ≡ k)
    by true g h = ((bytes_eq-Decides a c).0 g, cc)
    by false g h = absurd (cc)
slot_new (y ∷ ys) a c s k none f = by (bytes_eq y.0 c) none f (slot_new ys a c s k)
  where
    by : (b : Bool) → cond b (Some y.1) (slot_of ys c) ≡ None → cond b (Some y.1) (slot_of (ys ++ (a, s) ∷ []) c) ≡ Some k → (slot_of ys c ≡ None → slot_of (ys ++ (a, s) ∷ []) c ≡ Some k → (a ≡ c) × (s ≡ k)) → (a ≡ c) × (s ≡ k)
    by true g h r = absurd (cc)
    by false g h r = r g h

-- what is found is found before, or is the last
slot_found : (xs : List (List ℕ × ℕ)) (a c : List ℕ) (s k : ℕ) (P : List ℕ → ℕ → Type 0) → ((b : List ℕ) (j : ℕ) → slot_of xs b ≡ Some j → P b j) → P a s → slot_of (xs ++ (a, s) ∷ []) c ≡ Some k → P c k
slot_found xs a c s k P old new e = by (slot_of xs c) refl
  where
    by : (o : Option ℕ) → slot_of xs c ≡ o → P c k
    by None f = let q = slot_new xs a c s k f e in subst (λ (j : ℕ). P c j) q.1 (subst (λ (n : List ℕ). P n s) q.0 new)
    by (Some j) f = let q : Some j ≡ Some k = sym (slot_before xs ((a, s) ∷ []) c j f) ∙ e in let i : j ≡ k = cc in subst (λ (n : ℕ). P c n) i (old c j f)

pub finds_name_new : (g g1 h : Graph) (a : List ℕ) (slot : ℕ) → IsWellFormed g → slot_of g.names.items a ≡ None → IsFresh g g1 slot Unknown →
    h.cells.items ≡ g1.cells.items → h.pending.items ≡ g1.pending.items → h.names.items ≡ g1.names.items ++ (a, slot) ∷ [] → FindsName g h a slot
finds_name_new g g1 h a slot w none fresh cells pending names =
    let len : slots h ≡ slots g + 1 = ap length cells ∙ fresh.slots_are in
    let at = fresh.slot_is in
    let none1 : slot_of g1.names.items a ≡ None = ap (λ (xs : List (List ℕ × ℕ)). slot_of xs a) fresh.names_are ∙ none in
    let before : (type_of : List ℕ → TypeTree) (types : ℕ → TypeTree) → Solves h type_of types → Solves g1 type_of types =
    λ type_of types s. record {
      solution = rw (cells, pending) at s.solution;
      names = λ b k e. s.names b k (rw names (slot_before g1.names.items ((a, slot) ∷ []) b k e));
    } in
    record {
      well_formed = record {
        cells_in = subst (λ (xs : List Cell). IsGraph xs) (sym cells) fresh.well_formed.cells_in;
        pending_in = rw (cells, pending) fresh.well_formed.pending_in;
        names_in = λ b k e. slot_found g1.names.items a b slot k (λ (c : List ℕ) (j : ℕ). j < slots h)
            (λ c j f. (let l = fresh.well_formed.names_in c j f in let m = ap length cells in omega (arith, l, m)))
            (omega (arith, at, len)) (rw names at e);
      };
      more = omega (arith, len);
      slot_in = omega (arith, at, len);
      sound = λ type_of types s. (
        ((fresh.solves type_of types).0 (before type_of types s)).0,
        s.names a slot (rw names (slot_last g1.names.items a slot none1)),
      );
      complete = λ type_of types s.
          let x = extend_fresh g g1 slot Unknown w tt fresh type_of types (type_of a) s tt in (
            x.0,
            x.1,
            record {
              solution = rw (cells, pending) x.2.solution;
              names = λ b k e. slot_found g1.names.items a b slot k (λ (c : List ℕ) (j : ℕ). type_of c ≡ x.0 j) x.2.names (sym x.3) (rw names at e);
            },
          );
    }

-- ---- an instance of a generic type

pub instantiates_of : (g g1 h : Graph) (generic : TypeTree) (slot e : ℕ) → IsWellFormed g → e < slots g → IsFresh g g1 slot (Generic generic) → IsEquated g1 h slot e → Instantiates g h generic e
instantiates_of g g1 h generic slot e w e_in fresh same = record {
  well_formed = same.well_formed;
  more = (let m = fresh.slots_are in let n = same.slots_are in omega (arith, m, n));
  sound = λ type_of types s.
      let p = (same.solves type_of types).0 s in
      let q = (fresh.solves type_of types).0 p.0 in
      (q.0, subst (IsGenericInstance generic) p.1 q.1);
  complete = λ type_of types s instance.
      let x = extend_fresh g g1 slot (Generic generic) w tt fresh type_of types (types e) s instance in
      (x.0, x.1, (same.solves type_of x.0).1 (x.2, x.3 ∙ x.1.agree e e_in));
}

pub function_cell : (name : List ℕ) (parts : List ℕ) (d r : ℕ) (types : ℕ → TypeTree) (t : TypeTree) → name ≡ codes "fun" → parts ≡ d ∷ r ∷ [] →
    (t ≡ TyApp name (type_list (map types parts))) ↔ (t ≡ fun_type (types d) (types r))
function_cell name parts d r types t n p =
    subst (λ (a : List ℕ). (t ≡ TyApp a (type_list (map types parts))) ↔ (t ≡ fun_type (types d) (types r))) (sym n)
    (subst (λ (xs : List ℕ). (t ≡ TyApp (codes "fun") (type_list (map types xs))) ↔ (t ≡ fun_type (types d) (types r))) (sym p) (λ e. e, λ e. e))
