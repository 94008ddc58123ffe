-- Instances of a type whose arguments have no type variable in common.
use Rattle.std.proofs.Common.{◌≡◌, ℕ, suc, inl, inr, ◌+◌, ◌<◌, ◌≤◌, List, [], ◌∷◌, ◌++◌, length, map, get_or, take, drop, refl, sym, ◌∙◌, ap, subst, arith, Bool, true, false, ◌||◌, bytes_eq, length-append}
use Rattle.std.specs.Prelude.{◌↔◌, IsTrue}
use Rattle.std.proofs.lemmas.Bool.{cases_eq, or_parts}
use Rattle.std.proofs.lemmas.List.{append_assoc, append-nil, map-append, get_or_default, take_more, take_all}
use Rattle.std.proofs.lemmas.List.Elements.{All-nil, All-push}
use Rattle.std.proofs.lemmas.List.Sums.{sum_by-append, sum_by-cons}
use Rattle.std.proofs.lemmas.Slice.Eq.{bytes_eq-Decides}
use Rattle.hol_types.specs.Tree.{TypeTree, TypeList, TyApp, more_types, type_list, type_size, types_size}
use Rattle.hol_types.specs.Names.{is_among, type_names, types_names}
use Rattle.hol_types.specs.Subst.{type_subst, types_subst, type_for}
use Rattle.hol_types.proofs.Filters.{among_append}
use Rattle.hol_types.proofs.Steps.{next_of, subst_list}
use Rattle.hol_typing.specs.Typing.{IsGenericInstance}
use Rattle.hol_typing.specs.declared.cell.Cell.{Cell}
use Rattle.hol_typing.specs.declared.cell.Cell.TheVariants.{Generic}
use Rattle.hol_typing.specs.declared.generate.Graph.{Graph}
use Rattle.hol_typing.specs.Graph.{CellHolds, IsCellIn, generic_weight, generics}
use Rattle.hol_typing.specs.Generate.{slots, IsWellFormed, IsFresh}
use Rattle.hol_typing.specs.Linear.{ArePairwiseApart}
use Rattle.hol_typing.specs.Expanding.{AreInstances, BuildsParts, BuildsInstance}
use Rattle.hol_typing.proofs.Growing.{map_agree, app_ap}
use Rattle.hol_typing.proofs.Extending.{agree_trans, agree_refl, extend_fresh, env_more, append_same, one_same}
use Rattle.hol_typing.proofs.Instances.{turned, subst_same, substs_same}
use Rattle.hol_typing.proofs.Numbers.{among_after}

-- ---- the test

-- one turn of the loop over the arguments
pub among_step : (a : List ℕ) (ts : List TypeTree) (i : ℕ) (t : TypeTree) → i < length ts → t ≡ get_or ts i t →
    is_among (types_names (type_list (drop i ts))) a ≡ (is_among (type_names t) a || is_among (types_names (type_list (drop (i + 1) ts))) a)
among_step a ts i t h e = rw (next_of ts i t h e) (among_append (type_names t) (types_names (type_list (drop (i + 1) ts))) a)

pub among_next : (a : List ℕ) (ts : List TypeTree) (i : ℕ) (t : TypeTree) → i < length ts → t ≡ get_or ts i t → is_among (type_names t) a ≡ false →
    is_among (types_names (type_list (drop i ts))) a ≡ is_among (types_names (type_list (drop (i + 1) ts))) a
among_next a ts i t h e f = among_step a ts i t h e ∙ ap (λ (b : Bool). b || is_among (types_names (type_list (drop (i + 1) ts))) a) f

pub among_here : (a : List ℕ) (ts : List TypeTree) (i : ℕ) (t : TypeTree) → i < length ts → t ≡ get_or ts i t → is_among (type_names t) a ≡ true → is_among (types_names (type_list (drop i ts))) a ≡ true
among_here a ts i t h e f = among_step a ts i t h e ∙ ap (λ (b : Bool). b || is_among (types_names (type_list (drop (i + 1) ts))) a) f

pub app_names : (ty : TypeTree) (c : List ℕ) (args items : List TypeTree) (a : List ℕ) (b : Bool) → TyApp c (type_list args) ≡ ty → items ≡ args → is_among (types_names (type_list items)) a ≡ b → b ≡ is_among (type_names ty) a
app_names ty c args items a b e f g = sym g ∙ ap (λ (ts : List TypeTree). is_among (types_names (type_list ts)) a) f ∙ ap (λ (t : TypeTree). is_among (type_names t) a) e

-- what a filter excludes
pub filtered : (b r : Bool) → (IsTrue b → IsTrue r) → r ≡ false → b ≡ false
filtered true r h e = let z : true ≡ false = sym (h refl) ∙ e in absurd (cc)
filtered false r h e = refl

-- one turn of the loop over the names
pub apart_step : (t : TypeTree) (names : List (List ℕ)) (i : ℕ) (a : List ℕ) → ((k : ℕ) → k < i → is_among (type_names t) (get_or names k []) ≡ false) → i < length names → a ≡ get_or names i a →
    is_among (type_names t) a ≡ false → (k : ℕ) → k < i + 1 → is_among (type_names t) (get_or names k []) ≡ false
apart_step t names i a h lt e none k l = elim (cases_eq k i) [
  | inl same ↦
      let here : a ≡ get_or names k [] = e ∙ sym (get_or_default names i [] a lt) ∙ ap (λ (j : ℕ). get_or names j []) (sym same) in
      subst (λ (x : List ℕ). is_among (type_names t) x ≡ false) here none
  | inr ne ↦ h k (omega (arith, l, ne))
]

pub apart_all : (t : TypeTree) (names : List (List ℕ)) → ((k : ℕ) → k < length names → is_among (type_names t) (get_or names k []) ≡ false) → (a : List ℕ) → is_among names a ≡ true → is_among (type_names t) a ≡ false
apart_all t [] h a e = absurd (cc)
apart_all t (b ∷ names) h a e = by (bytes_eq b a) refl (apart_all t names (λ k l. h (suc k) (omega (arith, l))) a)
  where
    by : (o : Bool) → bytes_eq b a ≡ o → (is_among names a ≡ true → is_among (type_names t) a ≡ false) → is_among (type_names t) a ≡ false
    by true f r = subst (λ (x : List ℕ). is_among (type_names t) x ≡ false) ((bytes_eq-Decides b a).0 f) (h 0 (omega arith))
    by false f r = r (among_after a b names f e)

-- ---- pairs for all

-- the names with what the pairs put for them, before other pairs
abbrev pub restricted : List (TypeTree × List ℕ) → List (List ℕ) → List (TypeTree × List ℕ) → List (TypeTree × List ℕ)
restricted pairs [] rest = rest
restricted pairs (b ∷ names) rest = (type_for pairs b, b) ∷ restricted pairs names rest

pub restricted_in : (pairs rest : List (TypeTree × List ℕ)) (names : List (List ℕ)) (a : List ℕ) → is_among names a ≡ true → type_for (restricted pairs names rest) a ≡ type_for pairs a
restricted_in pairs rest [] a h = absurd (cc)
restricted_in pairs rest (b ∷ names) a h = by (bytes_eq b a) refl (restricted_in pairs rest names a)
  where
    by : (t : Bool) → bytes_eq b a ≡ t → (is_among names a ≡ true → type_for (restricted pairs names rest) a ≡ type_for pairs a) → type_for (restricted pairs (b ∷ names) rest) a ≡ type_for pairs a
    by true e r = rw e (ap (type_for pairs) ((bytes_eq-Decides b a).0 e))
    by false e r = rw e (r (among_after a b names e h))

pub restricted_out : (pairs rest : List (TypeTree × List ℕ)) (names : List (List ℕ)) (a : List ℕ) → is_among names a ≡ false → type_for (restricted pairs names rest) a ≡ type_for rest a
restricted_out pairs rest [] a h = refl
restricted_out pairs rest (b ∷ names) a h =
    let both = or_parts (bytes_eq a b) (is_among names a) h in
    let other : bytes_eq b a ≡ false = turned b a both.0 in
    rw other (restricted_out pairs rest names a both.1)

pub not_both : (p q : Bool) → (p ≡ true → q ≡ false) → q ≡ true → p ≡ false
not_both true q h e = let z : true ≡ false = sym e ∙ h refl in absurd (cc)
not_both false q h e = refl

pub more_same : (t t' : TypeTree) (ts ts' : TypeList) → t ≡ t' → ts ≡ ts' → more_types t ts ≡ more_types t' ts'
more_same t t' ts ts' p q = cc

-- types that are instances each by itself are so by the same pairs
all_instances : (tys ts : List TypeTree) → ArePairwiseApart tys → AreInstances tys ts → (pairs : List (TypeTree × List ℕ)) × (type_list ts ≡ types_subst pairs (type_list tys))
all_instances [] [] apart is = ([], refl)
all_instances [] (t ∷ ts) apart is = absurd is
all_instances (g ∷ tys) [] apart is = absurd is
all_instances (g ∷ tys) (t ∷ ts) apart ((ps, p), is) =
    let rest = all_instances tys ts apart.1 is in
    let σ = restricted ps (type_names g) rest.0 in
    let here : type_subst σ g ≡ type_subst ps g = subst_same σ ps g (λ n h. restricted_in ps rest.0 (type_names g) n h) in
    let after : types_subst σ (type_list tys) ≡ types_subst rest.0 (type_list tys) =
    substs_same σ rest.0 (type_list tys) (λ n h. restricted_out ps rest.0 (type_names g) n (not_both (is_among (type_names g) n) (is_among (types_names (type_list tys)) n) (apart.0 n) h)) in
    (σ, more_same t (type_subst σ g) (type_list ts) (types_subst σ (type_list tys)) (p ∙ sym here) (rest.1 ∙ sym after))

-- ---- slots for all

instances_push : (tys ts : List TypeTree) (g t : TypeTree) → AreInstances tys ts → IsGenericInstance g t → AreInstances (tys ++ g ∷ []) (ts ++ t ∷ [])
instances_push [] [] g t is h = (h, tt)
instances_push [] (s ∷ ts) g t is h = absurd is
instances_push (f ∷ tys) [] g t is h = absurd is
instances_push (f ∷ tys) (s ∷ ts) g t is h = (is.0, instances_push tys ts g t is.1 h)

pub sizes_push : (tys : List TypeTree) (g : TypeTree) → types_size (type_list (tys ++ g ∷ [])) ≡ types_size (type_list tys) + type_size g
sizes_push [] g = omega arith
sizes_push (t ∷ tys) g = let r = sizes_push tys g in omega (arith, r)

pub parts_none : (g : Graph) → IsWellFormed g → BuildsParts g g [] []
parts_none g w = record {
  well_formed = w;
  extra = [];
  cells_are = sym (append-nil g.cells.items);
  pending_are = refl;
  names_are = refl;
  parts_in = All-nil (λ (p : ℕ). p < slots g);
  sizes = refl;
  sound = λ type_of types s. (s, tt);
  complete = λ type_of types pairs s. (types, agree_refl (slots g) types, s, refl);
}

slots_more : (g g1 : Graph) (parts : List ℕ) (tys : List TypeTree) → BuildsParts g g1 parts tys → slots g ≤ slots g1
slots_more g g1 parts tys b = let e : slots g1 ≡ slots g + length b.extra = ap length b.cells_are ∙ length-append g.cells.items b.extra in omega (arith, e)

parts_more : (g g1 h : Graph) (parts : List ℕ) (tys : List TypeTree) (slot : ℕ) (ty : TypeTree) → BuildsParts g g1 parts tys → IsFresh g1 h slot (Generic ty) → BuildsParts g h (parts ++ slot ∷ []) (tys ++ ty ∷ [])
parts_more g g1 h parts tys slot ty b fresh = record {
  well_formed = fresh.well_formed;
  extra = b.extra ++ Generic ty ∷ [];
  cells_are = fresh.cells_are ∙ ap (λ (xs : List Cell). xs ++ Generic ty ∷ []) b.cells_are ∙ append_assoc g.cells.items b.extra (Generic ty ∷ []);
  pending_are = fresh.pending_are ∙ b.pending_are;
  names_are = fresh.names_are ∙ b.names_are;
  parts_in =
      let e = fresh.slots_are in
      let f = fresh.slot_is in
      All-push (λ (p : ℕ). p < slots h) parts slot (env_more (slots g1) (slots h) parts (omega (arith, e)) b.parts_in) (omega (arith, e, f));
  sizes =
      let x : generics (b.extra ++ Generic ty ∷ []) ≡ generics b.extra + generics (Generic ty ∷ []) = sum_by-append generic_weight b.extra (Generic ty ∷ []) in
      let y : generics (Generic ty ∷ []) ≡ type_size ty + generics [] = sum_by-cons generic_weight (Generic ty) [] in
      let z : generics [] ≡ 0 = refl in
      let u = b.sizes in
      let v = sizes_push tys ty in
      omega (arith, x, y, z, u, v);
  sound = λ type_of types s.
      let p = (fresh.solves type_of types).0 s in
      let q = b.sound type_of types p.0 in (
        q.0,
        subst (λ (ts : List TypeTree). AreInstances (tys ++ ty ∷ []) ts) (sym (map-append types parts (slot ∷ []))) (instances_push tys (map types parts) ty (types slot) q.1 p.1),
      );
  complete = λ type_of types pairs s.
      let x = b.complete type_of types pairs s in
      let y = extend_fresh g1 h slot (Generic ty) b.well_formed tt fresh type_of x.0 (type_subst pairs ty) x.2 (pairs, refl) in (
        y.0,
        agree_trans (slots g) (slots g1) types x.0 y.0 (slots_more g g1 parts tys b) x.1 y.1,
        y.2,
        map-append y.0 parts (slot ∷ [])
            ∙ append_same (map y.0 parts) (map (type_subst pairs) tys) (y.0 slot ∷ []) (type_subst pairs ty ∷ []) (sym (map_agree (slots g1) x.0 y.0 parts y.1 b.parts_in) ∙ x.3)
            (one_same (y.0 slot) (type_subst pairs ty) y.3)
            ∙ sym (map-append (type_subst pairs) tys (ty ∷ [])),
      );
}

-- one turn of the loop over the types
pub parts_step : (g g1 h : Graph) (parts parts' : List ℕ) (tys : List TypeTree) (i part : ℕ) (ty ty' : TypeTree) → i < length tys → ty ≡ get_or tys i ty → parts' ≡ parts ++ part ∷ [] → ty' ≡ ty →
    BuildsParts g g1 parts (take i tys) → IsFresh g1 h part (Generic ty') → BuildsParts g h parts' (take (i + 1) tys)
parts_step g g1 h parts parts' tys i part ty ty' lt e p n b fresh =
    let q : take (i + 1) tys ≡ take i tys ++ ty ∷ [] = take_more tys i ty lt ∙ ap (λ (t : TypeTree). take i tys ++ t ∷ []) (sym e) in
    subst (λ (xs : List ℕ). BuildsParts g h xs (take (i + 1) tys)) (sym p)
    (subst (λ (ts : List TypeTree). BuildsParts g h (parts ++ part ∷ []) ts) (sym q)
    (parts_more g g1 h parts (take i tys) part ty b (subst (λ (t : TypeTree). IsFresh g1 h part (Generic t)) n fresh)))

pub parts_all : (g h : Graph) (parts : List ℕ) (tys : List TypeTree) (i : ℕ) → length tys ≤ i → BuildsParts g h parts (take i tys) → BuildsParts g h parts tys
parts_all g h parts tys i le b = subst (λ (ts : List TypeTree). BuildsParts g h parts ts) (take_all i tys le) b

pub builds_split : (g h : Graph) (c : List ℕ) (parts : List ℕ) (tys : List TypeTree) (cell : Cell) → ArePairwiseApart tys → BuildsParts g h parts tys →
    ((types : ℕ → TypeTree) (t : TypeTree) → CellHolds types t cell ↔ (t ≡ TyApp c (type_list (map types parts)))) → ((i : ℕ) → IsCellIn (slots h) i cell) → generic_weight cell ≡ 0 →
    BuildsInstance g h cell (Generic (TyApp c (type_list tys)))
builds_split g h c parts tys cell apart b is in' plain = record {
  well_formed = b.well_formed;
  extra = b.extra;
  cells_are = b.cells_are;
  pending_are = b.pending_are;
  names_are = b.names_are;
  cell_in = in';
  smaller = (let e = b.sizes in omega (arith, e, plain));
  sound = λ type_of types s.
      let q = b.sound type_of types s in
      let all = all_instances tys (map types parts) apart q.1 in
      (q.0, λ t holds. (all.0, (is types t).0 holds ∙ ap (TyApp c) all.1));
  complete = λ type_of types t s (pairs, e).
      let y = b.complete type_of types pairs s in
      (y.0, y.1, y.2, (is y.0 t).1 (e ∙ ap (TyApp c) (sym (subst_list pairs tys)) ∙ app_ap c (map (type_subst pairs) tys) (map y.0 parts) (sym y.3)));
}
