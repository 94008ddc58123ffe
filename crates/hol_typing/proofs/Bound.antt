-- Instances of a type whose parts have the slots of some variables in common.
use Rattle.std.proofs.Common.{◌≡◌, ℕ, ◌+◌, ◌<◌, ◌≤◌, List, [], ◌∷◌, ◌++◌, length, map, get_or, take, refl, sym, ◌∙◌, ap, subst, arith, Bool, true, false, bytes_eq, length-append, Option}
use Rattle.std.specs.Prelude.{◌↔◌, unwrap_or}
use Rattle.std.proofs.lemmas.List.{append_assoc, append-nil, map-append, take_more, take_all}
use Rattle.std.proofs.lemmas.List.Elements.{All-nil, All-push}
use Rattle.std.proofs.lemmas.List.Sums.{sum_by-append, sum_by-cons}
use Rattle.std.proofs.lemmas.Bool.{or_parts}
use Rattle.hol_types.proofs.Lookups.{type_first, type_second}
use Rattle.hol_types.proofs.Steps.{subst_list}
use Rattle.hol_types.specs.Tree.{TypeTree, TyVar, TyApp, type_list, type_size, types_size}
use Rattle.hol_types.specs.Names.{is_among, type_names, types_names}
use Rattle.hol_types.specs.Subst.{type_subst, types_subst, type_lookup, type_for}
use Rattle.hol_typing.specs.declared.cell.Cell.{Cell}
use Rattle.hol_typing.specs.declared.cell.Cell.TheVariants.{Unknown, Generic, Part}
use Rattle.hol_typing.specs.declared.cell.GenericPart.{GenericPart}
use Rattle.hol_typing.specs.declared.generate.Graph.{Graph}
use Rattle.hol_typing.specs.Graph.{pairs_from, part_pairs, bound_names, IsBoundInstance, IsPartIn, CellHolds, IsCellIn, generic_weight, generics}
use Rattle.hol_typing.specs.Generate.{Solves, slots, IsWellFormed, Agree, IsFresh, AddsUnknown, IsPlace, HasNoPlace}
use Rattle.hol_typing.specs.Linear.{ArePairwiseApartBut}
use Rattle.hol_typing.specs.Expanding.{BuildsBound, AreBoundInstances, BuildsAllBound, BuildsInstance}
use Rattle.hol_typing.proofs.Growing.{map_agree, pairs_agree, solves_agree, app_ap}
use Rattle.hol_typing.proofs.Extending.{agree_trans, agree_refl, extend_fresh, env_more, append_same, one_same}
use Rattle.hol_typing.proofs.Instances.{turned, subst_same, substs_same, put_from, put_from_agree, put_from_at, named_types}
use Rattle.hol_typing.proofs.Numbers.{among_after}
use Rattle.hol_typing.proofs.Opening.{variable_for, weights_none}
use Rattle.hol_typing.proofs.Splitting.{restricted, restricted_in, restricted_out, not_both, more_same, sizes_push}

-- ---- what stands for a variable

abbrev looked : List ℕ → Option TypeTree → TypeTree
looked a o = unwrap_or o (TyVar a)

-- a name's slot, whatever else is put
env_in : (types : ℕ → TypeTree) (base : ℕ) (names : List (List ℕ)) (σ τ : List (TypeTree × List ℕ)) (a : List ℕ) → is_among names a ≡ true → type_lookup (pairs_from types base names ++ σ) a ≡ type_lookup (pairs_from types base names ++ τ) a
env_in types base [] σ τ a h = absurd (cc)
env_in types base (b ∷ names) σ τ a h = by (bytes_eq b a) refl (env_in types (base + 1) names σ τ a)
  where
    by : (t : Bool) → bytes_eq b a ≡ t → (is_among names a ≡ true → type_lookup (pairs_from types (base + 1) names ++ σ) a ≡ type_lookup (pairs_from types (base + 1) names ++ τ) a) →
        type_lookup (pairs_from types base (b ∷ names) ++ σ) a ≡ type_lookup (pairs_from types base (b ∷ names) ++ τ) a
    by true e r = rw e refl
    by false e r = rw e (r (among_after a b names e h))

env_out : (types : ℕ → TypeTree) (base : ℕ) (names : List (List ℕ)) (σ : List (TypeTree × List ℕ)) (a : List ℕ) → is_among names a ≡ false → type_lookup (pairs_from types base names ++ σ) a ≡ type_lookup σ a
env_out types base [] σ a h = refl
env_out types base (b ∷ names) σ a h =
    let both = or_parts (bytes_eq a b) (is_among names a) h in
    let other : bytes_eq b a ≡ false = turned b a both.0 in
    rw other (env_out types (base + 1) names σ a both.1)

-- two substitutions that put the same for the variables that are none of the names
env_for : (types : ℕ → TypeTree) (base : ℕ) (names : List (List ℕ)) (σ τ : List (TypeTree × List ℕ)) (a : List ℕ) → (is_among names a ≡ false → type_for σ a ≡ type_for τ a) → type_for (pairs_from types base names ++ σ) a ≡ type_for (pairs_from types base names ++ τ) a
env_for types base names σ τ a h = by (is_among names a) refl h
  where
    by : (t : Bool) → is_among names a ≡ t → (t ≡ false → type_for σ a ≡ type_for τ a) → type_for (pairs_from types base names ++ σ) a ≡ type_for (pairs_from types base names ++ τ) a
    by true e r = ap (looked a) (env_in types base names σ τ a e)
    by false e r = ap (looked a) (env_out types base names σ a e) ∙ r refl ∙ sym (ap (looked a) (env_out types base names τ a e))

-- ---- one slot

pub bound_place : (g : Graph) (names : List (List ℕ)) (base at : ℕ) (a : List ℕ) → IsWellFormed g → base + length names ≤ slots g → IsPlace names a at → BuildsBound g g names base (base + at) (TyVar a)
bound_place g names base at a w le place = record {
  well_formed = w;
  extra = [];
  cells_are = sym (append-nil g.cells.items);
  pending_are = refl;
  names_are = refl;
  slot_in = (let b = place.below in omega (arith, b, le));
  sizes = (let none : generics [] ≡ 0 = refl in omega (arith, none));
  sound = λ type_of types s. (s, ([], sym (known types [])));
  complete = λ type_of types pairs s. (types, agree_refl (slots g) types, s, sym (known types pairs));
}
  where
    known : (types : ℕ → TypeTree) (pairs : List (TypeTree × List ℕ)) → type_subst (pairs_from types base names ++ pairs) (TyVar a) ≡ types (base + at)
    known types pairs = ap (looked a) (type_first (pairs_from types base names) pairs a (types (base + at)) (place.gives types base))

pub bound_free : (g h : Graph) (names : List (List ℕ)) (base slot : ℕ) (a : List ℕ) → IsWellFormed g → HasNoPlace names a → IsFresh g h slot Unknown → BuildsBound g h names base slot (TyVar a)
bound_free g h names base slot a w none fresh = record {
  well_formed = fresh.well_formed;
  extra = Unknown ∷ [];
  cells_are = fresh.cells_are;
  pending_are = fresh.pending_are;
  names_are = fresh.names_are;
  slot_in = (let e = fresh.slots_are in let f = fresh.slot_is in omega (arith, e, f));
  sizes =
      let whole : generics (Unknown ∷ []) ≡ 0 + generics [] = sum_by-cons generic_weight Unknown [] in
      let rest : generics [] ≡ 0 = refl in
      omega (arith, whole, rest);
  sound = λ type_of types s. (((fresh.solves type_of types).0 s).0, ((types slot, a) ∷ [], sym (given types (types slot))));
  complete = λ type_of types pairs s. extend_fresh g h slot Unknown w tt fresh type_of types (type_subst (pairs_from types base names ++ pairs) (TyVar a)) s tt;
}
  where
    given : (types : ℕ → TypeTree) (t : TypeTree) → type_subst (pairs_from types base names ++ (t, a) ∷ []) (TyVar a) ≡ t
    given types t = ap (looked a) (type_second (pairs_from types base names) ((t, a) ∷ []) a (none.gives types base)) ∙ variable_for t a

part_slot : (g h : Graph) (slot : ℕ) (part : GenericPart) → IsWellFormed g → IsPartIn (slots g) part → IsFresh g h slot (Part part) → BuildsBound g h (bound_names part) part.base slot part.ty
part_slot g h slot part w in' fresh = record {
  well_formed = fresh.well_formed;
  extra = Part part ∷ [];
  cells_are = fresh.cells_are;
  pending_are = fresh.pending_are;
  names_are = fresh.names_are;
  slot_in = (let e = fresh.slots_are in let f = fresh.slot_is in omega (arith, e, f));
  sizes =
      let whole : generics (Part part ∷ []) ≡ type_size part.ty + generics [] = sum_by-cons generic_weight (Part part) [] in
      let rest : generics [] ≡ 0 = refl in
      omega (arith, whole, rest);
  sound = λ type_of types s. (fresh.solves type_of types).0 s;
  complete = λ type_of types pairs s. extend_fresh g h slot (Part part) w in' fresh type_of types (type_subst (part_pairs types part ++ pairs) part.ty) s (pairs, refl);
}

pub bound_applied : (g h : Graph) (names : List (List ℕ)) (base slot : ℕ) (ty : TypeTree) (part : GenericPart) → IsWellFormed g → IsPartIn (slots g) part → part.ty ≡ ty → bound_names part ≡ names → part.base ≡ base → IsFresh g h slot (Part part) → BuildsBound g h names base slot ty
bound_applied g h names base slot ty part w in' e n b fresh =
    subst (λ (u : TypeTree). BuildsBound g h names base slot u) e
    (subst (λ (ns : List (List ℕ)). BuildsBound g h ns base slot part.ty) n
    (subst (λ (k : ℕ). BuildsBound g h (bound_names part) k slot part.ty) b (part_slot g h slot part w in' fresh)))

-- ---- slots for all

pub all_bound_none : (g : Graph) (names : List (List ℕ)) (base : ℕ) → IsWellFormed g → BuildsAllBound g g names base [] []
all_bound_none g names base w = record {
  well_formed = w;
  extra = [];
  cells_are = sym (append-nil g.cells.items);
  pending_are = refl;
  names_are = refl;
  parts_in = All-nil (λ (p : ℕ). p < slots g);
  sizes = (let none : generics [] ≡ 0 = refl in omega (arith, none));
  sound = λ type_of types s. (s, tt);
  complete = λ type_of types pairs s. (types, agree_refl (slots g) types, s, refl);
}

pub bound_more : (g h : Graph) (names : List (List ℕ)) (base : ℕ) (parts : List ℕ) (tys : List TypeTree) → BuildsAllBound g h names base parts tys → slots g ≤ slots h
bound_more g h names base parts tys b = let e : slots h ≡ slots g + length b.extra = ap length b.cells_are ∙ length-append g.cells.items b.extra in omega (arith, e)

instances_push : (types : ℕ → TypeTree) (names : List (List ℕ)) (base : ℕ) (tys ts : List TypeTree) (g t : TypeTree) → AreBoundInstances types names base tys ts → IsBoundInstance types names base g t → AreBoundInstances types names base (tys ++ g ∷ []) (ts ++ t ∷ [])
instances_push types names base [] [] g t is h = (h, tt)
instances_push types names base [] (s ∷ ts) g t is h = absurd is
instances_push types names base (f ∷ tys) [] g t is h = absurd is
instances_push types names base (f ∷ tys) (s ∷ ts) g t is h = (is.0, instances_push types names base tys ts g t is.1 h)

all_bound_more : (g g1 h : Graph) (names : List (List ℕ)) (base : ℕ) (parts : List ℕ) (tys : List TypeTree) (slot : ℕ) (ty : TypeTree) → base + length names ≤ slots g → BuildsAllBound g g1 names base parts tys → BuildsBound g1 h names base slot ty →
    BuildsAllBound g h names base (parts ++ slot ∷ []) (tys ++ ty ∷ [])
all_bound_more g g1 h names base parts tys slot ty row b one =
    let grown : slots h ≡ slots g1 + length one.extra = ap length one.cells_are ∙ length-append g1.cells.items one.extra in
    record {
      well_formed = one.well_formed;
      extra = b.extra ++ one.extra;
      cells_are = one.cells_are ∙ ap (λ (xs : List Cell). xs ++ one.extra) b.cells_are ∙ append_assoc g.cells.items b.extra one.extra;
      pending_are = one.pending_are ∙ b.pending_are;
      names_are = one.names_are ∙ b.names_are;
      parts_in = All-push (λ (p : ℕ). p < slots h) parts slot (env_more (slots g1) (slots h) parts (omega (arith, grown)) b.parts_in) one.slot_in;
      sizes =
          let x : generics (b.extra ++ one.extra) ≡ generics b.extra + generics one.extra = sum_by-append generic_weight b.extra one.extra in
          let u = b.sizes in
          let v = one.sizes in
          let z = sizes_push tys ty in
          omega (arith, x, u, v, z);
      sound = λ type_of types s.
          let p = one.sound type_of types s in
          let q = b.sound type_of types p.0 in (
            q.0,
            subst (λ (ts : List TypeTree). AreBoundInstances types names base (tys ++ ty ∷ []) ts) (sym (map-append types parts (slot ∷ []))) (instances_push types names base tys (map types parts) ty (types slot) q.1 p.1),
          );
      complete = λ type_of types pairs s.
          let x = b.complete type_of types pairs s in
          let y = one.complete type_of x.0 pairs x.2 in
          let σ = pairs_from types base names ++ pairs in
          let env : pairs_from types base names ≡ pairs_from x.0 base names = pairs_agree (slots g) base names types x.0 x.1 row in
          let here : y.0 slot ≡ type_subst σ ty = y.3 ∙ sym (ap (λ (e : List (TypeTree × List ℕ)). type_subst (e ++ pairs) ty) env) in (
            y.0,
            agree_trans (slots g) (slots g1) types x.0 y.0 (bound_more g g1 names base parts tys b) x.1 y.1,
            y.2,
            map-append y.0 parts (slot ∷ [])
                ∙ append_same (map y.0 parts) (map (type_subst σ) tys) (y.0 slot ∷ []) (type_subst σ ty ∷ []) (sym (map_agree (slots g1) x.0 y.0 parts y.1 b.parts_in) ∙ x.3)
                (one_same (y.0 slot) (type_subst σ ty) here)
                ∙ sym (map-append (type_subst σ) tys (ty ∷ [])),
          );
    }

-- one turn of the loop over the types
pub bound_step : (g g1 h : Graph) (names : List (List ℕ)) (base : ℕ) (parts parts' : List ℕ) (tys : List TypeTree) (i part : ℕ) (ty : TypeTree) → base + length names ≤ slots g → i < length tys → ty ≡ get_or tys i ty → parts' ≡ parts ++ part ∷ [] →
    BuildsAllBound g g1 names base parts (take i tys) → BuildsBound g1 h names base part ty → BuildsAllBound g h names base parts' (take (i + 1) tys)
bound_step g g1 h names base parts parts' tys i part ty row lt e p b one =
    let q : take (i + 1) tys ≡ take i tys ++ ty ∷ [] = take_more tys i ty lt ∙ ap (λ (t : TypeTree). take i tys ++ t ∷ []) (sym e) in
    subst (λ (xs : List ℕ). BuildsAllBound g h names base xs (take (i + 1) tys)) (sym p)
    (subst (λ (ts : List TypeTree). BuildsAllBound g h names base (parts ++ part ∷ []) ts) (sym q)
    (all_bound_more g g1 h names base parts (take i tys) part ty row b one))

pub bound_all : (g h : Graph) (names : List (List ℕ)) (base : ℕ) (parts : List ℕ) (tys : List TypeTree) (i : ℕ) → length tys ≤ i → BuildsAllBound g h names base parts (take i tys) → BuildsAllBound g h names base parts tys
bound_all g h names base parts tys i le b = subst (λ (ts : List TypeTree). BuildsAllBound g h names base parts ts) (take_all i tys le) b

-- ---- the whole

-- types that are parts of instances, each by itself, are so by the same pairs
all_bound : (types : ℕ → TypeTree) (names : List (List ℕ)) (base : ℕ) (tys ts : List TypeTree) → ArePairwiseApartBut names tys → AreBoundInstances types names base tys ts →
    (pairs : List (TypeTree × List ℕ)) × (type_list ts ≡ types_subst (pairs_from types base names ++ pairs) (type_list tys))
all_bound types names base [] [] apart is = ([], refl)
all_bound types names base [] (t ∷ ts) apart is = absurd is
all_bound types names base (g ∷ tys) [] apart is = absurd is
all_bound types names base (g ∷ tys) (t ∷ ts) apart ((ps, p), is) =
    let env = pairs_from types base names in
    let rest = all_bound types names base tys ts apart.1 is in
    let σ = restricted ps (type_names g) rest.0 in
    let here : type_subst (env ++ σ) g ≡ type_subst (env ++ ps) g =
    subst_same (env ++ σ) (env ++ ps) g (λ n h. env_for types base names σ ps n (λ none. restricted_in ps rest.0 (type_names g) n h)) in
    let after : types_subst (env ++ σ) (type_list tys) ≡ types_subst (env ++ rest.0) (type_list tys) =
    substs_same (env ++ σ) (env ++ rest.0) (type_list tys)
    (λ n h. env_for types base names σ rest.0 n
    (λ none. restricted_out ps rest.0 (type_names g) n (not_both (is_among (type_names g) n) (is_among (types_names (type_list tys)) n) (apart.0 n none) h))) in
    (σ, more_same t (type_subst (env ++ σ) g) (type_list ts) (types_subst (env ++ σ) (type_list tys)) (p ∙ sym here) (rest.1 ∙ sym after))

-- a part whose own parts get slots
pub builds_part : (g h : Graph) (c : List ℕ) (parts : List ℕ) (tys : List TypeTree) (part : GenericPart) (cell : Cell) → part.ty ≡ TyApp c (type_list tys) → ArePairwiseApartBut (bound_names part) tys → BuildsAllBound g h (bound_names part) part.base parts tys →
    ((types : ℕ → TypeTree) (t : TypeTree) → CellHolds types t cell ↔ (t ≡ TyApp c (type_list (map types parts)))) → ((i : ℕ) → IsCellIn (slots h) i cell) → generic_weight cell ≡ 0 →
    BuildsInstance g h cell (Part part)
builds_part g h c parts tys part cell same apart b is in' plain = record {
  well_formed = b.well_formed;
  extra = b.extra;
  cells_are = b.cells_are;
  pending_are = b.pending_are;
  names_are = b.names_are;
  cell_in = in';
  smaller = (let e = b.sizes in let f : type_size part.ty ≡ 1 + types_size (type_list tys) = ap type_size same in omega (arith, e, f, plain));
  sound = λ type_of types s.
      let q = b.sound type_of types s in
      let all = all_bound types (bound_names part) part.base tys (map types parts) apart q.1 in
      (q.0, λ t holds. (all.0, (is types t).0 holds ∙ ap (TyApp c) all.1 ∙ sym (ap (type_subst (part_pairs types part ++ all.0)) same)));
  complete = λ type_of types t s (pairs, e).
      let y = b.complete type_of types pairs s in
      let σ = part_pairs types part ++ pairs in
      (y.0, y.1, y.2, (is y.0 t).1 (e ∙ ap (type_subst σ) same ∙ ap (TyApp c) (sym (subst_list σ tys)) ∙ app_ap c (map (type_subst σ) tys) (map y.0 parts) (sym y.3)));
}

-- the names' slots have the types that the pairs give
row_for : (pairs : List (TypeTree × List ℕ)) (types : ℕ → TypeTree) (base : ℕ) (names : List (List ℕ)) (a : List ℕ) → ((k : ℕ) → k < length names → types (base + k) ≡ type_for pairs (get_or names k [])) →
    type_for (pairs_from types base names ++ pairs) a ≡ type_for pairs a
row_for pairs types base names a each = by (is_among names a) refl
  where
    by : (t : Bool) → is_among names a ≡ t → type_for (pairs_from types base names ++ pairs) a ≡ type_for pairs a
    by true e =
        ap (looked a) (env_in types base names pairs [] a e) ∙ ap (λ (ps : List (TypeTree × List ℕ)). type_for ps a) (append-nil (pairs_from types base names))
        ∙ named_types pairs types base names a each e
    by false e = ap (looked a) (env_out types base names pairs a e)

-- a generic type whose parts get slots, and its variables that stand twice slots in common
pub builds_bound : (g g1 h : Graph) (c : List ℕ) (names : List (List ℕ)) (base : ℕ) (parts : List ℕ) (tys : List TypeTree) (cell : Cell) → IsWellFormed g → base ≡ slots g → AddsUnknown g g1 (length names) → ArePairwiseApartBut names tys →
    BuildsAllBound g1 h names base parts tys →
    ((types : ℕ → TypeTree) (t : TypeTree) → CellHolds types t cell ↔ (t ≡ TyApp c (type_list (map types parts)))) → ((i : ℕ) → IsCellIn (slots h) i cell) → generic_weight cell ≡ 0 →
    BuildsInstance g h cell (Generic (TyApp c (type_list tys)))
builds_bound g g1 h c names base parts tys cell w base_is adds apart b is in' plain = record {
  well_formed = b.well_formed;
  extra = adds.grows.extra ++ b.extra;
  cells_are = b.cells_are ∙ ap (λ (xs : List Cell). xs ++ b.extra) adds.grows.cells_are ∙ append_assoc g.cells.items adds.grows.extra b.extra;
  pending_are = b.pending_are ∙ adds.grows.pending_are;
  names_are = b.names_are ∙ adds.names_are;
  cell_in = in';
  smaller =
      let x : generics (adds.grows.extra ++ b.extra) ≡ generics adds.grows.extra + generics b.extra = sum_by-append generic_weight adds.grows.extra b.extra in
      let none = weights_none adds.grows.extra adds.grows.expanded in
      let e = b.sizes in
      omega (arith, x, none, e, plain);
  sound = λ type_of types s.
      let q = b.sound type_of types s in
      let all = all_bound types names base tys (map types parts) apart q.1 in
      ((adds.solves type_of types).0 q.0, λ t holds. (pairs_from types base names ++ all.0, (is types t).0 holds ∙ ap (TyApp c) all.1));
  complete = λ type_of types t s (pairs, e).
      let n1 = adds.slots_are in
      let at = λ (k : ℕ). type_for pairs (get_or names k []) in
      let types1 = put_from types (slots g) at in
      let agree1 : Agree (slots g) types types1 = put_from_agree types (slots g) at in
      let s1 : Solves g1 type_of types1 = (adds.solves type_of types1).1 (solves_agree g type_of types types1 w agree1 s) in
      let y = b.complete type_of types1 pairs s1 in
      let each : (k : ℕ) → k < length names → types1 (base + k) ≡ type_for pairs (get_or names k []) =
      λ k lt. ap (λ (m : ℕ). types1 (m + k)) base_is ∙ put_from_at types (slots g) at k in
      let σ = pairs_from types1 base names ++ pairs in
      let same : type_subst σ (TyApp c (type_list tys)) ≡ type_subst pairs (TyApp c (type_list tys)) =
      subst_same σ pairs (TyApp c (type_list tys)) (λ a m. row_for pairs types1 base names a each) in (
        y.0,
        agree_trans (slots g) (slots g1) types types1 y.0 (omega (arith, n1)) agree1 y.1,
        y.2,
        (is y.0 t).1 (e ∙ sym same ∙ ap (TyApp c) (sym (subst_list σ tys)) ∙ app_ap c (map (type_subst σ) tys) (map y.0 parts) (sym y.3)),
      );
}
