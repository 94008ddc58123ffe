-- The order of types is total, and ties at equal types alone.
use Rattle.std.proofs.Common.{◌≡◌, ◌≢◌, ℕ, ◌+◌, min, List, [], ◌∷◌, refl, sym, ap, ◌∙◌, subst, arith, Bool, true, false, ◌&&◌}
use Rattle.std.specs.Prelude.{bytes_eq, codes}
use Rattle.std.specs.Ordering.{nat_cmp, ordering_then, is_eq}
use Rattle.std.specs.Bool.{Decides}
use Rattle.std.specs.Cmp.{IsTotalOrder, on_total, Equal-is, nat_cmp_is}
use Rattle.std.proofs.lemmas.Bool.{and_parts}
use Rattle.std.proofs.lemmas.Bool.Decides.{nat_tests}
use Rattle.std.specs.Cmp.Lexicographic.{slice_cmp, nat_list_cmp_total}
use Rattle.std.specs.declared.cmp.Ordering.{Ordering}
use Rattle.std.specs.declared.cmp.Ordering.TheVariants.{Less, Equal, Greater}
use Rattle.std.proofs.lemmas.Map.Text.{is_eq-slice_cmp}
use Rattle.std.proofs.lemmas.Slice.Eq.{bytes_eq-Decides}
use Rattle.hol_types.specs.Tree.{TypeTree, TypeList, TyVar, TyApp, no_types, more_types, type_size}
use Rattle.hol_types.specs.Basic.{is_bool}
use Rattle.hol_types.specs.Order.{name_cmp, type_cmp, types_cmp}

pub then_equal : (r s : Ordering) → ordering_then r s ≡ Equal → (r ≡ Equal) × (s ≡ Equal)
then_equal Less s e = absurd (cc)
then_equal Equal s e = (refl, e)
then_equal Greater s e = absurd (cc)

-- whether both of two comparisons tie
pub is_eq_then : (r s : Ordering) → is_eq (ordering_then r s) ≡ (is_eq r && is_eq s)
is_eq_then Less s = refl
is_eq_then Equal s = refl
is_eq_then Greater s = refl

pub name_equal : (a b : List ℕ) → name_cmp a b ≡ Equal → a ≡ b
name_equal a b e = (bytes_eq-Decides a b).0 (sym (is_eq-slice_cmp a b) ∙ ap is_eq e)

pub name_same : (a : List ℕ) → name_cmp a a ≡ Equal
name_same a = (Equal-is (name_cmp a a)).0 (is_eq-slice_cmp a a ∙ (bytes_eq-Decides a a).1 refl)

pub name_tie : (a b : List ℕ) → a ≡ b → Equal ≡ name_cmp a b
name_tie a b e = sym (name_same a) ∙ ap (name_cmp a) e

mutual
  pub type_equal : (s t : TypeTree) → type_cmp s t ≡ Equal → s ≡ t
  type_equal (TyVar a) (TyVar b) e = ap TyVar (name_equal a b e)
  type_equal (TyVar a) (TyApp d us) e = absurd (cc)
  type_equal (TyApp c ts) (TyVar b) e = absurd (cc)
  type_equal (TyApp c ts) (TyApp d us) e =
      let p = then_equal (name_cmp c d) (types_cmp ts us) e in
      λ i. TyApp (name_equal c d p.0 i) (types_equal ts us p.1 i)

  pub types_equal : (ss ts : TypeList) → types_cmp ss ts ≡ Equal → ss ≡ ts
  types_equal no_types no_types e = refl
  types_equal no_types (more_types u us) e = absurd (cc)
  types_equal (more_types t ts) no_types e = absurd (cc)
  types_equal (more_types t ts) (more_types u us) e =
      let p = then_equal (type_cmp t u) (types_cmp ts us) e in
      λ i. more_types (type_equal t u p.0 i) (types_equal ts us p.1 i)

mutual
  pub type_same : (t : TypeTree) → type_cmp t t ≡ Equal
  type_same (TyVar a) = name_same a
  type_same (TyApp c ts) = rw (name_same c) (types_same ts)

  pub types_same : (ts : TypeList) → types_cmp ts ts ≡ Equal
  types_same no_types = refl
  types_same (more_types t ts) = rw (type_same t) (types_same ts)

pub type_cmp_decides : (s t : TypeTree) → Decides (is_eq (type_cmp s t)) (s ≡ t)
type_cmp_decides s t = (λ e. type_equal s t ((Equal-is (type_cmp s t)).0 e), λ e. subst (λ u. is_eq (type_cmp s u) ≡ true) e (ap is_eq (type_same s)))

-- what the order answers of one type twice
pub type_cmp_same : (s t : TypeTree) → s ≡ t → Equal ≡ type_cmp s t
type_cmp_same s t e = sym (type_same s) ∙ ap (type_cmp s) e

-- there is one type of truth values
truth_is : (t : TypeTree) → is_bool t ≡ true → t ≡ TyApp (codes "bool") no_types
truth_is (TyVar a) e = absurd (cc)
truth_is (TyApp c no_types) e = λ i. TyApp ((bytes_eq-Decides c (codes "bool")).0 (and_parts (bytes_eq c (codes "bool")) true e).0 i) no_types
truth_is (TyApp c (more_types t ts)) e = let both : false ≡ true = (and_parts (bytes_eq c (codes "bool")) false e).1 in absurd (cc)

pub truths_same : (s t : TypeTree) → is_bool s ≡ true → is_bool t ≡ true → Equal ≡ type_cmp s t
truths_same s t e f = type_cmp_same s t (truth_is s e ∙ sym (truth_is t f))

-- equal types have one size
pub sizes_differ : (s t : TypeTree) → min (type_size s) 20001 ≢ min (type_size t) 20001 → is_eq (type_cmp s t) ≡ false
sizes_differ s t h = by (is_eq (type_cmp s t)) refl
  where
    by : (b : Bool) → is_eq (type_cmp s t) ≡ b → b ≡ false
    by true e = absurd (h (ap (λ u. min (type_size u) 20001) ((type_cmp_decides s t).0 e)))
    by false e = refl

-- A type as a list of numbers, none of which begins another: the order of types is the order of these lists.
abbrev name_key : List ℕ → List ℕ → List ℕ
name_key [] rest = 0 ∷ rest
name_key (x ∷ xs) rest = (x + 1) ∷ name_key xs rest

abbrev mutual
  type_key : TypeTree → List ℕ → List ℕ
  type_key (TyVar a) rest = 0 ∷ name_key a rest
  type_key (TyApp c ts) rest = 1 ∷ name_key c (types_key ts rest)

  types_key : TypeList → List ℕ → List ℕ
  types_key no_types rest = 0 ∷ rest
  types_key (more_types t ts) rest = 1 ∷ type_key t (types_key ts rest)

pub then_then : (r s t : Ordering) → ordering_then r (ordering_then s t) ≡ ordering_then (ordering_then r s) t
then_then Less s t = refl
then_then Equal s t = refl
then_then Greater s t = refl

pub then_equal_right : (r : Ordering) → ordering_then r Equal ≡ r
then_equal_right Less = refl
then_equal_right Equal = refl
then_equal_right Greater = refl

name_keys : (a b r q : List ℕ) → slice_cmp nat_cmp (name_key a r) (name_key b q) ≡ ordering_then (name_cmp a b) (slice_cmp nat_cmp r q)
name_keys [] [] r q = refl
name_keys [] (y ∷ ys) r q = rw (sym (nat_cmp_is 0 (y + 1) Less (omega arith))) refl
name_keys (x ∷ xs) [] r q = rw (sym (nat_cmp_is (x + 1) 0 Greater (omega arith))) refl
name_keys (x ∷ xs) (y ∷ ys) r q = rw (name_keys xs ys r q, nat_cmp_more x y) (then_then (nat_cmp x y) (name_cmp xs ys) (slice_cmp nat_cmp r q))
  where
    nat_cmp_more : (x y : ℕ) → nat_cmp (x + 1) (y + 1) ≡ nat_cmp x y
    nat_cmp_more x y = grind (arith, nat_tests)

mutual
  type_keys : (s t : TypeTree) (r q : List ℕ) → slice_cmp nat_cmp (type_key s r) (type_key t q) ≡ ordering_then (type_cmp s t) (slice_cmp nat_cmp r q)
  type_keys (TyVar a) (TyVar b) r q = name_keys a b r q
  type_keys (TyVar a) (TyApp d us) r q = refl
  type_keys (TyApp c ts) (TyVar b) r q = refl
  type_keys (TyApp c ts) (TyApp d us) r q = name_keys c d (types_key ts r) (types_key us q) ∙ rw (types_keys ts us r q) (then_then (name_cmp c d) (types_cmp ts us) (slice_cmp nat_cmp r q))

  types_keys : (ts us : TypeList) (r q : List ℕ) → slice_cmp nat_cmp (types_key ts r) (types_key us q) ≡ ordering_then (types_cmp ts us) (slice_cmp nat_cmp r q)
  types_keys no_types no_types r q = refl
  types_keys no_types (more_types u us) r q = refl
  types_keys (more_types t ts) no_types r q = refl
  types_keys (more_types t ts) (more_types u us) r q = type_keys t u (types_key ts r) (types_key us q) ∙ rw (types_keys ts us r q) (then_then (type_cmp t u) (types_cmp ts us) (slice_cmp nat_cmp r q))

pub type_cmp_total : IsTotalOrder type_cmp
type_cmp_total = subst IsTotalOrder (λ i s t. (type_keys s t [] [] ∙ then_equal_right (type_cmp s t)) i) (on_total (λ t. type_key t []) nat_list_cmp_total)
