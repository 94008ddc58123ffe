-- The order of terms is that of their codes, so it is total and ties at equal terms alone.
use Rattle.std.proofs.Common.{◌≡◌, ℕ, List, [], ◌∷◌, refl, ap, ◌∙◌, subst}
use Rattle.std.specs.Ordering.{nat_cmp, ordering_then}
use Rattle.std.specs.Cmp.{IsTotalOrder}
use Rattle.std.specs.Cmp.Lexicographic.{slice_cmp}
use Rattle.std.specs.FinSet.{IsAntisymmetric}
use Rattle.std.specs.declared.cmp.Ordering.{Ordering}
use Rattle.hol_types.specs.Tree.{TypeTree, TypeList, TyVar, TyApp, no_types, more_types}
use Rattle.hol_types.specs.Code.{name_code, type_code, types_code}
use Rattle.hol_types.specs.Order.{name_cmp, type_cmp, types_cmp}
use Rattle.hol_types.proofs.OrderLaws.{then_then, then_equal_right}
use Rattle.hol_terms.specs.Nameless.{Nameless, free, bound, fixed, app, lam}
use Rattle.hol_terms.specs.Code.{coded_nameless, nameless_code}
use Rattle.hol_subst.specs.AlphaOrder.{nameless_cmp}
use Rattle.hol_subst.specs.CodeOrder.{flat, coded_cmp, coded_total, coded_same}

-- two rows of numbers
abbrev pub rows_cmp : List ℕ → List ℕ → Ordering
rows_cmp r q = slice_cmp nat_cmp r q

pub name_rows : (a b r q : List ℕ) → rows_cmp (flat (name_code a) r) (flat (name_code b) q) ≡ ordering_then (name_cmp a b) (rows_cmp r q)
name_rows [] [] r q = refl
name_rows [] (y ∷ ys) r q = refl
name_rows (x ∷ xs) [] r q = refl
name_rows (x ∷ xs) (y ∷ ys) r q = ap (ordering_then (nat_cmp x y)) (name_rows xs ys r q) ∙ then_then (nat_cmp x y) (name_cmp xs ys) (rows_cmp r q)

mutual
  type_rows : (s t : TypeTree) (r q : List ℕ) → rows_cmp (flat (type_code s) r) (flat (type_code t) q) ≡ ordering_then (type_cmp s t) (rows_cmp r q)
  type_rows (TyVar a) (TyVar b) r q = name_rows a b r q
  type_rows (TyVar a) (TyApp d us) r q = refl
  type_rows (TyApp c ts) (TyVar b) r q = refl
  type_rows (TyApp c ts) (TyApp d us) r q =
      name_rows c d (flat (types_code ts) r) (flat (types_code us) q) ∙ ap (ordering_then (name_cmp c d)) (types_rows ts us r q)
      ∙ then_then (name_cmp c d) (types_cmp ts us) (rows_cmp r q)

  types_rows : (ts us : TypeList) (r q : List ℕ) → rows_cmp (flat (types_code ts) r) (flat (types_code us) q) ≡ ordering_then (types_cmp ts us) (rows_cmp r q)
  types_rows no_types no_types r q = refl
  types_rows no_types (more_types u us) r q = refl
  types_rows (more_types t ts) no_types r q = refl
  types_rows (more_types t ts) (more_types u us) r q =
      type_rows t u (flat (types_code ts) r) (flat (types_code us) q) ∙ ap (ordering_then (type_cmp t u)) (types_rows ts us r q)
      ∙ then_then (type_cmp t u) (types_cmp ts us) (rows_cmp r q)

-- a name and a type
pair_rows : (a b : List ℕ) (s t : TypeTree) (r q : List ℕ) → rows_cmp (flat (name_code a) (flat (type_code s) r)) (flat (name_code b) (flat (type_code t) q)) ≡ ordering_then (ordering_then (name_cmp a b) (type_cmp s t)) (rows_cmp r q)
pair_rows a b s t r q =
    name_rows a b (flat (type_code s) r) (flat (type_code t) q) ∙ ap (ordering_then (name_cmp a b)) (type_rows s t r q)
    ∙ then_then (name_cmp a b) (type_cmp s t) (rows_cmp r q)

nameless_rows : (m n : Nameless) (r q : List ℕ) → rows_cmp (flat (nameless_code m) r) (flat (nameless_code n) q) ≡ ordering_then (nameless_cmp m n) (rows_cmp r q)
nameless_rows (fixed c s) (fixed d t) r q = pair_rows c d s t r q
nameless_rows (fixed c s) (bound j) r q = refl
nameless_rows (fixed c s) (free w) r q = refl
nameless_rows (fixed c s) (app g y) r q = refl
nameless_rows (fixed c s) (lam e t d) r q = refl
nameless_rows (bound i) (fixed d t) r q = refl
nameless_rows (bound i) (bound j) r q = refl
nameless_rows (bound i) (free w) r q = refl
nameless_rows (bound i) (app g y) r q = refl
nameless_rows (bound i) (lam e t d) r q = refl
nameless_rows (free v) (fixed d t) r q = refl
nameless_rows (free v) (bound j) r q = refl
nameless_rows (free v) (free w) r q = pair_rows v.0 w.0 v.1 w.1 r q
nameless_rows (free v) (app g y) r q = refl
nameless_rows (free v) (lam e t d) r q = refl
nameless_rows (app f x) (fixed d t) r q = refl
nameless_rows (app f x) (bound j) r q = refl
nameless_rows (app f x) (free w) r q = refl
nameless_rows (app f x) (app g y) r q =
    nameless_rows f g (flat (nameless_code x) r) (flat (nameless_code y) q) ∙ ap (ordering_then (nameless_cmp f g)) (nameless_rows x y r q)
    ∙ then_then (nameless_cmp f g) (nameless_cmp x y) (rows_cmp r q)
nameless_rows (app f x) (lam e t d) r q = refl
nameless_rows (lam a s b) (fixed d t) r q = refl
nameless_rows (lam a s b) (bound j) r q = refl
nameless_rows (lam a s b) (free w) r q = refl
nameless_rows (lam a s b) (app g y) r q = refl
nameless_rows (lam a s b) (lam e t d) r q =
    type_rows s t (2 ∷ flat (nameless_code b) (flat (name_code a) r)) (2 ∷ flat (nameless_code d) (flat (name_code e) q))
    ∙ ap (ordering_then (type_cmp s t)) (nameless_rows b d (flat (name_code a) r) (flat (name_code e) q))
    ∙ ap (λ o. ordering_then (type_cmp s t) (ordering_then (nameless_cmp b d) o)) (name_rows a e r q)
    ∙ ap (ordering_then (type_cmp s t)) (then_then (nameless_cmp b d) (name_cmp a e) (rows_cmp r q))
    ∙ then_then (type_cmp s t) (ordering_then (nameless_cmp b d) (name_cmp a e)) (rows_cmp r q)

pub code_order : (m n : Nameless) → coded_cmp coded_nameless m n ≡ nameless_cmp m n
code_order m n = nameless_rows m n [] [] ∙ then_equal_right (nameless_cmp m n)

pub nameless_total : IsTotalOrder nameless_cmp
nameless_total = subst IsTotalOrder (λ i m n. code_order m n i) (coded_total coded_nameless)

pub nameless_same : IsAntisymmetric nameless_cmp
nameless_same m n e = coded_same coded_nameless m n (code_order m n ∙ e)
