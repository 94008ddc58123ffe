-- Closing and opening. The nameless term of an abstraction is the closed one of its body, and opening undoes closing.
use Rattle.std.proofs.Common.{◌≡◌, ℕ, suc, ◌+◌, ◌<◌, ◌≤◌, List, [], ◌∷◌, ◌++◌, length, refl, ap, sym, ◌∙◌, Bool, true, false, cond, nat_lt, ◌==◌, arith}
use Rattle.std.proofs.lemmas.Bool.{or_parts}
use Rattle.std.proofs.lemmas.Bool.Decides.{nat_tests}
use Rattle.hol_types.specs.Tree.{TypeTree}
use Rattle.hol_types.specs.Equal.{variable_eq}
use Rattle.hol_terms.specs.Named.{Named, var, constant, comb, abs}
use Rattle.hol_terms.specs.Nameless.{Nameless, free, bound, fixed, app, lam, base_of, place, nameless, free_occurrences}
use Rattle.hol_terms.specs.Scoped.{binds}
use Rattle.hol_terms.proofs.Same.{variable_eq_decides}
use Rattle.hol_terms.proofs.Occurs.{binds_append}
use Rattle.hol_subst.specs.Shift.{shift}
use Rattle.hol_subst.specs.Closing.{close, open_with, bind}

abbrev Var : Type 0
Var = List ℕ × TypeTree

abbrev Variables : Type 0
Variables = List (List ℕ × TypeTree)

-- ---- tests
pub eq_same : (v : Var) → variable_eq v v ≡ true
eq_same v = (variable_eq_decides v v).1 refl

pub eq_flip : (v w : Var) → variable_eq v w ≡ variable_eq w v
eq_flip v w = by (variable_eq v w) refl (variable_eq w v) refl
  where
    by : (a : Bool) → variable_eq v w ≡ a → (b : Bool) → variable_eq w v ≡ b → variable_eq v w ≡ variable_eq w v
    by true p true q = p ∙ sym q
    by false p false q = p ∙ sym q
    by true p false q = p ∙ sym ((variable_eq_decides w v).1 (sym ((variable_eq_decides v w).0 p)))
    by false p true q = (let z : variable_eq v w ≡ variable_eq w v = (variable_eq_decides v w).1 (sym ((variable_eq_decides w v).0 q)) ∙ sym q in z)

pub below : (i k : ℕ) → i < k → nat_lt i k ≡ true
below i k h = grind (arith, nat_tests)

pub not_below : (i k : ℕ) → k ≤ i → nat_lt i k ≡ false
not_below i k h = grind (arith, nat_tests)

pub below_is : (i k : ℕ) → nat_lt i k ≡ true → i < k
below_is i k h = grind (arith, nat_tests)

pub not_below_is : (i k : ℕ) → nat_lt i k ≡ false → k ≤ i
not_below_is i k h = grind (arith, nat_tests)

pub equal_test : (i k : ℕ) → i ≡ k → (i == k) ≡ true
equal_test i k h = grind (arith, nat_tests)

pub unequal_test : (i k : ℕ) → k < i → (i == k) ≡ false
unequal_test i k h = grind (arith, nat_tests)

-- ---- terms without indices that reach out
abbrev pub IsClosed : ℕ → Nameless → Type 0
IsClosed k (free v) = Unit {0}
IsClosed k (bound i) = i < k
IsClosed k (fixed c s) = Unit {0}
IsClosed k (app f x) = IsClosed k f × IsClosed k x
IsClosed k (lam a s b) = IsClosed (k + 1) b

pub closed_more : (k j : ℕ) (n : Nameless) → k ≤ j → IsClosed k n → IsClosed j n
closed_more k j (free v) h c = tt
closed_more k j (bound i) h c = omega arith
closed_more k j (fixed d s) h c = tt
closed_more k j (app f x) h c = (closed_more k j f h c.0, closed_more k j x h c.1)
closed_more k j (lam a s b) h c = closed_more (k + 1) (j + 1) b (omega arith) c

closed_place : (env : Variables) (i : ℕ) (v : Var) → IsClosed (i + length env) (place env i v)
closed_place [] i v = tt
closed_place (u ∷ env) i v = by (variable_eq u v) (closed_place env (i + 1) v)
  where
    by : (b : Bool) → IsClosed (i + 1 + length env) (place env (i + 1) v) → IsClosed (i + suc (length env)) (cond b (bound i) (place env (i + 1) v))
    by true e = omega arith
    by false e = closed_more (i + 1 + length env) (i + suc (length env)) (place env (i + 1) v) (omega arith) e

closed_under : (env : Variables) (t : Named) → IsClosed (length env) (nameless env t)
closed_under env (var v) = closed_more (0 + length env) (length env) (place env 0 v) (omega arith) (closed_place env 0 v)
closed_under env (constant c s) = tt
closed_under env (comb f x) = (closed_under env f, closed_under env x)
closed_under env (abs v b) = closed_more (length (v ∷ env)) (length env + 1) (nameless (v ∷ env) b) (omega arith) (closed_under (v ∷ env) b)

-- no index of the nameless term of a named one reaches out
pub closed_named : (t : Named) → IsClosed 0 (nameless [] t)
closed_named t = closed_under [] t

pub shift_closed : (m k : ℕ) (n : Nameless) → IsClosed k n → shift m k n ≡ n
shift_closed m k (free v) c = refl
shift_closed m k (bound i) c = rw (below i k c) refl
shift_closed m k (fixed d s) c = refl
shift_closed m k (app f x) c = λ i. app (shift_closed m k f c.0 i) (shift_closed m k x c.1 i)
shift_closed m k (lam a s b) c = ap (lam a s) (shift_closed m (k + 1) b c)

-- the same for a term that is closed however many binders are passed
pub shift_whole : (m k : ℕ) (n : Nameless) → IsClosed 0 n → shift m k n ≡ n
shift_whole m k n c = shift_closed m k n (closed_more 0 k n (omega arith) c)

-- ---- closing
close_place : (env : Variables) (i : ℕ) (v w : Var) → place (env ++ v ∷ []) i w ≡ close v (i + length env) (place env i w)
close_place [] i v w = by (variable_eq v w)
  where
    by : (b : Bool) → cond b (bound i) (free w) ≡ cond b (bound (i + 0)) (free w)
    by true = ap bound (omega arith)
    by false = refl
close_place (u ∷ env) i v w = by (variable_eq u w) (close_place env (i + 1) v w)
  where
    by : (b : Bool) → place (env ++ v ∷ []) (i + 1) w ≡ close v (i + 1 + length env) (place env (i + 1) w) → cond b (bound i) (place (env ++ v ∷ []) (i + 1) w) ≡ close v (i + suc (length env)) (cond b (bound i) (place env (i + 1) w))
    by true e = rw (below i (i + suc (length env)) (omega arith)) refl
    by false e = e ∙ ap (λ k. close v k (place env (i + 1) w)) (omega arith)

pub close_under : (env : Variables) (v : Var) (t : Named) → nameless (env ++ v ∷ []) t ≡ close v (length env) (nameless env t)
close_under env v (var w) = close_place env 0 v w ∙ ap (λ k. close v k (place env 0 w)) (omega arith)
close_under env v (constant c s) = refl
close_under env v (comb f x) = λ i. app (close_under env v f i) (close_under env v x i)
close_under env v (abs w b) = ap (lam (base_of w.0) w.1) (close_under (w ∷ env) v b ∙ ap (λ k. close v k (nameless (w ∷ env) b)) (omega arith))

-- the nameless term of an abstraction is its body's, with the variable bound
pub nameless_abs : (v : List ℕ × TypeTree) (b : Named) → nameless [] (abs v b) ≡ bind v (nameless [] b)
nameless_abs v b = ap (lam (base_of v.0) v.1) (close_under [] v b)

-- closing a term that v is not free in is a shift
pub close_absent : (v : List ℕ × TypeTree) (k : ℕ) (n : Nameless) → binds (free_occurrences n) v ≡ false → close v k n ≡ shift 1 k n
close_absent v k (free w) e = rw (eq_flip v w, (or_parts (variable_eq w v) false e).0) refl
close_absent v k (bound i) e = refl
close_absent v k (fixed c s) e = refl
close_absent v k (app f x) e =
    let p = or_parts _ _ (sym (binds_append (free_occurrences f) (free_occurrences x) v) ∙ e) in
    λ i. app (close_absent v k f p.0 i) (close_absent v k x p.1 i)
close_absent v k (lam a s b) e = ap (lam a s) (close_absent v (k + 1) b e)

-- a closed term of which v is not free stays as it is
pub close_unchanged : (v : List ℕ × TypeTree) (k : ℕ) (n : Nameless) → IsClosed k n → binds (free_occurrences n) v ≡ false → close v k n ≡ n
close_unchanged v k n c e = close_absent v k n e ∙ shift_closed 1 k n c

-- v is not free in a term that was closed over it
pub close_binds : (v : List ℕ × TypeTree) (k : ℕ) (n : Nameless) → binds (free_occurrences (close v k n)) v ≡ false
close_binds v k (free w) = by (variable_eq v w) refl
  where
    by : (b : Bool) → variable_eq v w ≡ b → binds (free_occurrences (cond b (bound k) (free w))) v ≡ false
    by true e = refl
    by false e = rw (eq_flip w v, e) refl
close_binds v k (bound i) = refl
close_binds v k (fixed c s) = refl
close_binds v k (app f x) = binds_append (free_occurrences (close v k f)) (free_occurrences (close v k x)) v ∙ rw (close_binds v k f, close_binds v k x) refl
close_binds v k (lam a s b) = close_binds v (k + 1) b

-- ---- shifting what was closed
pub shift_index : (v : Var) (j m k i : ℕ) → m ≤ k → shift j m (close v k (bound i)) ≡ close v (k + j) (shift j m (bound i))
shift_index v j m k i h = by (nat_lt i k) refl (nat_lt i m) refl
  where
    by : (a : Bool) → nat_lt i k ≡ a → (c : Bool) → nat_lt i m ≡ c → shift j m (bound (cond a i (i + 1))) ≡ close v (k + j) (bound (cond c i (i + j)))
    by true p true q = let low : i < k = below_is i k p in rw (q, below i (k + j) (omega arith)) refl
    by true p false q = let low : i < k = below_is i k p in rw (q, below (i + j) (k + j) (omega arith)) refl
    by false p true q = let high : k ≤ i = not_below_is i k p in let low : i < m = below_is i m q in absurd (omega arith)
    by false p false q =
        let high : k ≤ i = not_below_is i k p in
        rw (not_below (i + 1) m (omega arith), not_below (i + j) (k + j) (omega arith)) (ap bound (omega arith))

pub shift_close : (v : List ℕ × TypeTree) (j m k : ℕ) (n : Nameless) → m ≤ k → shift j m (close v k n) ≡ close v (k + j) (shift j m n)
shift_close v j m k (free w) h = by (variable_eq v w)
  where
    by : (c : Bool) → shift j m (cond c (bound k) (free w)) ≡ cond c (bound (k + j)) (free w)
    by true = rw (not_below k m h) refl
    by false = refl
shift_close v j m k (bound i) h = shift_index v j m k i h
shift_close v j m k (fixed c s) h = refl
shift_close v j m k (app f x) h = λ i. app (shift_close v j m k f h i) (shift_close v j m k x h i)
shift_close v j m k (lam a s b) h =
    let more : k + 1 + j ≡ k + j + 1 = omega arith in
    ap (lam a s) (shift_close v j (m + 1) (k + 1) b (omega arith) ∙ ap (λ z. close v z (shift j (m + 1) b)) more)

-- ---- opening
open_index : (v : Var) (k i : ℕ) → open_with (free v) k (bound (cond (nat_lt i k) i (i + 1))) ≡ bound i
open_index v k i = by (nat_lt i k) refl
  where
    by : (b : Bool) → nat_lt i k ≡ b → open_with (free v) k (bound (cond b i (i + 1))) ≡ bound i
    by true e = rw e refl
    by false e =
        let h : k ≤ i = not_below_is i k e in
        rw (not_below (i + 1) k (omega arith), unequal_test (i + 1) k (omega arith)) (ap bound (omega arith))

-- opening at the variable gives back what was closed
pub open_close : (v : List ℕ × TypeTree) (k : ℕ) (n : Nameless) → open_with (free v) k (close v k n) ≡ n
open_close v k (free w) = by (variable_eq v w) refl
  where
    by : (b : Bool) → variable_eq v w ≡ b → open_with (free v) k (cond b (bound k) (free w)) ≡ free w
    by true e = rw (not_below k k (omega arith), equal_test k k refl) (ap free ((variable_eq_decides v w).0 e))
    by false e = refl
open_close v k (bound i) = open_index v k i
open_close v k (fixed c s) = refl
open_close v k (app f x) = λ i. app (open_close v k f i) (open_close v k x i)
open_close v k (lam a s b) = ap (lam a s) (open_close v (k + 1) b)
