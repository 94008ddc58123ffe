-- Opening an abstraction's body with a variable that is not free in it, and what substitution, closing and opening make of that.
use Rattle.std.proofs.Common.{◌≡◌, ℕ, ◌+◌, ◌-◌, ◌<◌, ◌≤◌, List, [], ◌∷◌, refl, ap, sym, ◌∙◌, Bool, true, false, cond, nat_lt, ◌==◌, Some, None, unwrap_or, arith}
use Rattle.std.proofs.lemmas.Bool.{or_parts}
use Rattle.std.proofs.lemmas.Bool.Decides.{nat_tests}
use Rattle.hol_types.specs.Tree.{TypeTree}
use Rattle.hol_types.specs.Equal.{variable_eq}
use Rattle.hol_terms.specs.Nameless.{Nameless, free, bound, fixed, app, lam, free_occurrences}
use Rattle.hol_terms.specs.Scoped.{binds}
use Rattle.hol_terms.proofs.Occurs.{binds_append}
use Rattle.hol_subst.specs.Shift.{shift}
use Rattle.hol_subst.specs.Closing.{close, open_with}
use Rattle.hol_subst.specs.Substitution.{term_subst}
use Rattle.hol_subst.proofs.Closing.{eq_same, eq_flip, not_below, not_below_is, equal_test, unequal_test}

abbrev Var : Type 0
Var = List ℕ × TypeTree

-- neither part has the variable
parts_without : (v : Var) (f x : Nameless) → binds (free_occurrences (app f x)) v ≡ false → (binds (free_occurrences f) v ≡ false) × (binds (free_occurrences x) v ≡ false)
parts_without v f x e = or_parts _ _ (sym (binds_append (free_occurrences f) (free_occurrences x) v) ∙ e)

other_free : (v w : Var) → binds (free_occurrences (free w)) v ≡ false → variable_eq v w ≡ false
other_free v w e = eq_flip v w ∙ (or_parts (variable_eq w v) false e).0

subst_index : (v : Var) (t : Nameless) (k i : ℕ) → term_subst ((t, v) ∷ []) k (open_with (free v) k (bound i)) ≡ open_with t k (bound i)
subst_index v t k i = by (nat_lt i k) (i == k)
  where
    by : (a b : Bool) → term_subst ((t, v) ∷ []) k (cond a (bound i) (cond b (free v) (bound (i - 1)))) ≡ cond a (bound i) (cond b (shift k 0 t) (bound (i - 1)))
    by true b = refl
    by false true = rw (eq_same v) refl
    by false false = refl

-- substituting for the variable in an opened body is opening with the term
pub open_subst : (v : List ℕ × TypeTree) (t : Nameless) (k : ℕ) (n : Nameless) → binds (free_occurrences n) v ≡ false → term_subst ((t, v) ∷ []) k (open_with (free v) k n) ≡ open_with t k n
open_subst v t k (free w) e = rw (other_free v w e) refl
open_subst v t k (bound i) e = subst_index v t k i
open_subst v t k (fixed c s) e = refl
open_subst v t k (app f x) e = let p = parts_without v f x e in λ i. app (open_subst v t k f p.0 i) (open_subst v t k x p.1 i)
open_subst v t k (lam a s b) e = ap (lam a s) (open_subst v t (k + 1) b e)

close_index : (v : Var) (k i : ℕ) → close v k (open_with (free v) k (bound i)) ≡ bound i
close_index v k i = by (nat_lt i k) refl (i == k) refl
  where
    by : (a : Bool) → nat_lt i k ≡ a → (b : Bool) → (i == k) ≡ b → close v k (cond a (bound i) (cond b (free v) (bound (i - 1)))) ≡ bound i
    by true p b q = rw p refl
    by false p true q = let same : i ≡ k = grind (arith, nat_tests) in rw (eq_same v) (ap bound (sym same))
    by false p false q =
        let above : k < i = grind (arith, nat_tests) in
        rw (not_below (i - 1) k (omega arith)) (ap bound (omega arith))

-- closing an opened body gives the body back
pub close_open : (v : List ℕ × TypeTree) (k : ℕ) (n : Nameless) → binds (free_occurrences n) v ≡ false → close v k (open_with (free v) k n) ≡ n
close_open v k (free w) e = rw (other_free v w e) refl
close_open v k (bound i) e = close_index v k i
close_open v k (fixed c s) e = refl
close_open v k (app f x) e = let p = parts_without v f x e in λ i. app (close_open v k f p.0 i) (close_open v k x p.1 i)
close_open v k (lam a s b) e = ap (lam a s) (close_open v (k + 1) b e)

open_closed_index : (t : Nameless) (k i : ℕ) → open_with t k (bound (cond (nat_lt i k) i (i + 1))) ≡ bound i
open_closed_index t k i = by (nat_lt i k) refl
  where
    by : (b : Bool) → nat_lt i k ≡ b → open_with t k (bound (cond b i (i + 1))) ≡ bound i
    by true e = rw e refl
    by false e =
        let h : k ≤ i = not_below_is i k e in
        rw (not_below (i + 1) k (omega arith), unequal_test (i + 1) k (omega arith)) (ap bound (omega arith))

-- opening a closed body is substituting for the variable
pub open_close_subst : (v : List ℕ × TypeTree) (t : Nameless) (k : ℕ) (n : Nameless) → open_with t k (close v k n) ≡ term_subst ((t, v) ∷ []) k n
open_close_subst v t k (free w) = by (variable_eq v w)
  where
    by : (b : Bool) → open_with t k (cond b (bound k) (free w)) ≡ shift k 0 (unwrap_or (cond b (Some t) None) (free w))
    by true = rw (not_below k k (omega arith), equal_test k k refl) refl
    by false = refl
open_close_subst v t k (bound i) = open_closed_index t k i
open_close_subst v t k (fixed c s) = refl
open_close_subst v t k (app f x) = λ i. app (open_close_subst v t k f i) (open_close_subst v t k x i)
open_close_subst v t k (lam a s b) = ap (lam a s) (open_close_subst v t (k + 1) b)
