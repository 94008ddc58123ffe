-- Closing over a variable and beta reduction may change places: a turn under a binder is a turn of the body, whose variable is then bound.
use Rattle.std.proofs.Common.{◌≡◌, ℕ, ◌+◌, ◌-◌, ◌<◌, ◌≤◌, List, refl, ap, sym, ◌∙◌, Bool, true, false, cond, nat_lt, ◌==◌, Some, None, arith}
use Rattle.std.proofs.lemmas.Bool.Decides.{nat_tests}
use Rattle.std.specs.Option.{option_map}
use Rattle.hol_types.specs.Tree.{TypeTree}
use Rattle.hol_types.specs.Equal.{variable_eq}
use Rattle.hol_terms.specs.Nameless.{Nameless, free, bound, fixed, app, lam}
use Rattle.hol_subst.specs.Shift.{shift}
use Rattle.hol_subst.specs.Closing.{close, open_with}
use Rattle.hol_subst.proofs.Closing.{below, not_below, below_is, not_below_is, unequal_test, shift_close}
use Rattle.hol_conv.specs.Beta.{reduct}

abbrev Var : Type 0
Var = List ℕ × TypeTree

-- ---- opening
open_index : (v : Var) (x : Nameless) (j k i : ℕ) → open_with (close v k x) j (close v (k + j + 1) (bound i)) ≡ close v (k + j) (open_with x j (bound i))
open_index v x j k i = by (nat_lt i j) refl (i == j) refl
  where
    above : j < i → (i == j) ≡ false → nat_lt i j ≡ false → (a : Bool) → nat_lt i (k + j + 1) ≡ a → open_with (close v k x) j (bound (cond a i (i + 1))) ≡ close v (k + j) (bound (i - 1))
    above h q p true e =
        let low : i < k + j + 1 = below_is i (k + j + 1) e in
        rw (p, q, below (i - 1) (k + j) (omega arith)) refl
    above h q p false e =
        let high : k + j + 1 ≤ i = not_below_is i (k + j + 1) e in
        rw (not_below (i + 1) j (omega arith), unequal_test (i + 1) j (omega arith), not_below (i - 1) (k + j) (omega arith)) (ap bound (omega arith))

    by : (a : Bool) → nat_lt i j ≡ a → (c : Bool) → (i == j) ≡ c → open_with (close v k x) j (close v (k + j + 1) (bound i)) ≡ close v (k + j) (cond a (bound i) (cond c (shift j 0 x) (bound (i - 1))))
    by true p c q = let low : i < j = below_is i j p in rw (below i (k + j + 1) (omega arith), p, below i (k + j) (omega arith)) refl
    by false p true q =
        let same : i ≡ j = grind (arith, nat_tests) in
        rw (below i (k + j + 1) (omega (arith, same)), p, q) (shift_close v j 0 k x (omega arith))
    by false p false q =
        let high : j < i = grind (arith, nat_tests) in
        above high q p (nat_lt i (k + j + 1)) refl

pub open_closing : (v : List ℕ × TypeTree) (x : Nameless) (j k : ℕ) (b : Nameless) → open_with (close v k x) j (close v (k + j + 1) b) ≡ close v (k + j) (open_with x j b)
open_closing v x j k (free w) = by (variable_eq v w)
  where
    by : (c : Bool) → open_with (close v k x) j (cond c (bound (k + j + 1)) (free w)) ≡ cond c (bound (k + j)) (free w)
    by true = rw (not_below (k + j + 1) j (omega arith), unequal_test (k + j + 1) j (omega arith)) (ap bound (omega arith))
    by false = refl
open_closing v x j k (bound i) = open_index v x j k i
open_closing v x j k (fixed c s) = refl
open_closing v x j k (app f y) = λ i. app (open_closing v x j k f i) (open_closing v x j k y i)
open_closing v x j k (lam a s b) =
    let more : k + j + 1 ≡ k + (j + 1) = omega arith in
    ap (lam a s) (ap (λ z. open_with (close v k x) (j + 1) (close v (z + 1) b)) more ∙ open_closing v x (j + 1) k b ∙ ap (λ z. close v z (open_with x (j + 1) b)) (sym more))

-- ---- redexes
pub reduct_close : (v : List ℕ × TypeTree) (k : ℕ) (f x : Nameless) → reduct (close v k f) (close v k x) ≡ option_map (close v k) (reduct f x)
reduct_close v k (free w) x = by (variable_eq v w)
  where
    by : (c : Bool) → reduct (cond c (bound k) (free w)) (close v k x) ≡ None
    by true = refl
    by false = refl
reduct_close v k (bound i) x = refl
reduct_close v k (fixed c s) x = refl
reduct_close v k (app f y) x = refl
reduct_close v k (lam a s b) x =
    let same : k ≡ k + 0 = omega arith in
    ap Some (ap (λ z. open_with (close v k x) 0 (close v (z + 1) b)) same ∙ open_closing v x 0 k b ∙ ap (λ z. close v z (open_with x 0 b)) (sym same))
