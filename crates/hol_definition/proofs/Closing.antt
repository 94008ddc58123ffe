-- Binding a fresh variable of what is said of it.
use Rattle.std.specs.Prelude.{◌≡◌, ◌+◌, ℕ, zero, suc, Bool, true, false, cond, List, refl}
use Rattle.std.proofs.Common.{ap, sym, ◌∙◌, arith}
use Rattle.hol_types.specs.Tree.{TypeTree}
use Rattle.hol_types.specs.Equal.{variable_eq}
use Rattle.hol_terms.specs.Nameless.{Nameless, free, bound, fixed, app, lam, free_occurrences}
use Rattle.hol_terms.specs.Scoped.{binds}
use Rattle.hol_subst.specs.Shift.{shift}
use Rattle.hol_subst.specs.Closing.{close, open_with}
use Rattle.hol_subst.proofs.Closing.{below, shift_close, eq_same, close_absent}
use Rattle.hol_subst.proofs.Opening.{close_open}
use Rattle.hol_formulas.specs.Equation.{equation}
use Rattle.hol_formulas.specs.Formula.{universal}
use Rattle.hol_equal.specs.Applied.{range_of}
use Rattle.hol_definition.specs.ForAll.{for_all}

abbrev Var : Type 0
Var = List ℕ × TypeTree

-- ---- what is said of all arguments, bound

bound_first : (v : Var) (k : ℕ) → close v (k + 1) (bound 0) ≡ bound 0
bound_first v k = rw (below 0 (k + 1) (omega arith)) refl

pub for_all_closed : (v : Var) (n k : ℕ) (a : TypeTree) (l r : Nameless) → close v k (for_all n a l r) ≡ for_all n a (close v k l) (close v k r)
for_all_closed v zero k a l r = refl
for_all_closed v (suc n) k a l (lam b s r) =
    let inner : close v (k + 1) (for_all n (range_of a) (app (shift 1 0 l) (bound 0)) r) ≡ for_all n (range_of a) (app (shift 1 0 (close v k l)) (bound 0)) (close v (k + 1) r)
    = for_all_closed v n (k + 1) (range_of a) (app (shift 1 0 l) (bound 0)) r
    ∙ (λ i. for_all n (range_of a) (app (sym (shift_close v 1 0 k l (omega arith)) i) (bound_first v k i)) (close v (k + 1) r)) in
    ap (λ p. universal (record { base = b; domain = s; body = p })) inner
for_all_closed v (suc n) k a l (free w) = by (variable_eq v w)
  where
    by : (t : Bool) → equation a (close v k l) (cond t (bound k) (free w)) ≡ for_all (suc n) a (close v k l) (cond t (bound k) (free w))
    by true = refl
    by false = refl
for_all_closed v (suc n) k a l (bound i) = refl
for_all_closed v (suc n) k a l (fixed c s) = refl
for_all_closed v (suc n) k a l (app f x) = refl

-- Where v is free in neither side: what is said of `l v` and of the body at v, with v bound.
pub bound_over : (v : Var) (n : ℕ) (a : TypeTree) (l r : Nameless) → binds (free_occurrences l) v ≡ false → binds (free_occurrences r) v ≡ false →
    close v 0 (for_all n a (app l (free v)) (open_with (free v) 0 r)) ≡ for_all n a (app (shift 1 0 l) (bound 0)) r
bound_over v n a l r e f =
    for_all_closed v n 0 a (app l (free v)) (open_with (free v) 0 r)
    ∙ (λ i. for_all n a (app (close_absent v 0 l e i) (own i)) (close_open v 0 r f i))
  where
    own : close v 0 (free v) ≡ bound 0
    own = ap (λ t. cond t (bound 0) (free v)) (eq_same v)
