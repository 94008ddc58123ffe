-- Shifting, closing, opening and substitution of terms that are taken up to bound names.
use Rattle.std.proofs.Common.{◌≡◌, ℕ, ◌+◌, ◌-◌, List, [], ◌∷◌, map, refl, ap, sym, ◌∙◌, Bool, true, false, cond, nat_lt, ◌==◌, Some, unwrap_or}
use Rattle.hol_types.specs.Tree.{TypeTree}
use Rattle.hol_types.specs.Subst.{type_subst}
use Rattle.hol_types.specs.Equal.{variable_eq}
use Rattle.hol_terms.specs.Nameless.{Nameless, free, bound, fixed, app, lam, free_occurrences}
use Rattle.hol_terms.specs.Alpha.{strip}
use Rattle.hol_subst.specs.Shift.{shift}
use Rattle.hol_subst.specs.Closing.{close, open_with}
use Rattle.hol_subst.specs.Substitution.{term_lookup, term_for, term_subst, types_inst}

pub strip_shift : (m k : ℕ) (n : Nameless) → strip (shift m k n) ≡ shift m k (strip n)
strip_shift m k (free v) = refl
strip_shift m k (bound i) = refl
strip_shift m k (fixed c s) = refl
strip_shift m k (app f x) = λ i. app (strip_shift m k f i) (strip_shift m k x i)
strip_shift m k (lam a s b) = ap (lam [] s) (strip_shift m (k + 1) b)

pub strip_close : (v : List ℕ × TypeTree) (k : ℕ) (n : Nameless) → strip (close v k n) ≡ close v k (strip n)
strip_close v k (free w) = by (variable_eq v w)
  where
    by : (b : Bool) → strip (cond b (bound k) (free w)) ≡ cond b (bound k) (free w)
    by true = refl
    by false = refl
strip_close v k (bound i) = refl
strip_close v k (fixed c s) = refl
strip_close v k (app f x) = λ i. app (strip_close v k f i) (strip_close v k x i)
strip_close v k (lam a s b) = ap (lam [] s) (strip_close v (k + 1) b)

pub strip_open : (r : Nameless) (k : ℕ) (n : Nameless) → strip (open_with r k n) ≡ open_with (strip r) k (strip n)
strip_open r k (free w) = refl
strip_open r k (bound i) = by (nat_lt i k) (i == k)
  where
    by : (a b : Bool) → strip (cond a (bound i) (cond b (shift k 0 r) (bound (i - 1)))) ≡ cond a (bound i) (cond b (shift k 0 (strip r)) (bound (i - 1)))
    by true b = refl
    by false true = strip_shift k 0 r
    by false false = refl
strip_open r k (fixed c s) = refl
strip_open r k (app f x) = λ i. app (strip_open r k f i) (strip_open r k x i)
strip_open r k (lam a s b) = ap (lam [] s) (strip_open r (k + 1) b)

-- the pairs with their terms up to bound names
abbrev pub strip_pairs : List (Nameless × (List ℕ × TypeTree)) → List (Nameless × (List ℕ × TypeTree))
strip_pairs pairs = map (λ p. (strip p.0, p.1)) pairs

pub strip_for : (pairs : List (Nameless × (List ℕ × TypeTree))) (v : List ℕ × TypeTree) → strip (term_for pairs v) ≡ term_for (strip_pairs pairs) v
strip_for [] v = refl
strip_for (p ∷ pairs) v = by (variable_eq p.1 v) (strip_for pairs v)
  where
    by : (b : Bool) → strip (term_for pairs v) ≡ term_for (strip_pairs pairs) v → strip (unwrap_or (cond b (Some p.0) (term_lookup pairs v)) (free v)) ≡ unwrap_or (cond b (Some (strip p.0)) (term_lookup (strip_pairs pairs) v)) (free v)
    by true r = refl
    by false r = r

pub strip_subst : (pairs : List (Nameless × (List ℕ × TypeTree))) (k : ℕ) (n : Nameless) → strip (term_subst pairs k n) ≡ term_subst (strip_pairs pairs) k (strip n)
strip_subst pairs k (free v) = strip_shift k 0 (term_for pairs v) ∙ ap (shift k 0) (strip_for pairs v)
strip_subst pairs k (bound i) = refl
strip_subst pairs k (fixed c s) = refl
strip_subst pairs k (app f x) = λ i. app (strip_subst pairs k f i) (strip_subst pairs k x i)
strip_subst pairs k (lam a s b) = ap (lam [] s) (strip_subst pairs (k + 1) b)

-- substitution respects bound names
pub subst_alpha : (pairs : List (Nameless × (List ℕ × TypeTree))) (k : ℕ) (m n : Nameless) → strip m ≡ strip n → strip (term_subst pairs k m) ≡ strip (term_subst pairs k n)
subst_alpha pairs k m n e = strip_subst pairs k m ∙ ap (term_subst (strip_pairs pairs) k) e ∙ sym (strip_subst pairs k n)

pub strip_inst : (pairs : List (TypeTree × List ℕ)) (n : Nameless) → strip (types_inst pairs n) ≡ types_inst pairs (strip n)
strip_inst pairs (free v) = refl
strip_inst pairs (bound i) = refl
strip_inst pairs (fixed c s) = refl
strip_inst pairs (app f x) = λ i. app (strip_inst pairs f i) (strip_inst pairs x i)
strip_inst pairs (lam a s b) = ap (lam [] (type_subst pairs s)) (strip_inst pairs b)

-- type instantiation respects bound names
pub inst_alpha : (pairs : List (TypeTree × List ℕ)) (m n : Nameless) → strip m ≡ strip n → strip (types_inst pairs m) ≡ strip (types_inst pairs n)
inst_alpha pairs m n e = strip_inst pairs m ∙ ap (types_inst pairs) e ∙ sym (strip_inst pairs n)

-- the free variables are those up to bound names
pub strip_free : (n : Nameless) → free_occurrences (strip n) ≡ free_occurrences n
strip_free (free v) = refl
strip_free (bound i) = refl
strip_free (fixed c s) = refl
strip_free (app f x) = rw (strip_free f, strip_free x) refl
strip_free (lam a s b) = strip_free b
