-- One substitution after another is one substitution, and a term stays in which none of the variables is free.
use Rattle.std.proofs.Common.{◌≡◌, ℕ, ◌+◌, ◌<◌, ◌≤◌, List, [], ◌∷◌, refl, ap, sym, ◌∙◌, Bool, true, false, cond, nat_lt, Some, unwrap_or, arith}
use Rattle.hol_types.specs.Tree.{TypeTree}
use Rattle.hol_types.specs.Equal.{variable_eq}
use Rattle.hol_types.specs.Subst.{types_composed}
use Rattle.hol_types.proofs.SubstLaws.{type_subst_composed, type_untouched}
use Rattle.hol_terms.specs.Nameless.{Nameless, free, bound, fixed, app, lam}
use Rattle.hol_subst.specs.Shift.{shift}
use Rattle.hol_subst.specs.Substitution.{term_lookup, term_for, term_subst, types_inst}
use Rattle.hol_subst.specs.Laws.{terms_composed, IsUntouched, TypesUntouched}
use Rattle.hol_subst.proofs.Closing.{below, not_below, not_below_is, below_is}
use Rattle.hol_subst.proofs.Commute.{subst_agree, subst_nothing}

abbrev Var : Type 0
Var = List ℕ × TypeTree

abbrev Pairs : Type 0
Pairs = List (Nameless × (List ℕ × TypeTree))

-- ---- shifting
pub shift_nothing : (k : ℕ) (n : Nameless) → shift 0 k n ≡ n
shift_nothing k (free v) = refl
shift_nothing k (bound i) = by (nat_lt i k)
  where
    by : (b : Bool) → bound (cond b i (i + 0)) ≡ bound i
    by true = refl
    by false = ap bound (omega arith)
shift_nothing k (fixed c s) = refl
shift_nothing k (app f x) = λ i. app (shift_nothing k f i) (shift_nothing k x i)
shift_nothing k (lam a s b) = ap (lam a s) (shift_nothing (k + 1) b)

-- under j binders, and then under k more
pub shift_again : (j k c d : ℕ) (n : Nameless) → c ≤ d → d ≤ c + j → shift k d (shift j c n) ≡ shift (j + k) c n
shift_again j k c d (free v) h l = refl
shift_again j k c d (bound i) h l = by (nat_lt i c) refl
  where
    by : (b : Bool) → nat_lt i c ≡ b → shift k d (bound (cond b i (i + j))) ≡ bound (cond b i (i + (j + k)))
    by true e = let low : i < c = below_is i c e in rw (below i d (omega arith)) refl
    by false e = let high : c ≤ i = not_below_is i c e in rw (not_below (i + j) d (omega arith)) (ap bound (omega arith))
shift_again j k c d (fixed a s) h l = refl
shift_again j k c d (app f x) h l = λ i. app (shift_again j k c d f h l i) (shift_again j k c d x h l i)
shift_again j k c d (lam a s b) h l = ap (lam a s) (shift_again j k (c + 1) (d + 1) b (omega arith) (omega arith))

-- substitution in a term that was put under k binders, j of its own being passed
pub subst_shift : (ps : List (Nameless × (List ℕ × TypeTree))) (j k : ℕ) (n : Nameless) → term_subst ps (j + k) (shift k j n) ≡ shift k j (term_subst ps j n)
subst_shift ps j k (free v) = sym (shift_again j k 0 j (term_for ps v) (omega arith) (omega arith))
subst_shift ps j k (bound i) = refl
subst_shift ps j k (fixed c s) = refl
subst_shift ps j k (app f x) = λ i. app (subst_shift ps j k f i) (subst_shift ps j k x i)
subst_shift ps j k (lam a s b) =
    let more : j + k + 1 ≡ j + 1 + k = omega arith in
    ap (lam a s) (ap (λ m. term_subst ps m (shift k (j + 1) b)) more ∙ subst_shift ps (j + 1) k b)

-- ---- terms
composed_for : (ps qs : Pairs) (v : Var) → term_subst ps 0 (term_for qs v) ≡ term_for (terms_composed ps qs) v
composed_for ps [] v = shift_nothing 0 (term_for ps v)
composed_for ps (q ∷ qs) v = by (variable_eq q.1 v) (composed_for ps qs v)
  where
    by : (b : Bool) → term_subst ps 0 (term_for qs v) ≡ term_for (terms_composed ps qs) v → term_subst ps 0 (unwrap_or (cond b (Some q.0) (term_lookup qs v)) (free v)) ≡ unwrap_or (cond b (Some (term_subst ps 0 q.0)) (term_lookup (terms_composed ps qs) v)) (free v)
    by true e = refl
    by false e = e

pub subst_composed : (ps qs : List (Nameless × (List ℕ × TypeTree))) (k : ℕ) (n : Nameless) → term_subst ps k (term_subst qs k n) ≡ term_subst (terms_composed ps qs) k n
subst_composed ps qs k (free v) = ap (λ m. term_subst ps m (shift k 0 (term_for qs v))) (omega arith) ∙ subst_shift ps 0 k (term_for qs v) ∙ ap (shift k 0) (composed_for ps qs v)
subst_composed ps qs k (bound i) = refl
subst_composed ps qs k (fixed c s) = refl
subst_composed ps qs k (app f x) = λ i. app (subst_composed ps qs k f i) (subst_composed ps qs k x i)
subst_composed ps qs k (lam a s b) = ap (lam a s) (subst_composed ps qs (k + 1) b)

pub subst_untouched : (pairs : List (Nameless × (List ℕ × TypeTree))) (k : ℕ) (n : Nameless) → IsUntouched pairs n → term_subst pairs k n ≡ n
subst_untouched pairs k n h = subst_agree pairs [] k n (λ w f. ap (λ o. unwrap_or o (free w)) (h w f)) ∙ subst_nothing k n

-- ---- types
pub inst_composed : (ps qs : List (TypeTree × List ℕ)) (n : Nameless) → types_inst ps (types_inst qs n) ≡ types_inst (types_composed ps qs) n
inst_composed ps qs (free v) = ap (λ s. free (v.0, s)) (type_subst_composed ps qs v.1)
inst_composed ps qs (bound i) = refl
inst_composed ps qs (fixed c s) = ap (fixed c) (type_subst_composed ps qs s)
inst_composed ps qs (app f x) = λ i. app (inst_composed ps qs f i) (inst_composed ps qs x i)
inst_composed ps qs (lam a s b) = λ i. lam a (type_subst_composed ps qs s i) (inst_composed ps qs b i)

pub inst_untouched : (pairs : List (TypeTree × List ℕ)) (n : Nameless) → TypesUntouched pairs n → types_inst pairs n ≡ n
inst_untouched pairs (free v) h = ap (λ s. free (v.0, s)) (type_untouched pairs v.1 h)
inst_untouched pairs (bound i) h = refl
inst_untouched pairs (fixed c s) h = ap (fixed c) (type_untouched pairs s h)
inst_untouched pairs (app f x) h = λ i. app (inst_untouched pairs f h.0 i) (inst_untouched pairs x h.1 i)
inst_untouched pairs (lam a s b) h = λ i. lam a (type_untouched pairs s h.0 i) (inst_untouched pairs b h.1 i)
