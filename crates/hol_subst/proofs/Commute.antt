-- Substitution under a binder, where the binder's variable may be renamed.
use Rattle.std.proofs.Common.{◌≡◌, ℕ, ◌+◌, List, [], refl, ap, sym, ◌∙◌, Bool, true, false, cond, arith}
use Rattle.std.proofs.lemmas.Bool.{or_left, or_right}
use Rattle.hol_types.specs.Tree.{TypeTree}
use Rattle.hol_types.specs.Equal.{variable_eq}
use Rattle.hol_terms.specs.Nameless.{Nameless, free, bound, fixed, app, lam, free_occurrences}
use Rattle.hol_terms.specs.Scoped.{binds}
use Rattle.hol_terms.proofs.Same.{variable_eq_decides}
use Rattle.hol_terms.proofs.Occurs.{binds_append}
use Rattle.hol_subst.specs.Shift.{shift}
use Rattle.hol_subst.specs.Closing.{close}
use Rattle.hol_subst.specs.Substitution.{term_for, term_subst}
use Rattle.hol_subst.proofs.Closing.{IsClosed, closed_more, shift_whole, close_unchanged, eq_same}

abbrev Var : Type 0
Var = List ℕ × TypeTree

abbrev Pairs : Type 0
Pairs = List (Nameless × (List ℕ × TypeTree))

-- w is free in n
abbrev pub IsFreeIn : List ℕ × TypeTree → Nameless → Type 0
IsFreeIn w n = binds (free_occurrences n) w ≡ true

pub free_left : (w : Var) (f x : Nameless) → IsFreeIn w f → IsFreeIn w (app f x)
free_left w f x h = binds_append (free_occurrences f) (free_occurrences x) w ∙ or_left _ _ h

pub free_right : (w : Var) (f x : Nameless) → IsFreeIn w x → IsFreeIn w (app f x)
free_right w f x h = binds_append (free_occurrences f) (free_occurrences x) w ∙ or_right _ _ h

pub free_itself : (w : Var) → IsFreeIn w (free w)
free_itself w = or_left (variable_eq w w) false (eq_same w)

-- each term that stands for a variable is closed
abbrev pub AllClosed : List (Nameless × (List ℕ × TypeTree)) → Type 0
AllClosed pairs = (w : List ℕ × TypeTree) → IsClosed 0 (term_for pairs w)

-- Renaming v to u in n: the pairs qs give for n's variables what ps give, but u for v, and u is free in nothing that stands for another variable of n.
pub record Renames (v u : List ℕ × TypeTree) (ps qs : List (Nameless × (List ℕ × TypeTree))) (n : Nameless) : Type 0 where
  pub own : term_for qs v ≡ free u
  pub others : (w : List ℕ × TypeTree) → variable_eq v w ≡ false → IsFreeIn w n → term_for qs w ≡ term_for ps w
  pub fresh : (w : List ℕ × TypeTree) → variable_eq v w ≡ false → IsFreeIn w n → binds (free_occurrences (term_for ps w)) u ≡ false

renames_part : (v u : Var) (ps qs : Pairs) (n m : Nameless) → ((w : Var) → IsFreeIn w m → IsFreeIn w n) → Renames v u ps qs n → Renames v u ps qs m
renames_part v u ps qs n m h r = record { own = r.own; others = λ w d f. r.others w d (h w f); fresh = λ w d f. r.fresh w d (h w f) }

-- substitution and closing commute
pub commute : (v u : List ℕ × TypeTree) (ps qs : List (Nameless × (List ℕ × TypeTree))) (k : ℕ) (n : Nameless) → AllClosed ps → IsClosed k n → Renames v u ps qs n → close u k (term_subst qs k n) ≡ term_subst ps (k + 1) (close v k n)
commute v u ps qs k (free w) c d r = by (variable_eq v w) refl
  where
    by : (b : Bool) → variable_eq v w ≡ b → close u k (shift k 0 (term_for qs w)) ≡ term_subst ps (k + 1) (cond b (bound k) (free w))
    by true e =
        let z : term_for qs w ≡ free u = ap (term_for qs) (sym ((variable_eq_decides v w).0 e)) ∙ r.own in
        rw (z, eq_same u) refl
    by false e =
        ap (λ x. close u k (shift k 0 x)) (r.others w e (free_itself w))
        ∙ ap (close u k) (shift_whole k 0 (term_for ps w) (c w))
        ∙ close_unchanged u k (term_for ps w) (closed_more 0 k (term_for ps w) (omega arith) (c w)) (r.fresh w e (free_itself w))
        ∙ sym (shift_whole (k + 1) 0 (term_for ps w) (c w))
commute v u ps qs k (bound i) c d r = refl
commute v u ps qs k (fixed a s) c d r = refl
commute v u ps qs k (app f x) c d r = λ i. app
    (commute v u ps qs k f c d.0 (renames_part v u ps qs (app f x) f (λ w h. free_left w f x h) r) i)
    (commute v u ps qs k x c d.1 (renames_part v u ps qs (app f x) x (λ w h. free_right w f x h) r) i)
commute v u ps qs k (lam a s b) c d r = ap (lam a s) (commute v u ps qs (k + 1) b c d (renames_part v u ps qs (lam a s b) b (λ w h. h) r))

-- pairs that give the same for each variable that is free in a term give the same term
pub subst_agree : (ps qs : List (Nameless × (List ℕ × TypeTree))) (k : ℕ) (n : Nameless) → ((w : List ℕ × TypeTree) → IsFreeIn w n → term_for ps w ≡ term_for qs w) → term_subst ps k n ≡ term_subst qs k n
subst_agree ps qs k (free w) h = ap (shift k 0) (h w (free_itself w))
subst_agree ps qs k (bound i) h = refl
subst_agree ps qs k (fixed a s) h = refl
subst_agree ps qs k (app f x) h = λ i. app
    (subst_agree ps qs k f (λ w g. h w (free_left w f x g)) i)
    (subst_agree ps qs k x (λ w g. h w (free_right w f x g)) i)
subst_agree ps qs k (lam a s b) h = ap (lam a s) (subst_agree ps qs (k + 1) b h)

-- without pairs nothing is substituted
pub subst_nothing : (k : ℕ) (n : Nameless) → term_subst [] k n ≡ n
subst_nothing k (free v) = refl
subst_nothing k (bound i) = refl
subst_nothing k (fixed c s) = refl
subst_nothing k (app f x) = λ i. app (subst_nothing k f i) (subst_nothing k x i)
subst_nothing k (lam a s b) = ap (lam a s) (subst_nothing (k + 1) b)
