-- Taking out from under binders is the inverse of shifting; both leave the names of bound variables alone.
use Rattle.std.proofs.Common.{◌≡◌, ℕ, ◌+◌, ◌-◌, List, [], refl, sym, ap, ◌∙◌, subst, Bool, true, false, cond, nat_lt, Option, Some, None, arith}
use Rattle.std.specs.Option.{option_map, option_and_then}
use Rattle.hol_types.specs.Tree.{TypeTree}
use Rattle.hol_terms.specs.Nameless.{Nameless, free, bound, fixed, app, lam}
use Rattle.hol_terms.specs.Alpha.{strip}
use Rattle.hol_subst.specs.Shift.{shift}
use Rattle.hol_subst.proofs.Strip.{strip_shift}
use Rattle.hol_match.specs.Lowering.{lowered, lowered_index}

map_then : (f g : Option Nameless) → option_map strip (option_and_then (λ u. option_map (λ y. app u y) g) f) ≡ option_and_then (λ u. option_map (λ y. app u y) (option_map strip g)) (option_map strip f)
map_then None g = refl
map_then (Some u) None = refl
map_then (Some u) (Some y) = refl

map_lam : (a : List ℕ) (s : TypeTree) (b : Option Nameless) → option_map strip (option_map (λ d. lam a s d) b) ≡ option_map (λ d. lam [] s d) (option_map strip b)
map_lam a s None = refl
map_lam a s (Some d) = refl

strip_index : (n k i : ℕ) (b c : Bool) → option_map strip (cond b (Some (bound i)) (cond c None (Some (bound (i - n))))) ≡ cond b (Some (bound i)) (cond c None (Some (bound (i - n))))
strip_index n k i true c = refl
strip_index n k i false true = refl
strip_index n k i false false = refl

strip_lowered : (n k : ℕ) (t : Nameless) → option_map strip (lowered n k t) ≡ lowered n k (strip t)
strip_lowered n k (free v) = refl
strip_lowered n k (bound i) = strip_index n k i (nat_lt i k) (nat_lt i (k + n))
strip_lowered n k (fixed c s) = refl
strip_lowered n k (app f x) = map_then (lowered n k f) (lowered n k x) ∙ (λ i. option_and_then (λ u. option_map (λ y. app u y) (strip_lowered n k x i)) (strip_lowered n k f i))
strip_lowered n k (lam a s b) = map_lam a s (lowered n (k + 1) b) ∙ (λ i. option_map (λ d. lam [] s d) (strip_lowered n (k + 1) b i))

-- put under binders, then taken out
raised_index : (n k i : ℕ) → lowered_index n k (cond (nat_lt i k) i (i + n)) ≡ Some (bound i)
raised_index n k i = by (nat_lt i k) refl
  where
    by : (b : Bool) → nat_lt i k ≡ b → lowered_index n k (cond b i (i + n)) ≡ Some (bound i)
    by true e = rw e refl
    by false e =
        let p : nat_lt (i + n) k ≡ false = grind arith in
        let q : nat_lt (i + n) (k + n) ≡ false = grind arith in
        let r : i + n - n ≡ i = omega arith in
        rw p (rw q (ap (λ j. Some (bound j)) r))

pub lowered_shift : (n k : ℕ) (t : Nameless) → lowered n k (shift n k t) ≡ Some t
lowered_shift n k (free v) = refl
lowered_shift n k (bound i) = raised_index n k i
lowered_shift n k (fixed c s) = refl
lowered_shift n k (app f x) = rw (lowered_shift n k f) (rw (lowered_shift n k x) refl)
lowered_shift n k (lam a s b) = rw (lowered_shift n (k + 1) b) refl

-- taken out, then put under binders
index_lowered : (n k i : ℕ) (u : Nameless) → lowered_index n k i ≡ Some u → shift n k u ≡ bound i
index_lowered n k i u e = by (nat_lt i k) refl (nat_lt i (k + n)) refl e
  where
    by : (b : Bool) → nat_lt i k ≡ b → (c : Bool) → nat_lt i (k + n) ≡ c → cond b (Some (bound i)) (cond c None (Some (bound (i - n)))) ≡ Some u → shift n k u ≡ bound i
    by true p c q h = let g : bound i ≡ u = cc in subst (λ w. shift n k w ≡ bound i) g (rw p refl)
    by false p true q h = absurd (cc)
    by false p false q h =
        let g : bound (i - n) ≡ u = cc in
        let r : nat_lt (i - n) k ≡ false = grind arith in
        let s : i - n + n ≡ i = grind arith in
        subst (λ w. shift n k w ≡ bound i) g (rw r (ap bound s))

shift_lowered : (n k : ℕ) (t u : Nameless) → lowered n k t ≡ Some u → shift n k u ≡ t
shift_lowered n k (free v) u e = let g : free v ≡ u = cc in subst (λ w. shift n k w ≡ free v) g refl
shift_lowered n k (bound i) u e = index_lowered n k i u e
shift_lowered n k (fixed c s) u e = let g : fixed c s ≡ u = cc in subst (λ w. shift n k w ≡ fixed c s) g refl
shift_lowered n k (app f x) u e = by (lowered n k f) refl (lowered n k x) refl (shift_lowered n k f) (shift_lowered n k x) e
  where
    by : (a : Option Nameless) → lowered n k f ≡ a → (b : Option Nameless) → lowered n k x ≡ b → ((w : Nameless) → lowered n k f ≡ Some w → shift n k w ≡ f) → ((w : Nameless) → lowered n k x ≡ Some w → shift n k w ≡ x) → option_and_then (λ g. option_map (λ y. app g y) b) a ≡ Some u → shift n k u ≡ app f x
    by None p b q hf hx h = absurd (cc)
    by (Some g) p None q hf hx h = absurd (cc)
    by (Some g) p (Some y) q hf hx h =
        let w : app g y ≡ u = cc in
        subst (λ z. shift n k z ≡ app f x) w (λ i. app (hf g p i) (hx y q i))
shift_lowered n k (lam a s b) u e = by (lowered n (k + 1) b) refl (shift_lowered n (k + 1) b) e
  where
    by : (o : Option Nameless) → lowered n (k + 1) b ≡ o → ((w : Nameless) → lowered n (k + 1) b ≡ Some w → shift n (k + 1) w ≡ b) → option_map (λ d. lam a s d) o ≡ Some u → shift n k u ≡ lam a s b
    by None p h e = absurd (cc)
    by (Some d) p h e = let w : lam a s d ≡ u = cc in subst (λ z. shift n k z ≡ lam a s b) w (λ i. lam a s (h d p i))

-- ---- a term under k binders, up to bound names

-- what is there is s, put under the binders: then s is what is taken out
pub place_says : (s : Nameless) (k : ℕ) (t u : Nameless) → lowered k 0 t ≡ Some u → strip (shift k 0 s) ≡ strip t → strip s ≡ strip u
place_says s k t u e h =
    let a : lowered k 0 (strip (shift k 0 s)) ≡ Some (strip s) = ap (lowered k 0) (strip_shift k 0 s) ∙ lowered_shift k 0 (strip s) in
    let b : lowered k 0 (strip t) ≡ Some (strip u) = sym (strip_lowered k 0 t) ∙ ap (option_map strip) e in
    let c : Some (strip s) ≡ Some (strip u) = sym a ∙ ap (lowered k 0) h ∙ b in
    cc

pub place_makes : (s : Nameless) (k : ℕ) (t u : Nameless) → lowered k 0 t ≡ Some u → strip s ≡ strip u → strip (shift k 0 s) ≡ strip t
place_makes s k t u e h = strip_shift k 0 s ∙ ap (shift k 0) h ∙ sym (strip_shift k 0 u) ∙ ap strip (shift_lowered k 0 t u e)

-- where nothing can be taken out, nothing put under the binders is there
pub place_none : (s : Nameless) (k : ℕ) (t : Nameless) → lowered k 0 t ≡ None → strip (shift k 0 s) ≡ strip t → ⊥
place_none s k t e h =
    let a : lowered k 0 (strip (shift k 0 s)) ≡ Some (strip s) = ap (lowered k 0) (strip_shift k 0 s) ∙ lowered_shift k 0 (strip s) in
    let b : lowered k 0 (strip t) ≡ None = sym (strip_lowered k 0 t) ∙ ap (option_map strip) e in
    let c : Some (strip s) ≡ None = sym a ∙ ap (lowered k 0) h ∙ b in
    absurd (cc)
