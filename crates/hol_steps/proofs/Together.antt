-- Quantifiers taken off without a substitution for each: what is left is what stands under them, with the new variables for theirs in one.
use Rattle.std.specs.Prelude.{◌≡◌, ℕ, ◌+◌, ◌<◌, cond, Bool, true, false, List, [], ◌∷◌, codes, Option, Some, None, refl, unwrap_or}
use Rattle.std.proofs.Common.{ap, sym, ◌∙◌, subst, inl, inr, arith}
use Rattle.hol_types.specs.Tree.{TypeTree}
use Rattle.hol_types.specs.Equal.{variable_eq}
use Rattle.hol_terms.specs.Named.{Named, var, named_type}
use Rattle.hol_terms.specs.Nameless.{Nameless, free, bound, fixed, app, lam, nameless, nameless_type, base_of}
use Rattle.hol_terms.proofs.Same.{variable_eq_decides}
use Rattle.hol_terms.proofs.Typing.{type_outside}
use Rattle.hol_subst.specs.Closing.{close, open_with}
use Rattle.hol_subst.specs.Shift.{shift}
use Rattle.hol_subst.specs.Substitution.{term_lookup, term_for, term_subst}
use Rattle.hol_subst.specs.Pairs.{nameless_pairs, HasBadPair}
use Rattle.hol_subst.proofs.Closing.{close_under, open_close, not_below, equal_test}
use Rattle.hol_subst.proofs.Opening.{open_close_subst}
use Rattle.hol_subst.proofs.Typing.{AllTyped, subst_type}
use Rattle.hol_formulas.specs.Equation.{bool_type}
use Rattle.hol_formulas.specs.Formula.{Abstraction, quantifier_type, is_constant, dest_forall}
use Rattle.hol_match.specs.Rules.{nodes}
use Rattle.hol_just.proofs.MatchOpened.{fewer}
use Rattle.hol_steps.specs.Fresh.{abstraction_of}

abbrev Pairs : Type 0
Pairs = List (Nameless × (List ℕ × TypeTree))

-- a variable of each one's type
abbrev pub AreVariables : List (Nameless × (List ℕ × TypeTree)) → Type 0
AreVariables [] = Unit {0}
AreVariables (p ∷ ps) = ((u : List ℕ × TypeTree) × ((p.0 ≡ free u) × (u.1 ≡ p.1.1))) × AreVariables ps

-- what stands for the variable is one of its type
stands_for : (ps : Pairs) (w : List ℕ × TypeTree) → AreVariables ps → (u : List ℕ × TypeTree) × ((term_for ps w ≡ free u) × (u.1 ≡ w.1))
stands_for [] w h = (w, (refl, refl))
stands_for (p ∷ ps) w h = by (variable_eq p.1 w) refl (stands_for ps w h.1)
  where
    by : (b : Bool) → variable_eq p.1 w ≡ b → ((u : List ℕ × TypeTree) × ((term_for ps w ≡ free u) × (u.1 ≡ w.1))) → (u : List ℕ × TypeTree) × ((unwrap_or (cond b (Some p.0) (term_lookup ps w)) (free w) ≡ free u) × (u.1 ≡ w.1))
    by true e k = (h.0.0, (h.0.1.0, h.0.1.1 ∙ ap (λ (z : List ℕ × TypeTree). z.1) ((variable_eq_decides p.1 w).0 e)))
    by false e k = k

all_typed : (ps : Pairs) → AreVariables ps → AllTyped ps
all_typed ps h = λ w. let s = stands_for ps w h in ap (nameless_type []) s.1.0 ∙ ap Some s.1.1

-- ---- one variable more

together : (v x : List ℕ × TypeTree) (ps : Pairs) (k : ℕ) (n : Nameless) → AreVariables ps → open_with (free v) k (term_subst ps (k + 1) (close x k n)) ≡ term_subst ((free v, x) ∷ ps) k n
together v x ps k (free w) h = by (variable_eq x w) (stands_for ps w h)
  where
    by : (b : Bool) → ((u : List ℕ × TypeTree) × ((term_for ps w ≡ free u) × (u.1 ≡ w.1))) → open_with (free v) k (term_subst ps (k + 1) (cond b (bound k) (free w))) ≡ shift k 0 (unwrap_or (cond b (Some (free v)) (term_lookup ps w)) (free w))
    by true s = rw (not_below k k (omega arith), equal_test k k refl) refl
    by false s = ap (λ t. open_with (free v) k (shift (k + 1) 0 t)) s.1.0 ∙ ap (shift k 0) (sym s.1.0)
together v x ps k (bound i) h = open_close_subst x (free v) k (bound i)
together v x ps k (fixed c s) h = refl
together v x ps k (app f y) h = λ i. app (together v x ps k f h i) (together v x ps k y h i)
together v x ps k (lam a s b) h = ap (lam a s) (together v x ps (k + 1) b h)

-- what is left once the variables of the pairs stand for those that were bound
abbrev pub left : List (Named × Named) → Named → Nameless
left pairs rest = term_subst (nameless_pairs pairs) 0 (nameless [] rest)

abbrev pub inside : List (Named × Named) → List ℕ × TypeTree → Named → Abstraction
inside pairs x q = record { base = base_of x.0; domain = x.1; body = term_subst (nameless_pairs pairs) 1 (nameless (x ∷ []) q) }

pub left_more :
    (pairs more : List (Named × Named)) (v x : List ℕ × TypeTree) (variable q : Named) → variable ≡ var v → nameless_pairs more ≡ (nameless [] variable, x) ∷ nameless_pairs pairs → AreVariables (nameless_pairs pairs) →
    left more q ≡ open_with (nameless [] variable) 0 (inside pairs x q).body
left_more pairs more v x variable q is added h =
    let at : nameless [] variable ≡ free v = ap (nameless []) is in
    ap (λ ps. term_subst ps 0 (nameless [] q)) (added ∙ ap (λ n. (n, x) ∷ nameless_pairs pairs) at) ∙ sym (together v x (nameless_pairs pairs) 0 (nameless [] q) h)
    ∙ ap (λ n. open_with (free v) 0 (term_subst (nameless_pairs pairs) 1 n)) (sym (close_under [] x q)) ∙ ap (λ n. open_with n 0 (inside pairs x q).body) (sym at)

pub variables_more :
    (pairs more : List (Named × Named)) (v x : List ℕ × TypeTree) (variable : Named) → variable ≡ var v → v.1 ≡ x.1 → nameless_pairs more ≡ (nameless [] variable, x) ∷ nameless_pairs pairs → AreVariables (nameless_pairs pairs) →
    AreVariables (nameless_pairs more)
variables_more pairs more v x variable is typed added h = subst AreVariables (sym added) ((v, (ap (nameless []) is, typed)), h)

-- ---- quantifiers stay what they are

same_constant : (ps : Pairs) (c : List ℕ) (s : TypeTree) (f : Nameless) → AreVariables ps → is_constant c s (term_subst ps 0 f) ≡ is_constant c s f
same_constant ps c s (free w) h = ap (λ t. is_constant c s (shift 0 0 t)) (stands_for ps w h).1.0
same_constant ps c s (bound i) h = refl
same_constant ps c s (fixed d t) h = refl
same_constant ps c s (app f y) h = refl
same_constant ps c s (lam b a t) h = refl

abbrev kept : Pairs → Option Abstraction → Option Abstraction
kept ps None = None
kept ps (Some x) = Some (record { base = x.base; domain = x.domain; body = term_subst ps 1 x.body })

quantified : (ps : Pairs) (n : Nameless) → AreVariables ps → dest_forall (term_subst ps 0 n) ≡ kept ps (dest_forall n)
quantified ps (free w) h = ap (λ t. dest_forall (shift 0 0 t)) (stands_for ps w h).1.0
quantified ps (bound i) h = refl
quantified ps (fixed c s) h = refl
quantified ps (lam a s b) h = refl
quantified ps (app f (free w)) h = ap (λ t. dest_forall (app (term_subst ps 0 f) (shift 0 0 t))) (stands_for ps w h).1.0
quantified ps (app f (bound i)) h = refl
quantified ps (app f (fixed c s)) h = refl
quantified ps (app f (app g y)) h = refl
quantified ps (app f (lam a s b)) h =
    ap (λ c. cond c (Some (record { base = a; domain = s; body = term_subst ps 1 b })) None) (same_constant ps (codes "!") (quantifier_type s) f h) ∙ by (is_constant (codes "!") (quantifier_type s) f)
  where
    by : (c : Bool) → cond c (Some (record { base = a; domain = s; body = term_subst ps 1 b })) None ≡ kept ps (cond c (Some (record { base = a; domain = s; body = b })) None)
    by true = refl
    by false = refl

pub left_quantified : (pairs : List (Named × Named)) (x : List ℕ × TypeTree) (rest q : Named) → dest_forall (nameless [] rest) ≡ Some (abstraction_of x q) → AreVariables (nameless_pairs pairs) → dest_forall (left pairs rest) ≡ Some (inside pairs x q)
left_quantified pairs x rest q e h = quantified (nameless_pairs pairs) (nameless [] rest) h ∙ ap (kept (nameless_pairs pairs)) e

pub left_last : (pairs : List (Named × Named)) (rest : Named) → dest_forall (nameless [] rest) ≡ None → AreVariables (nameless_pairs pairs) → dest_forall (left pairs rest) ≡ None
left_last pairs rest e h = quantified (nameless_pairs pairs) (nameless [] rest) h ∙ ap (kept (nameless_pairs pairs)) e

-- ---- as the program goes on

pub no_pairs : (pairs : List (Named × Named)) → pairs ≡ [] → AreVariables (nameless_pairs pairs)
no_pairs pairs none = subst (λ ps. AreVariables (nameless_pairs ps)) (sym none) tt

pub none_bad : (pairs : List (Named × Named)) → pairs ≡ [] → HasBadPair pairs → ⊥
none_bad pairs none h = subst HasBadPair none h

nothing_put : (n : Nameless) (k : ℕ) → term_subst [] k n ≡ n
nothing_put (free w) k = refl
nothing_put (bound i) k = refl
nothing_put (fixed c s) k = refl
nothing_put (app f y) k = λ i. app (nothing_put f k i) (nothing_put y k i)
nothing_put (lam a s b) k = ap (lam a s) (nothing_put b (k + 1))

pub left_first : (pairs : List (Named × Named)) (p : Named) → pairs ≡ [] → left pairs p ≡ nameless [] p
left_first pairs p none = ap (λ ps. left ps p) none ∙ nothing_put (nameless [] p) 0

pub rest_fewer : (x : List ℕ × TypeTree) (rest q : Named) → dest_forall (nameless [] rest) ≡ Some (abstraction_of x q) → nodes (nameless [] q) < nodes (nameless [] rest)
rest_fewer x rest q e =
    let own : open_with (free x) 0 (nameless (x ∷ []) q) ≡ nameless [] q = ap (open_with (free x) 0) (close_under [] x q) ∙ open_close x 0 (nameless [] q) in
    subst (λ n. nodes n < nodes (nameless [] rest)) own (fewer (nameless [] rest) (abstraction_of x q) x e)

pub left_typed : (pairs : List (Named × Named)) (rest body : Named) → nameless [] body ≡ left pairs rest → AreVariables (nameless_pairs pairs) → named_type rest ≡ Some bool_type → named_type body ≡ Some bool_type
left_typed pairs rest body is h typed =
    sym (type_outside body) ∙ ap (nameless_type []) is ∙ subst_type (nameless_pairs pairs) [] 0 (nameless [] rest) (all_typed (nameless_pairs pairs) h) ∙ type_outside rest ∙ typed

-- ---- a pair put before the others

pub pair_put : (pairs more : List (Named × Named)) (copy t own : Named) (x : List ℕ × TypeTree) → more ≡ (copy, own) ∷ pairs → copy ≡ t → own ≡ var x → nameless_pairs more ≡ (nameless [] t, x) ∷ nameless_pairs pairs
pair_put pairs more copy t own x put first second = ap nameless_pairs put ∙ (λ i. nameless_pairs ((first i, second i) ∷ pairs))

pub good_put : (pairs more : List (Named × Named)) (copy t own : Named) (x : List ℕ × TypeTree) → more ≡ (copy, own) ∷ pairs → copy ≡ t → own ≡ var x → named_type t ≡ Some x.1 → (HasBadPair pairs → ⊥) → HasBadPair more → ⊥
good_put pairs more copy t own x put first second typed good bad = by (subst HasBadPair put bad)
  where
    by : HasBadPair ((copy, own) ∷ pairs) → ⊥
    by (inl h) = h (x, second, ap named_type first ∙ typed)
    by (inr h) = good h
