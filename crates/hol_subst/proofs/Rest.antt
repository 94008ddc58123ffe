-- Lists of pairs that are built one after another.
use Rattle.std.proofs.Common.{◌≡◌, ℕ, ◌+◌, ◌<◌, ◌≤◌, List, [], ◌∷◌, ◌++◌, length, drop, get_or, refl, ap, sym, ◌∙◌, Bool, true, false, cond, ◌||◌, subst, Option, Some, None, inl, inr, ◌⊎◌}
use Rattle.std.proofs.lemmas.Bool.{or_parts, or_from}
use Rattle.std.proofs.lemmas.List.{append-nil, append_assoc, drop_all}
use Rattle.std.specs.Bool.{Decides}
use Rattle.hol_types.specs.Tree.{TypeTree}
use Rattle.hol_types.specs.Equal.{type_eq, variable_eq}
use Rattle.hol_types.proofs.OrderLaws.{type_cmp_decides}
use Rattle.hol_types.proofs.Steps.{next_of}
use Rattle.hol_terms.specs.Named.{Named, var, constant, comb, abs, named_type}
use Rattle.hol_terms.specs.Scoped.{occurs_in}
use Rattle.hol_terms.proofs.Same.{variable_eq_decides}
use Rattle.hol_subst.specs.Pairs.{IsGoodPair, HasBadPair}
use Rattle.hol_subst.specs.Capture.{given_or, given, Fit, has_pair, IsRest}
use Rattle.hol_subst.specs.Substituted.{named_at, named_for}
use Rattle.hol_subst.proofs.Closing.{eq_flip}

abbrev Var : Type 0
Var = List ℕ × TypeTree

abbrev NamedPairs : Type 0
NamedPairs = List (Named × (List ℕ × TypeTree))

-- ---- appended pairs
pub has_append : (ps qs : List (Named × (List ℕ × TypeTree))) (w : List ℕ × TypeTree) → has_pair (ps ++ qs) w ≡ (has_pair ps w || has_pair qs w)
has_append [] qs w = refl
has_append (p ∷ ps) qs w = by (variable_eq p.1 w) (has_append ps qs w)
  where
    by : (b : Bool) → has_pair (ps ++ qs) w ≡ (has_pair ps w || has_pair qs w) → (b || has_pair (ps ++ qs) w) ≡ ((b || has_pair ps w) || has_pair qs w)
    by true e = refl
    by false e = e

given_append : (ps qs : NamedPairs) (w : Var) (o : Named) → given_or (ps ++ qs) w o ≡ given_or ps w (given_or qs w o)
given_append [] qs w o = refl
given_append (p ∷ ps) qs w o = ap (λ x. cond (variable_eq p.1 w) p.0 x) (given_append ps qs w o)

-- a pair that is not of w
other_pair : (p : Named × Var) (ps qs : NamedPairs) (w : Var) (o : Named) → variable_eq p.1 w ≡ false → given_or (ps ++ p ∷ qs) w o ≡ given_or (ps ++ qs) w o
other_pair p [] qs w o e = rw e refl
other_pair p (q ∷ ps) qs w o e = ap (λ x. cond (variable_eq q.1 w) q.0 x) (other_pair p ps qs w o e)

fewer : (p : Named × Var) (ps qs : NamedPairs) (w : Var) → has_pair (ps ++ p ∷ qs) w ≡ false → has_pair (ps ++ qs) w ≡ false
fewer p [] qs w e = (or_parts _ _ e).1
fewer p (q ∷ ps) qs w e = let z = or_parts (variable_eq q.1 w) (has_pair (ps ++ p ∷ qs) w) e in or_from (variable_eq q.1 w) (has_pair (ps ++ qs) w) z.0 (fewer p ps qs w z.1)

fit_fewer : (p : Named × Var) (ps qs : NamedPairs) → Fit (ps ++ p ∷ qs) → Fit (ps ++ qs)
fit_fewer p [] qs h = h.2
fit_fewer p (q ∷ ps) qs h = (h.0, fewer p ps qs q.1 h.1, fit_fewer p ps qs h.2)

-- one pair more, of a variable that has none
fit_more : (p : Named × Var) (ps : NamedPairs) → named_type p.0 ≡ Some p.1.1 → has_pair ps p.1 ≡ false → Fit ps → Fit (ps ++ p ∷ [])
fit_more p [] t n h = (t, refl, tt)
fit_more p (q ∷ ps) t n h =
    let z = or_parts (variable_eq q.1 p.1) (has_pair ps p.1) n in
    let apart : variable_eq p.1 q.1 ≡ false = eq_flip p.1 q.1 ∙ z.0 in
    (h.0, has_append ps (p ∷ []) q.1 ∙ or_from (has_pair ps q.1) (variable_eq p.1 q.1 || false) h.1 (or_from (variable_eq p.1 q.1) false apart refl), fit_more p ps t z.1 h.2)

-- ---- the pairs that are left under a binder
-- with the first pairs sorted out and more to come
pub record IsRestSoFar (v : List ℕ × TypeTree) (b : Named) (pairs rest more : List (Named × (List ℕ × TypeTree))) : Type 0 where
  pub own : has_pair rest v ≡ false
  pub others : (w : List ℕ × TypeTree) → variable_eq v w ≡ false → occurs_in w b ≡ true → given (rest ++ more) w ≡ given pairs w
  pub fit : Fit pairs → Fit (rest ++ more)

pub rest_first : (v : List ℕ × TypeTree) (b : Named) (pairs : List (Named × (List ℕ × TypeTree))) → IsRestSoFar v b pairs [] pairs
rest_first v b pairs = record { own = refl; others = λ w d o. refl; fit = λ h. h }

-- a pair that the body doesn't need
rest_dropped : (v : Var) (b : Named) (pairs rest more : NamedPairs) (p : Named × Var) → IsRestSoFar v b pairs rest (p ∷ more) → ((w : Var) → variable_eq v w ≡ false → occurs_in w b ≡ true → variable_eq p.1 w ≡ false) → IsRestSoFar v b pairs rest more
rest_dropped v b pairs rest more p h e = record {
  own = h.own;
  others = λ w d o. sym (other_pair p rest more w (var w) (e w d o)) ∙ h.others w d o;
  fit = λ f. fit_fewer p rest more (h.fit f);
}

pub rest_own : (v : List ℕ × TypeTree) (b : Named) (pairs rest more : List (Named × (List ℕ × TypeTree))) (p : Named × (List ℕ × TypeTree)) → IsRestSoFar v b pairs rest (p ∷ more) → variable_eq p.1 v ≡ true → IsRestSoFar v b pairs rest more
rest_own v b pairs rest more p h e = rest_dropped v b pairs rest more p h (λ w d o. ap (λ x. variable_eq x w) ((variable_eq_decides p.1 v).0 e) ∙ d)

-- a pair of a variable that is not free in the body
pub rest_absent : (v : List ℕ × TypeTree) (b : Named) (pairs rest more : List (Named × (List ℕ × TypeTree))) (p : Named × (List ℕ × TypeTree)) → IsRestSoFar v b pairs rest (p ∷ more) → occurs_in p.1 b ≡ false → IsRestSoFar v b pairs rest more
rest_absent v b pairs rest more p h e = rest_dropped v b pairs rest more p h (λ w d o. by w o (variable_eq p.1 w) refl)
  where
    by : (w : Var) → occurs_in w b ≡ true → (t : Bool) → variable_eq p.1 w ≡ t → variable_eq p.1 w ≡ false
    by w o true q = let z : true ≡ false = sym o ∙ ap (λ x. occurs_in x b) (sym ((variable_eq_decides p.1 w).0 q)) ∙ e in absurd (cc)
    by w o false q = q

pub rest_kept : (v : List ℕ × TypeTree) (b : Named) (pairs rest more : List (Named × (List ℕ × TypeTree))) (p : Named × (List ℕ × TypeTree)) → IsRestSoFar v b pairs rest (p ∷ more) → variable_eq p.1 v ≡ false → IsRestSoFar v b pairs (rest ++ p ∷ []) more
rest_kept v b pairs rest more p h e = record {
  own = has_append rest (p ∷ []) v ∙ or_from (has_pair rest v) (variable_eq p.1 v || false) h.own (or_from (variable_eq p.1 v) false e refl);
  others = λ w d o. ap (λ x. given x w) (append_assoc rest (p ∷ []) more) ∙ h.others w d o;
  fit = λ f. subst Fit (sym (append_assoc rest (p ∷ []) more)) (h.fit f);
}

pub rest_done : (v : List ℕ × TypeTree) (b : Named) (pairs rest : List (Named × (List ℕ × TypeTree))) → IsRestSoFar v b pairs rest [] → IsRest v b pairs rest
rest_done v b pairs rest h = record {
  own = h.own;
  others = λ w d o. ap (λ x. given x w) (sym (append-nil rest)) ∙ h.others w d o;
  fit = λ f. subst Fit (append-nil rest) (h.fit f);
}

-- ---- the pairs that a caller handed in, the first of each variable
pub record IsFirstSoFar (pairs : List (Named × Named)) (found : List (Named × (List ℕ × TypeTree))) (more : List (Named × Named)) : Type 0 where
  pub finds : (w : List ℕ × TypeTree) → given_or found w (named_for more w) ≡ named_for pairs w
  pub fit : Fit found
  pub good : HasBadPair more → ⊥

some_given : (ps : NamedPairs) (w : Var) → has_pair ps w ≡ true → (o q : Named) → given_or ps w o ≡ given_or ps w q
some_given [] w e o q = absurd (cc)
some_given (p ∷ ps) w e o q = by (variable_eq p.1 w) e (λ f. some_given ps w f o q)
  where
    by : (b : Bool) → (b || has_pair ps w) ≡ true → (has_pair ps w ≡ true → given_or ps w o ≡ given_or ps w q) → cond b p.0 (given_or ps w o) ≡ cond b p.0 (given_or ps w q)
    by true f r = refl
    by false f r = r f

first_named : (pairs : List (Named × Named)) (p : Named × Named) (v w : Var) → p.1 ≡ var v → named_for (p ∷ pairs) w ≡ cond (variable_eq v w) p.0 (named_for pairs w)
first_named pairs p v w e = ap (λ u. named_at u p.0 (named_for pairs w) w) e

typed_or_not : (o : Option TypeTree) (s : TypeTree) → (o ≡ Some s) ⊎ (o ≡ Some s → ⊥)
typed_or_not None s = inr (λ e. absurd (cc))
typed_or_not (Some r) s = by (type_eq r s) (type_cmp_decides r s)
  where
    by : (b : Bool) → Decides b (r ≡ s) → (Some r ≡ Some s) ⊎ (Some r ≡ Some s → ⊥)
    by true d = inl (ap Some (d.0 refl))
    by false d = inr (λ e. let q : r ≡ s = cc in let z : false ≡ true = d.1 q in absurd (cc))

-- a pair of the variable v that is not bad fits
pub not_bad : (p : Named × Named) (v : List ℕ × TypeTree) → p.1 ≡ var v → ((IsGoodPair p → ⊥) → ⊥) → named_type p.0 ≡ Some v.1
not_bad p v e h = by (typed_or_not (named_type p.0) v.1)
  where
    by : (named_type p.0 ≡ Some v.1) ⊎ (named_type p.0 ≡ Some v.1 → ⊥) → named_type p.0 ≡ Some v.1
    by (inl g) = g
    by (inr g) = absurd (h (λ good. let q : v ≡ good.0 = variable_same v good.0 (sym e ∙ good.1) in g (good.2 ∙ ap (λ x. Some x.1) (sym q))))
      where
        variable_same : (v w : Var) → var v ≡ var w → v ≡ w
        variable_same v w e = cc

pub first_first : (pairs : List (Named × Named)) → (HasBadPair pairs → ⊥) → IsFirstSoFar pairs [] pairs
first_first pairs h = record { finds = λ w. refl; fit = tt; good = h }

pub first_again : (pairs : List (Named × Named)) (found : List (Named × (List ℕ × TypeTree))) (more : List (Named × Named)) (p : Named × Named) (v : List ℕ × TypeTree) → p.1 ≡ var v → has_pair found v ≡ true → IsFirstSoFar pairs found (p ∷ more) → IsFirstSoFar pairs found more
first_again pairs found more p v e o h = record {
  finds = λ w. by w (variable_eq v w) refl ∙ h.finds w;
  fit = h.fit;
  good = λ b. h.good (inr b);
}
  where
    by : (w : Var) (b : Bool) → variable_eq v w ≡ b → given_or found w (named_for more w) ≡ given_or found w (named_for (p ∷ more) w)
    by w true q = some_given found w (ap (has_pair found) (sym ((variable_eq_decides v w).0 q)) ∙ o) (named_for more w) (named_for (p ∷ more) w)
    by w false q = ap (given_or found w) (sym (first_named more p v w e ∙ rw q refl))

pub first_new : (pairs : List (Named × Named)) (found : List (Named × (List ℕ × TypeTree))) (more : List (Named × Named)) (p : Named × Named) (v : List ℕ × TypeTree) → p.1 ≡ var v → has_pair found v ≡ false → IsFirstSoFar pairs found (p ∷ more) → IsFirstSoFar pairs (found ++ (p.0, v) ∷ []) more
first_new pairs found more p v e n h = record {
  finds = λ w. given_append found ((p.0, v) ∷ []) w (named_for more w) ∙ ap (given_or found w) (sym (first_named more p v w e)) ∙ h.finds w;
  fit = fit_more (p.0, v) found (not_bad p v e (λ b. h.good (inl b))) n h.fit;
  good = λ b. h.good (inr b);
}

-- ---- the same for one pass of a loop
pub rest_yes : (v : List ℕ × TypeTree) (b : Named) (pairs rest new : List (Named × (List ℕ × TypeTree))) (i : ℕ) (p : Named × (List ℕ × TypeTree)) (r : Bool)
    → IsRestSoFar v b pairs rest (drop i pairs) → i < length pairs → p ≡ get_or pairs i p
    → (variable_eq p.1 v ≡ true → r ≡ false) → r ≡ true → new ≡ rest ++ (p.0, p.1) ∷ [] → IsRestSoFar v b pairs new (drop (i + 1) pairs)
rest_yes v b pairs rest new i p r h l e own t n =
    subst (λ x. IsRestSoFar v b pairs x (drop (i + 1) pairs)) (sym n) (rest_kept v b pairs rest (drop (i + 1) pairs) p (subst (IsRestSoFar v b pairs rest) (next_of pairs i p l e) h) (differs (variable_eq p.1 v) refl))
  where
    differs : (q : Bool) → variable_eq p.1 v ≡ q → variable_eq p.1 v ≡ false
    differs true q = let z : true ≡ false = sym t ∙ own q in absurd (cc)
    differs false q = q

pub rest_no : (v : List ℕ × TypeTree) (b : Named) (pairs rest new : List (Named × (List ℕ × TypeTree))) (i : ℕ) (p : Named × (List ℕ × TypeTree)) (r : Bool)
    → IsRestSoFar v b pairs rest (drop i pairs) → i < length pairs → p ≡ get_or pairs i p
    → (r ≡ false → variable_eq p.1 v ≡ false → occurs_in p.1 b ≡ false) → r ≡ false → new ≡ rest → IsRestSoFar v b pairs new (drop (i + 1) pairs)
rest_no v b pairs rest new i p r h l e others t n =
    subst (λ x. IsRestSoFar v b pairs x (drop (i + 1) pairs)) (sym n) (by (variable_eq p.1 v) refl)
  where
    now : IsRestSoFar v b pairs rest (p ∷ drop (i + 1) pairs)
    now = subst (IsRestSoFar v b pairs rest) (next_of pairs i p l e) h

    by : (q : Bool) → variable_eq p.1 v ≡ q → IsRestSoFar v b pairs rest (drop (i + 1) pairs)
    by true q = rest_own v b pairs rest (drop (i + 1) pairs) p now q
    by false q = rest_absent v b pairs rest (drop (i + 1) pairs) p now (others t q)

pub first_step : (pairs : List (Named × Named)) (found new : List (Named × (List ℕ × TypeTree))) (i : ℕ) (p : Named × Named)
    → IsFirstSoFar pairs found (drop i pairs) → i < length pairs → p ≡ get_or pairs i p
    → ((v : List ℕ × TypeTree) → p.1 ≡ var v → new ≡ cond (has_pair found v) found (found ++ (p.0, v) ∷ []))
    → IsFirstSoFar pairs new (drop (i + 1) pairs)
first_step pairs found new i p h l e n = by p.1 refl
  where
    now : IsFirstSoFar pairs found (p ∷ drop (i + 1) pairs)
    now = subst (IsFirstSoFar pairs found) (next_of pairs i p l e) h

    never : ((v : Var) → p.1 ≡ var v → ⊥) → IsFirstSoFar pairs new (drop (i + 1) pairs)
    never f = absurd (now.good (inl (λ g. f g.0 g.1)))

    by : (u : Named) → p.1 ≡ u → IsFirstSoFar pairs new (drop (i + 1) pairs)
    by (var v) q = found_or (has_pair found v) refl
      where
        found_or : (t : Bool) → has_pair found v ≡ t → IsFirstSoFar pairs new (drop (i + 1) pairs)
        found_or true f = subst (λ x. IsFirstSoFar pairs x (drop (i + 1) pairs)) (sym (n v q ∙ rw f refl)) (first_again pairs found (drop (i + 1) pairs) p v q f now)
        found_or false f = subst (λ x. IsFirstSoFar pairs x (drop (i + 1) pairs)) (sym (n v q ∙ rw f refl)) (first_new pairs found (drop (i + 1) pairs) p v q f now)
    by (constant c s) q = never (λ v f. let z : constant c s ≡ var v = sym q ∙ f in absurd (cc))
    by (comb f x) q = never (λ v g. let z : comb f x ≡ var v = sym q ∙ g in absurd (cc))
    by (abs w b) q = never (λ v f. let z : abs w b ≡ var v = sym q ∙ f in absurd (cc))

pub rest_all : (v : List ℕ × TypeTree) (b : Named) (pairs rest : List (Named × (List ℕ × TypeTree))) (i : ℕ) → IsRestSoFar v b pairs rest (drop i pairs) → length pairs ≤ i → IsRest v b pairs rest
rest_all v b pairs rest i h l = rest_done v b pairs rest (subst (IsRestSoFar v b pairs rest) (drop_all i pairs l) h)
