-- Taking quantifiers and conjunctions apart: what an opened body is, and that parts have fewer nodes.
use Rattle.std.proofs.Common.{◌≡◌, ℕ, ◌+◌, ◌-◌, ◌<◌, List, [], ◌∷◌, refl, sym, ap, ◌∙◌, subst, Bool, true, false, cond, nat_lt, ◌==◌, codes, Some, None, unwrap_or, arith}
use Rattle.hol_types.specs.Tree.{TypeTree}
use Rattle.hol_types.specs.Equal.{variable_eq}
use Rattle.hol_terms.specs.Named.{Named, named_type}
use Rattle.hol_terms.specs.Nameless.{Nameless, free, bound, fixed, app, lam, nameless, base_of, nameless_type}
use Rattle.hol_terms.proofs.Same.{variable_eq_decides}
use Rattle.hol_terms.proofs.Typing.{type_outside}
use Rattle.hol_subst.proofs.Typing.{AllTyped, subst_type}
use Rattle.hol_subst.specs.Closing.{open_with}
use Rattle.hol_subst.specs.FreeName.{is_taken, IsFreeName}
use Rattle.hol_subst.specs.Shift.{shift}
use Rattle.hol_subst.specs.Substitution.{term_subst}
use Rattle.hol_subst.proofs.Closing.{close_under, open_close, nameless_abs}
use Rattle.hol_subst.proofs.Opening.{open_close_subst}
use Rattle.hol_formulas.specs.Formula.{Abstraction, is_constant, quantifier_type, connective_type, dest_forall, dest_conj}
use Rattle.hol_formulas.specs.Making.{mk_forall}
use Rattle.std.specs.Option.{option_map}
use Rattle.hol_match.specs.Rules.{generalized, nodes}
use Rattle.hol_match.specs.Opening.{IsOpenedAt}

pub nodes_opened : (u : List ℕ × TypeTree) (k : ℕ) (n : Nameless) → nodes (open_with (free u) k n) ≡ nodes n
nodes_opened u k (free w) = refl
nodes_opened u k (bound i) = by (nat_lt i k) (i == k)
  where
    by : (a b : Bool) → nodes (cond a (bound i) (cond b (shift k 0 (free u)) (bound (i - 1)))) ≡ 1
    by true b = refl
    by false true = refl
    by false false = refl
nodes_opened u k (fixed c s) = refl
nodes_opened u k (app f x) = λ i. 1 + nodes_opened u k f i + nodes_opened u k x i
nodes_opened u k (lam a s b) = λ i. 1 + nodes_opened u (k + 1) b i

pub body_smaller : (p : Nameless) (x : Abstraction) → dest_forall p ≡ Some x → nodes x.body < nodes p
body_smaller (free v) x e = absurd (cc)
body_smaller (bound i) x e = absurd (cc)
body_smaller (fixed c s) x e = absurd (cc)
body_smaller (lam a s b) x e = absurd (cc)
body_smaller (app f (free v)) x e = absurd (cc)
body_smaller (app f (bound i)) x e = absurd (cc)
body_smaller (app f (fixed c s)) x e = absurd (cc)
body_smaller (app f (app g y)) x e = absurd (cc)
body_smaller (app f (lam a s b)) x e = by (is_constant (codes "!") (quantifier_type s) f) e
  where
    by : (c : Bool) → cond c (Some (record { base = a; domain = s; body = b })) None ≡ Some x → nodes x.body < nodes (app f (lam a s b))
    by true h = let g : record { base = a; domain = s; body = b } ≡ x = cc in omega (arith, ap (λ y. nodes y.body) g)
    by false h = absurd (cc)

abbrev AreSmaller : Nameless × Nameless → Nameless → Type 0
AreSmaller q p = (nodes q.0 < nodes p) × (nodes q.1 < nodes p)

parts_smaller : (p : Nameless) (q : Nameless × Nameless) → dest_conj p ≡ Some q → AreSmaller q p
parts_smaller (free v) q e = absurd (cc)
parts_smaller (bound i) q e = absurd (cc)
parts_smaller (fixed c s) q e = absurd (cc)
parts_smaller (lam a s b) q e = absurd (cc)
parts_smaller (app (free v) r) q e = absurd (cc)
parts_smaller (app (bound i) r) q e = absurd (cc)
parts_smaller (app (fixed c s) r) q e = absurd (cc)
parts_smaller (app (lam a s b) r) q e = absurd (cc)
parts_smaller (app (app f l) r) q e = by (is_constant (codes "/\\") connective_type f) e
  where
    by : (c : Bool) → option_map (λ m. (m, r)) (cond c (Some l) None) ≡ Some q → AreSmaller q (app (app f l) r)
    by true h = let g : (l, r) ≡ q = cc in (omega (arith, ap (λ y. nodes y.0) g), omega (arith, ap (λ y. nodes y.1) g))
    by false h = absurd (cc)

pub left_smaller : (p : Nameless) (q : Nameless × Nameless) → dest_conj p ≡ Some q → nodes q.0 < nodes p
left_smaller p q e = (parts_smaller p q e).0

pub right_smaller : (p : Nameless) (q : Nameless × Nameless) → dest_conj p ≡ Some q → nodes q.1 < nodes p
right_smaller p q e = (parts_smaller p q e).1

pub opened_smaller : (hyps : List Nameless) (p n : Nameless) (x : Abstraction) (v : List ℕ × TypeTree) → dest_forall p ≡ Some x → IsOpenedAt hyps p x v n → nodes n < nodes p
opened_smaller hyps p n x v e o = omega (arith, body_smaller p x e, ap nodes o.is, nodes_opened v 0 x.body)

pub ruleset smaller = (left_smaller, right_smaller, opened_smaller)

-- ---- the body of an abstraction, opened

own_variable : (v : List ℕ × TypeTree) (b : Named) → nameless [] b ≡ open_with (free v) 0 (nameless (v ∷ []) b)
own_variable v b = sym (ap (open_with (free v) 0) (close_under [] v b) ∙ open_close v 0 (nameless [] b))

pub other_variable : (u v : List ℕ × TypeTree) (b : Named) (n : Nameless) → n ≡ term_subst ((free u, v) ∷ []) 0 (nameless [] b) → n ≡ open_with (free u) 0 (nameless (v ∷ []) b)
other_variable u v b n e = e ∙ sym (ap (open_with (free u) 0) (close_under [] v b) ∙ open_close_subst v (free u) 0 (nameless [] b))

pub renamed_type : (u v : List ℕ × TypeTree) (t b : Named) → u.1 ≡ v.1 → nameless [] t ≡ term_subst ((free u, v) ∷ []) 0 (nameless [] b) → named_type t ≡ named_type b
renamed_type u v t b e h = sym (type_outside t) ∙ ap (nameless_type []) h ∙ subst_type ((free u, v) ∷ []) [] 0 (nameless [] b) typed ∙ type_outside b
  where
    typed : AllTyped ((free u, v) ∷ [])
    typed w = by (variable_eq v w) refl
      where
        by : (c : Bool) → variable_eq v w ≡ c → nameless_type [] (unwrap_or (cond c (Some (free u)) None) (free w)) ≡ Some w.1
        by true q = ap Some (e ∙ ap (λ x. x.1) ((variable_eq_decides v w).0 q))
        by false q = refl

pub opened_same : (hyps : List Nameless) (p : Nameless) (v u : List ℕ × TypeTree) (b t : Named) (a : List ℕ) → IsFreeName (p ∷ hyps) (base_of v.0) a → a ≡ v.0 → u ≡ v → t ≡ b → IsOpenedAt hyps p (record { base = base_of v.0; domain = v.1; body = nameless (v ∷ []) b }) u (nameless [] t)
opened_same hyps p v u b t a e f h g = record {
  typed = ap (λ w. w.1) h;
  named = subst (λ b. IsFreeName (p ∷ hyps) (base_of v.0) b) (f ∙ ap (λ w. w.0) (sym h)) e;
  is = ap (nameless []) g ∙ own_variable v b ∙ ap (λ w. open_with (free w) 0 (nameless (v ∷ []) b)) (sym h);
}

pub opened_renamed : (hyps : List Nameless) (p n : Nameless) (v u : List ℕ × TypeTree) (b : Named) (a : List ℕ) → IsFreeName (p ∷ hyps) (base_of v.0) a → u ≡ (a, v.1) → n ≡ open_with (free u) 0 (nameless (v ∷ []) b) → IsOpenedAt hyps p (record { base = base_of v.0; domain = v.1; body = nameless (v ∷ []) b }) u n
opened_renamed hyps p n v u b a e f g = record {
  typed = ap (λ w. w.1) f;
  named = subst (λ b. IsFreeName (p ∷ hyps) (base_of v.0) b) (ap (λ w. w.0) (sym f)) e;
  is = g;
}

pub named_apart : (avoid terms : List Nameless) (b base a : List ℕ) → avoid ≡ terms → b ≡ base → IsFreeName avoid b a → IsFreeName terms base a
named_apart avoid terms b base a e f h = subst (λ c. IsFreeName terms c a) f (subst (λ ts. IsFreeName ts b a) e h)

pub not_taken : (avoid : List Nameless) (base a : List ℕ) → IsFreeName avoid base a → is_taken avoid a ≡ false
not_taken avoid base a h = by (is_taken avoid a) refl
  where
    by : (b : Bool) → is_taken avoid a ≡ b → is_taken avoid a ≡ false
    by true e = absurd (h.fresh e)
    by false e = e

-- ---- a formula, quantified once more

pub generalized_more : (v : List ℕ × TypeTree) (vs : List (List ℕ × TypeTree)) (b t : Named) → t ≡ mk_forall v b → generalized (v ∷ vs) (nameless [] b) ≡ generalized vs (nameless [] t)
generalized_more v vs b t e = ap (generalized vs) (sym (ap (nameless []) e ∙ ap (app (fixed (codes "!") (quantifier_type v.1))) (nameless_abs v b)))

pub ruleset opening = (opened_same, opened_renamed)
