-- Formulas that are made are taken apart into what they were made of, and only these are.
use Rattle.std.specs.Prelude.{◌≡◌, ℕ, Bool, true, false, cond, ◌&&◌, List, bytes_eq, codes, Option, Some, None, refl}
use Rattle.std.specs.Option.{option_and_then, option_map}
use Rattle.std.proofs.Common.{ap, ◌∙◌}
use Rattle.std.proofs.lemmas.Bool.{and_parts}
use Rattle.std.proofs.lemmas.Slice.Eq.{bytes_eq-Decides}
use Rattle.hol_types.specs.Tree.{TypeTree}
use Rattle.hol_types.specs.Equal.{type_eq}
use Rattle.hol_types.specs.Fun.{fun_type}
use Rattle.hol_terms.specs.Nameless.{Nameless, free, bound, fixed, app, lam}
use Rattle.hol_formulas.specs.Equation.{bool_type, equality_type, equation, dest_comb, dest_eq}
use Rattle.hol_formulas.specs.Formula.{quantifier_type, conjunction, disjunction, implication, negation, Abstraction, quantified, universal, existential, is_constant, dest_abs, dest_unary, dest_binary, dest_quantifier, dest_conj, dest_disj, dest_imp, dest_neg, dest_forall, dest_exists}
use Rattle.hol_formulas.proofs.EquationTypes.{type_eq_itself}
use Rattle.hol_formulas.proofs.TypeTests.{same_type}
use Rattle.hol_formulas.proofs.TakingApart.{sides_yes}

-- ---- what is made is taken apart

pub dest_eq_equation : (a : TypeTree) (l r : Nameless) → dest_eq (equation a l r) ≡ Some (record { sides_type = a; left = l; right = r })
dest_eq_equation a l r = sides_yes (codes "=") (equality_type a) l r (a, fun_type a bool_type) refl refl (type_eq_itself (fun_type a bool_type))

pub dest_conj_conjunction : (p q : Nameless) → dest_conj (conjunction p q) ≡ Some (p, q)
dest_conj_conjunction p q = refl

pub dest_disj_disjunction : (p q : Nameless) → dest_disj (disjunction p q) ≡ Some (p, q)
dest_disj_disjunction p q = refl

pub dest_imp_implication : (p q : Nameless) → dest_imp (implication p q) ≡ Some (p, q)
dest_imp_implication p q = refl

pub dest_neg_negation : (p : Nameless) → dest_neg (negation p) ≡ Some p
dest_neg_negation p = refl

pub dest_forall_universal : (x : Abstraction) → dest_forall (universal x) ≡ Some x
dest_forall_universal x = ap (λ k. cond k (Some x) None) (type_eq_itself (quantifier_type x.domain))

pub dest_exists_existential : (x : Abstraction) → dest_exists (existential x) ≡ Some x
dest_exists_existential x = ap (λ k. cond k (Some x) None) (type_eq_itself (quantifier_type x.domain))

-- ---- what is taken apart was so made

pub dest_comb_is : (t : Nameless) (p : Nameless × Nameless) → dest_comb t ≡ Some p → t ≡ app p.0 p.1
dest_comb_is (free v) p e = absurd (cc)
dest_comb_is (bound i) p e = absurd (cc)
dest_comb_is (fixed c s) p e = absurd (cc)
dest_comb_is (app f x) p e = let g : (f, x) ≡ p = cc in λ i. app (g i).0 (g i).1
dest_comb_is (lam b a t) p e = absurd (cc)

pub is_constant_is : (c : List ℕ) (s : TypeTree) (t : Nameless) → is_constant c s t ≡ true → t ≡ fixed c s
is_constant_is c s (free v) e = absurd (cc)
is_constant_is c s (bound i) e = absurd (cc)
is_constant_is c s (fixed d t) e =
    let parts = and_parts (bytes_eq d c) (type_eq t s) e in λ i. fixed ((bytes_eq-Decides d c).0 parts.0 i) (same_type t s parts.1 i)
is_constant_is c s (app f x) e = absurd (cc)
is_constant_is c s (lam b a t) e = absurd (cc)

dest_abs_is : (t : Nameless) (x : Abstraction) → dest_abs t ≡ Some x → t ≡ lam x.base x.domain x.body
dest_abs_is (free v) x e = absurd (cc)
dest_abs_is (bound i) x e = absurd (cc)
dest_abs_is (fixed c s) x e = absurd (cc)
dest_abs_is (app f y) x e = absurd (cc)
dest_abs_is (lam b a t) x e = let g : record { base = b; domain = a; body = t } ≡ x = cc in λ i. lam (g i).base (g i).domain (g i).body

pub dest_unary_is : (c : List ℕ) (s : TypeTree) (t x : Nameless) → dest_unary c s t ≡ Some x → t ≡ app (fixed c s) x
dest_unary_is c s t x e = by (dest_comb t) refl e
  where
    at : (p : Nameless × Nameless) (k : Bool) → dest_comb t ≡ Some p → is_constant c s p.0 ≡ k → cond k (Some p.1) None ≡ Some x → t ≡ app (fixed c s) x
    at p true f g h = let last : p.1 ≡ x = cc in dest_comb_is t p f ∙ (λ i. app (is_constant_is c s p.0 g i) (last i))
    at p false f g h = absurd (cc)

    by : (o : Option (Nameless × Nameless)) → dest_comb t ≡ o → option_and_then (λ p. cond (is_constant c s p.0) (Some p.1) None) o ≡ Some x → t ≡ app (fixed c s) x
    by None f h = absurd (cc)
    by (Some p) f h = at p (is_constant c s p.0) f refl h

pub dest_binary_is : (c : List ℕ) (s : TypeTree) (t : Nameless) (p : Nameless × Nameless) → dest_binary c s t ≡ Some p → t ≡ app (app (fixed c s) p.0) p.1
dest_binary_is c s t p e = by (dest_comb t) refl e
  where
    at : (x : Nameless × Nameless) (o : Option Nameless) → dest_comb t ≡ Some x → dest_unary c s x.0 ≡ o → option_map {U = Nameless × Nameless} (λ l. (l, x.1)) o ≡ Some p → t ≡ app (app (fixed c s) p.0) p.1
    at x None f g h = absurd (cc)
    at x (Some l) f g h = let same : (l, x.1) ≡ p = cc in dest_comb_is t x f ∙ (λ i. app (dest_unary_is c s x.0 l g i) x.1) ∙ (λ i. app (app (fixed c s) (same i).0) (same i).1)

    by : (o : Option (Nameless × Nameless)) → dest_comb t ≡ o → option_and_then (λ x. option_map {U = Nameless × Nameless} (λ l. (l, x.1)) (dest_unary c s x.0)) o ≡ Some p → t ≡ app (app (fixed c s) p.0) p.1
    by None f h = absurd (cc)
    by (Some x) f h = at x (dest_unary c s x.0) f refl h

pub dest_quantifier_is : (c : List ℕ) (t : Nameless) (x : Abstraction) → dest_quantifier c t ≡ Some x → t ≡ quantified c x
dest_quantifier_is c t x e = by (dest_comb t) refl e
  where
    tested : (p : Nameless × Nameless) (y : Abstraction) (k : Bool) → dest_comb t ≡ Some p → dest_abs p.1 ≡ Some y → is_constant c (quantifier_type y.domain) p.0 ≡ k → cond k (Some y) None ≡ Some x → t ≡ quantified c x
    tested p y true f g h j = let same : y ≡ x = cc in dest_comb_is t p f ∙ (λ i. app (is_constant_is c (quantifier_type y.domain) p.0 h i) (dest_abs_is p.1 y g i)) ∙ ap (quantified c) same
    tested p y false f g h j = absurd (cc)

    at : (p : Nameless × Nameless) (o : Option Abstraction) → dest_comb t ≡ Some p → dest_abs p.1 ≡ o → option_and_then (λ y. cond (is_constant c (quantifier_type y.domain) p.0) (Some y) None) o ≡ Some x → t ≡ quantified c x
    at p None f g h = absurd (cc)
    at p (Some y) f g h = tested p y (is_constant c (quantifier_type y.domain) p.0) f g refl h

    by : (o : Option (Nameless × Nameless)) → dest_comb t ≡ o → option_and_then (λ p. option_and_then (λ y. cond (is_constant c (quantifier_type y.domain) p.0) (Some y) None) (dest_abs p.1)) o ≡ Some x → t ≡ quantified c x
    by None f h = absurd (cc)
    by (Some p) f h = at p (dest_abs p.1) f refl h

pub ruleset parts = (dest_eq_equation, dest_conj_conjunction, dest_disj_disjunction, dest_imp_implication, dest_neg_negation, dest_forall_universal, dest_exists_existential)
