-- The rules of a formula by those of its parts: no more steps are needed than it has nodes.
use Rattle.std.proofs.Common.{◌≡◌, ℕ, zero, suc, ◌<◌, ◌≤◌, List, [], ◌∷◌, ◌++◌, refl, sym, ap, ◌∙◌, Option, Some, None, arith}
use Rattle.hol_types.specs.Tree.{TypeTree}
use Rattle.hol_terms.specs.Nameless.{Nameless, free, bound, fixed, app, lam}
use Rattle.hol_subst.specs.Closing.{open_with}
use Rattle.hol_formulas.specs.Formula.{Abstraction, dest_forall, dest_conj}
use Rattle.hol_match.specs.Fixed.{fixed_names, fixed_variables}
use Rattle.hol_match.specs.Opening.{IsOpenedAt}
use Rattle.hol_match.specs.Rules.{single_rule, apart, body_apart, rules_by, rules_in, rules_under, nodes}
use Rattle.hol_match.proofs.FreshNames.{is_free_name}
use Rattle.hol_match.proofs.Opened.{nodes_opened, body_smaller, left_smaller, right_smaller}

some_nodes : (p : Nameless) → 0 < nodes p
some_nodes (free v) = omega arith
some_nodes (bound i) = omega arith
some_nodes (fixed c s) = omega arith
some_nodes (app f x) = omega arith
some_nodes (lam a s b) = omega arith

apart_smaller : (hyps : List Nameless) (p : Nameless) (x : Abstraction) → dest_forall p ≡ Some x → nodes (body_apart (p ∷ hyps) x) < nodes p
apart_smaller hyps p x e = omega (arith, body_smaller p x e, nodes_opened (apart (p ∷ hyps) x) 0 x.body)

enough : (hyps : List Nameless) (n m : ℕ) (p : Nameless) → nodes p ≤ n → nodes p ≤ m → rules_in n hyps p ≡ rules_in m hyps p
enough hyps zero m p l k = absurd (omega (arith, l, some_nodes p))
enough hyps (suc n) zero p l k = absurd (omega (arith, k, some_nodes p))
enough hyps (suc n) (suc m) p l k = by (λ q a b. enough hyps n m q a b) (dest_forall p) (dest_conj p) refl refl
  where
    by : ((q : Nameless) → nodes q ≤ n → nodes q ≤ m → rules_in n hyps q ≡ rules_in m hyps q) → (o : Option Abstraction) (c : Option (Nameless × Nameless)) → dest_forall p ≡ o → dest_conj p ≡ c → rules_by (λ q. rules_in n hyps q) hyps p o c ≡ rules_by (λ q. rules_in m hyps q) hyps p o c
    by again (Some x) c e f = let s = apart_smaller hyps p x e in again (body_apart (p ∷ hyps) x) (omega (arith, s, l)) (omega (arith, s, k))
    by again None (Some q) e f =
        let s = left_smaller p q f in
        let t = right_smaller p q f in
        λ i. again q.0 (omega (arith, s, l)) (omega (arith, s, k)) i ++ again q.1 (omega (arith, t, l)) (omega (arith, t, k)) i
    by again None None e f = refl

pub go_by_parts : (hyps : List Nameless) (p : Nameless) → rules_under hyps p ≡ rules_by (rules_under hyps) hyps p (dest_forall p) (dest_conj p)
go_by_parts hyps p = enough hyps (nodes p) (suc (nodes p)) p (omega arith) (omega arith) ∙ by (dest_forall p) (dest_conj p) refl refl
  where
    under : (q : Nameless) → nodes q < nodes p → rules_in (nodes p) hyps q ≡ rules_under hyps q
    under q l = enough hyps (nodes p) (nodes q) q (omega (arith, l)) (omega arith)

    by : (o : Option Abstraction) (c : Option (Nameless × Nameless)) → dest_forall p ≡ o → dest_conj p ≡ c → rules_by (λ q. rules_in (nodes p) hyps q) hyps p o c ≡ rules_by (rules_under hyps) hyps p o c
    by (Some x) c e f = under (body_apart (p ∷ hyps) x) (apart_smaller hyps p x e)
    by None (Some q) e f = λ i. under q.0 (left_smaller p q f) i ++ under q.1 (right_smaller p q f) i
    by None None e f = refl

conj_no_forall : (p : Nameless) (q : Nameless × Nameless) → dest_conj p ≡ Some q → dest_forall p ≡ None
conj_no_forall (free v) q e = refl
conj_no_forall (bound i) q e = refl
conj_no_forall (fixed c s) q e = refl
conj_no_forall (lam a s b) q e = refl
conj_no_forall (app (free v) r) q e = absurd (cc)
conj_no_forall (app (bound i) r) q e = absurd (cc)
conj_no_forall (app (fixed c s) r) q e = absurd (cc)
conj_no_forall (app (lam a s b) r) q e = absurd (cc)
conj_no_forall (app (app f l) (free v)) q e = refl
conj_no_forall (app (app f l) (bound i)) q e = refl
conj_no_forall (app (app f l) (fixed c s)) q e = refl
conj_no_forall (app (app f l) (app g y)) q e = refl
conj_no_forall (app (app f l) (lam a s b)) q e = refl

-- ---- for the code
pub of_body : (hyps : List Nameless) (p n : Nameless) (x : Abstraction) (v : List ℕ × TypeTree) → dest_forall p ≡ Some x → IsOpenedAt hyps p x v n → rules_under hyps n ≡ rules_under hyps p
of_body hyps p n x v e o =
    let same : n ≡ body_apart (p ∷ hyps) x = o.is ∙ (λ i. open_with (free (is_free_name (p ∷ hyps) x.base v.0 o.named i, o.typed i)) 0 x.body) in
    ap (rules_under hyps) same ∙ sym (go_by_parts hyps p ∙ ap (λ z. rules_by (rules_under hyps) hyps p z (dest_conj p)) e)

pub of_parts : (hyps : List Nameless) (p : Nameless) (q : Nameless × Nameless) → dest_conj p ≡ Some q → rules_under hyps q.0 ++ rules_under hyps q.1 ≡ rules_under hyps p
of_parts hyps p q e = sym (go_by_parts hyps p ∙ (λ i. rules_by (rules_under hyps) hyps p (conj_no_forall p q e i) (e i)))

pub of_itself : (hyps : List Nameless) (p : Nameless) → dest_forall p ≡ None → dest_conj p ≡ None → single_rule (fixed_names [] hyps) (fixed_variables [] hyps) p ∷ [] ≡ rules_under hyps p
of_itself hyps p e f = sym (go_by_parts hyps p ∙ (λ i. rules_by (rules_under hyps) hyps p (e i) (f i)))
