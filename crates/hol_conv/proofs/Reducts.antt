-- What a redex becomes: its types, and the substitution that makes it.
use Rattle.std.proofs.Common.{◌≡◌, ℕ, List, [], ◌∷◌, refl, ap, sym, ◌∙◌, subst, inl, inr, Bool, true, false, cond, Option, Some, None, unwrap_or, Result, Ok, Err, IfOk}
use Rattle.std.specs.Option.{option_map, option_and_then}
use Rattle.hol_formulas.proofs.TypeTests.{same_type}
use Rattle.hol_types.specs.Tree.{TypeTree}
use Rattle.hol_types.specs.Fun.{fun_type}
use Rattle.hol_types.specs.Equal.{type_eq, variable_eq}
use Rattle.hol_terms.specs.Named.{Named, var, comb, abs, named_type, applied_type}
use Rattle.hol_terms.specs.Nameless.{free, nameless, nameless_type}
use Rattle.hol_terms.proofs.Same.{variable_eq_decides}
use Rattle.hol_terms.proofs.Typing.{type_outside}
use Rattle.hol_subst.specs.Closing.{open_with}
use Rattle.hol_subst.specs.Pairs.{nameless_pairs, HasBadPair}
use Rattle.hol_subst.specs.Substitution.{term_subst}
use Rattle.hol_subst.proofs.Closing.{close_under}
use Rattle.hol_subst.proofs.Opening.{open_close_subst}
use Rattle.hol_subst.proofs.Typing.{AllTyped, subst_type}
use Rattle.hol_conv.specs.Beta.{reduct}

-- ---- types
-- the type of an abstraction's application, of a variable of type a, by the types of the body and of the argument
abbrev type_at : TypeTree → Option TypeTree → Option TypeTree → Option TypeTree
type_at a o p = option_and_then (λ s. option_and_then (λ t. applied_type s t) p) (option_map (λ r. fun_type a r) o)

fitting : (a : TypeTree) (o p : Option TypeTree) → (type_at a o p ≡ None → ⊥) → (p ≡ Some a) × (type_at a o p ≡ o)
fitting a None p h = absurd (h refl)
fitting a (Some r) None h = absurd (h refl)
fitting a (Some r) (Some t) h = by (type_eq a t) refl h
  where
    by : (c : Bool) → type_eq a t ≡ c → (cond c (Some r) None ≡ None → ⊥) → (Some t ≡ Some a) × (cond c (Some r) None ≡ Some r)
    by true e g = (ap Some (sym (same_type a t e)), refl)
    by false e g = absurd (g refl)

pub argument_type : (v : List ℕ × TypeTree) (b f x : Named) → f ≡ abs v b → (named_type (comb f x) ≡ None → ⊥) → named_type x ≡ Some v.1
argument_type v b f x e h = (fitting v.1 (named_type b) (named_type x) (λ n. h (ap (λ z. named_type (comb z x)) e ∙ n))).0

pub redex_type : (v : List ℕ × TypeTree) (b f x u : Named) → f ≡ abs v b → (named_type (comb f x) ≡ None → ⊥) → named_type u ≡ named_type b → named_type u ≡ named_type (comb f x)
redex_type v b f x u e h k = k ∙ sym (ap (λ z. named_type (comb z x)) e ∙ (fitting v.1 (named_type b) (named_type x) (λ n. h (ap (λ z. named_type (comb z x)) e ∙ n))).1)

-- ---- the body at the argument
pub good_pair : (ps : List (Named × Named)) (x : Named) (v : List ℕ × TypeTree) → ps ≡ (x, var v) ∷ [] → named_type x ≡ Some v.1 → HasBadPair ps → ⊥
good_pair ps x v e h bad = by (subst HasBadPair e bad)
  where
    by : HasBadPair ((x, var v) ∷ []) → ⊥
    by (inl b) = b (v, refl, h)
    by (inr b) = b

pub body_is : (ps : List (Named × Named)) (x b r : Named) (v : List ℕ × TypeTree) → ps ≡ (x, var v) ∷ [] → nameless [] r ≡ term_subst (nameless_pairs ps) 0 (nameless [] b) → nameless [] r ≡ open_with (nameless [] x) 0 (nameless (v ∷ []) b)
body_is ps x b r v e h =
    h ∙ ap (λ qs. term_subst (nameless_pairs qs) 0 (nameless [] b)) e
    ∙ sym (ap (open_with (nameless [] x) 0) (close_under [] v b) ∙ open_close_subst v (nameless [] x) 0 (nameless [] b))

body_type : (ps : List (Named × Named)) (x b r : Named) (v : List ℕ × TypeTree) → ps ≡ (x, var v) ∷ [] → named_type x ≡ Some v.1 → nameless [] r ≡ term_subst (nameless_pairs ps) 0 (nameless [] b) → named_type r ≡ named_type b
body_type ps x b r v e h k =
    sym (type_outside r) ∙ ap (nameless_type []) (k ∙ ap (λ qs. term_subst (nameless_pairs qs) 0 (nameless [] b)) e)
    ∙ subst_type ((nameless [] x, v) ∷ []) [] 0 (nameless [] b) typed ∙ type_outside b
  where
    typed : AllTyped ((nameless [] x, v) ∷ [])
    typed w = by (variable_eq v w) refl
      where
        by : (c : Bool) → variable_eq v w ≡ c → nameless_type [] (unwrap_or (cond c (Some (nameless [] x)) None) (free w)) ≡ Some w.1
        by true q = type_outside x ∙ h ∙ ap (λ z. Some z.1) ((variable_eq_decides v w).0 q)
        by false q = refl

-- the same of an answer, if there is one
pub body_types : {E : Type 0} (ps : List (Named × Named)) (x b : Named) (v : List ℕ × TypeTree) (r : Result Named E) → ps ≡ (x, var v) ∷ [] → named_type x ≡ Some v.1 → IfOk r (λ u. nameless [] u ≡ term_subst (nameless_pairs ps) 0 (nameless [] b)) → IfOk r (λ u. named_type u ≡ named_type b)
body_types ps x b v (Ok u) e h k = body_type ps x b u v e h k
body_types ps x b v (Err z) e h k = tt

pub ruleset bodies = (good_pair, body_is)

-- ---- redexes
pub reduct_is : (v : List ℕ × TypeTree) (b f x u : Named) → f ≡ abs v b → nameless [] u ≡ open_with (nameless [] x) 0 (nameless (v ∷ []) b) → reduct (nameless [] f) (nameless [] x) ≡ Some (nameless [] u)
reduct_is v b f x u e h = ap (λ z. reduct (nameless [] z) (nameless [] x)) e ∙ ap Some (sym h)

pub ruleset reducts = (argument_type, redex_type, reduct_is)
