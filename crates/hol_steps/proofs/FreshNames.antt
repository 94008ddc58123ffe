-- A variable of a name that is not taken is not free, and what calls say of such names.
use Rattle.std.specs.Prelude.{◌≡◌, ℕ, Bool, true, false, ◌||◌, List, [], ◌∷◌, map, Result, Ok, Err, IfOk, refl}
use Rattle.std.proofs.lemmas.Bool.{or_parts}
use Rattle.hol_match.proofs.Apartness.{name_free}
use Rattle.hol_types.specs.Tree.{TypeTree}
use Rattle.hol_terms.specs.Named.{Named}
use Rattle.hol_terms.specs.Nameless.{Nameless, nameless, base_of}
use Rattle.hol_terms.specs.Primes.{HasFewestPrimes}
use Rattle.hol_subst.specs.FreeName.{has_name, is_taken, IsFreeName}
use Rattle.hol_subst.specs.Variant.{is_free_in}
use Rattle.hol_just.specs.Fresh.{fresh}
use Rattle.hol_just.specs.FreeNames.{free_name}
use Rattle.hol_just.specs.Strip.{AvoidedValue, avoiding, WaitingValue}
use Rattle.hol_steps.specs.Fresh.{AreAlike, AvoidAlike, IsFresh, IsNewBy, terms_of}
use Rattle.hol_steps.specs.declared.fresh.FreshVariable.{FreshVariable}
use Rattle.std.proofs.Common.{ap, sym, ◌∙◌, subst}
pub use Rattle.hol_match.proofs.FreshNames.{not_taken, is_free_name}

-- ---- a variable of a name that is not taken is not free

pub not_free : (avoid : List Nameless) (a : List ℕ) (s : TypeTree) → is_taken avoid a ≡ false → is_free_in avoid (a, s) ≡ false
not_free [] a s h = refl
not_free (n ∷ avoid) a s h =
    let p = or_parts (has_name a n) (is_taken avoid a) h in
    λ i. name_free a s n p.0 i || not_free avoid a s p.1 i

-- a variable of the name that is found
pub fresh_variable_is :
    (standing : List (List ℕ)) (terms : List Nameless) (x v : List ℕ × TypeTree) (base name : List ℕ) (tested : List (List ℕ)) (s : TypeTree) → base ≡ base_of x.0 → s ≡ x.1 → v ≡ (name, s) →
    ((others : List Nameless) → AreAlike terms others → fresh standing others base ≡ record { name = name; tested = tested }) → is_taken terms name ≡ false →
    (others : List Nameless) → AreAlike terms others → IsFresh standing others x v tested
fresh_variable_is standing terms x v base name tested s based typed is found absent others alike =
    record {
      is = ap (fresh standing others) (sym based) ∙ found others alike ∙ (λ i. record { name = (sym is i).0; tested = tested });
      typed = ap (λ (u : List ℕ × TypeTree). u.1) is ∙ typed;
      absent = subst (λ (u : List ℕ × TypeTree). is_free_in others u ≡ false) (sym is) (not_free others name s (sym (alike name) ∙ absent));
    }

-- ---- what calls say

-- a variable of a name that is free in some terms, over others with the same names
pub named_new :
    (terms : List Named) (avoid : List Nameless) (base kept name : List ℕ) (own : TypeTree) → ((a : List ℕ) → is_taken (map (nameless []) terms) a ≡ is_taken avoid a) → base ≡ kept →
    IsFreeName (map (nameless []) terms) base name → {E : Type 0} (r : Result (List ℕ × TypeTree) E) (ty : TypeTree) → ty ≡ own → IfOk r (λ v. v ≡ (name, ty)) → IfOk r (λ v. v ≡ (free_name avoid kept, own))
named_new terms avoid base kept name own terms_are base_is h (Ok v) ty typed is =
    let found : IsFreeName avoid kept name = subst (λ (taken : List ℕ → Bool). HasFewestPrimes (λ a. taken a ≡ true) kept name) (λ i a. terms_are a i) (subst (λ (b : List ℕ). IsFreeName (map (nameless []) terms) b name) base_is h) in
    is ∙ (λ i. (is_free_name avoid kept name found i, typed i))
named_new terms avoid base kept name own terms_are base_is h (Err e) ty typed is = is

-- a fresh variable avoids what the terms are gathered from
pub new_always :
    {E : Type 0} (r : Result FreshVariable E) (gathered others : List Nameless) (standing : List (List ℕ)) (p : Nameless) (w : WaitingValue) (x : List ℕ × TypeTree) →
    ((terms : List Nameless) → AreAlike others terms → AreAlike gathered (terms_of terms p w)) →
    IfOk r (λ f. (terms : List Nameless) → AreAlike gathered terms → IsFresh standing terms x f.variable f.tested.items) →
    IfOk r (λ f. (avoided : AvoidedValue) → AvoidAlike (avoiding others standing) avoided → IsNewBy avoided p w x f.variable f.tested.items)
new_always (Ok f) gathered others standing p w x are new =
    λ avoided alike. subst (λ (ns : List (List ℕ)). IsFresh ns (terms_of avoided.terms p w) x f.variable f.tested.items) alike.1 (new (terms_of avoided.terms p w) (are avoided.terms alike.0))
new_always (Err e) gathered others standing p w x are new = new

pub fresh_among :
    {E : Type 0} (r : Result FreshVariable E) (gathered terms : List Nameless) (standing : List (List ℕ)) (x : List ℕ × TypeTree) → AreAlike gathered terms →
    IfOk r (λ f. (others : List Nameless) → AreAlike gathered others → IsFresh standing others x f.variable f.tested.items) → IfOk r (λ f. IsFresh standing terms x f.variable f.tested.items)
fresh_among (Ok f) gathered terms standing x alike new = new terms alike
fresh_among (Err e) gathered terms standing x alike new = new
