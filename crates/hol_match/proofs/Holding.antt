-- What matching finds holds in itself: each pair is the first of its variable, and each term has its variable's type.
use Rattle.std.proofs.Common.{◌≡◌, ℕ, ◌+◌, List, [], ◌∷◌, ◌++◌, refl, ap, ◌∙◌, Bool, true, false, cond, bytes_eq, Option, Some, None, unwrap_or}
use Rattle.std.specs.Option.{option_map, option_and_then}
use Rattle.hol_types.specs.Tree.{TypeTree}
use Rattle.hol_types.specs.Match.{match_type}
use Rattle.hol_types.specs.Equal.{variable_eq}
use Rattle.hol_terms.specs.Nameless.{Nameless, free, bound, fixed, app, lam, nameless_type}
use Rattle.hol_terms.specs.Alpha.{strip, alpha_eq}
use Rattle.hol_terms.proofs.Same.{variable_eq_decides}
use Rattle.hol_subst.specs.Substitution.{term_lookup}
use Rattle.hol_subst.proofs.Closing.{eq_same}
use Rattle.hol_match.specs.Instance.{InstanceValue, instance_of}
use Rattle.hol_match.specs.Lowering.{lowered}
use Rattle.hol_match.specs.Matching.{taken, with_type, variable_takes, variable_meets, constant_meets, matched}
use Rattle.hol_match.specs.Matches.{IsWellTyped, GivesTerms, Says}
use Rattle.hol_match.proofs.Lookups.{term_first, term_second}
use Rattle.hol_match.proofs.TypeMatches.{TypesHold, TypesHoldIn, type_holds, hold_gives}

abbrev pub Terms : Type 0
Terms = List (Nameless × (List ℕ × TypeTree))

-- the pairs ps are those that a look-up in found gives, with terms of their variables' types
abbrev pub TermsHold : Terms → Terms → Type 0
TermsHold found [] = Unit {0}
TermsHold found (p ∷ ps) = ((term_lookup found p.1 ≡ Some p.0) × (nameless_type [] p.0 ≡ Some p.1.1)) × TermsHold found ps

hold_longer : (found ys ps : Terms) → TermsHold found ps → TermsHold (found ++ ys) ps
hold_longer found ys [] h = tt
hold_longer found ys (p ∷ ps) h = ((term_first found ys p.1 p.0 h.0.0, h.0.1), hold_longer found ys ps h.1)

hold_both : (found xs ys : Terms) → TermsHold found xs → TermsHold found ys → TermsHold found (xs ++ ys)
hold_both found [] ys h k = k
hold_both found (x ∷ xs) ys h k = (h.0, hold_both found xs ys h.1 k)

pub hold_after : (found xs ys : List (Nameless × (List ℕ × TypeTree))) → TermsHold found (xs ++ ys) → TermsHold found ys
hold_after found [] ys h = h
hold_after found (x ∷ xs) ys h = hold_after found xs ys h.1

lookup_after : (xs : Terms) (v : List ℕ × TypeTree) (t : Nameless) → term_lookup xs v ≡ None → term_lookup (xs ++ (t, v) ∷ []) v ≡ Some t
lookup_after xs v t e = term_second xs ((t, v) ∷ []) v e ∙ (rw (eq_same v) refl)

-- all that was found holds
abbrev pub Holds : InstanceValue → Type 0
Holds a = TypesHold a.types a.types × TermsHold a.terms a.terms

abbrev pub HoldsIn : Option InstanceValue → Type 0
HoldsIn None = Unit {0}
HoldsIn (Some a) = Holds a

then_holds : (o : Option InstanceValue) (go : InstanceValue → Option InstanceValue) → HoldsIn o → ((more : InstanceValue) → Holds more → HoldsIn (go more)) → HoldsIn (option_and_then go o)
then_holds None go h k = tt
then_holds (Some a) go h k = k a h

cond_holds : (o : Option InstanceValue) (b : Bool) → HoldsIn o → HoldsIn (cond b o None)
cond_holds o true h = h
cond_holds o false h = tt

type_kept : (s t : TypeTree) (found : InstanceValue) → Holds found → HoldsIn (with_type s found t)
type_kept s t found h = by (match_type s found.types t) (type_holds s found.types t h.0)
  where
    by : (o : Option (List (TypeTree × List ℕ))) → TypesHoldIn o → HoldsIn (option_map (λ types. instance_of types found.terms) o)
    by None g = tt
    by (Some qs) g = (g, h.1)

taken_kept : (v : List ℕ × TypeTree) (u : Nameless) (found : InstanceValue) (o : Option Nameless) → nameless_type [] u ≡ Some v.1 → term_lookup found.terms v ≡ o → Holds found → HoldsIn (taken o found v u)
taken_kept v u found None t e h = (h.0, hold_both (found.terms ++ (u, v) ∷ []) found.terms ((u, v) ∷ []) (hold_longer found.terms ((u, v) ∷ []) found.terms h.1) ((lookup_after found.terms v u e, t), tt))
taken_kept v u found (Some s) t e h = cond_holds (Some found) (alpha_eq s u) h

meets_kept : (v : List ℕ × TypeTree) (u : Nameless) (found : InstanceValue) → Holds found → HoldsIn (variable_meets v found u)
meets_kept v u found h = by (nameless_type [] u) refl
  where
    by : (o : Option TypeTree) → nameless_type [] u ≡ o → HoldsIn (option_and_then (λ s. variable_takes v found u s) o)
    by None e = tt
    by (Some s) e =
        then_holds (with_type v.1 found s) (λ more. taken (term_lookup more.terms (v.0, s)) more (v.0, s) u) (type_kept v.1 s found h)
        (λ more g. taken_kept (v.0, s) u more (term_lookup more.terms (v.0, s)) e refl g)

variable_kept : (v : List ℕ × TypeTree) (found : InstanceValue) (o : Option Nameless) → Holds found → HoldsIn (option_and_then (λ u. variable_meets v found u) o)
variable_kept v found None h = tt
variable_kept v found (Some u) h = meets_kept v u found h

constant_kept : (c : List ℕ) (s : TypeTree) (found : InstanceValue) (t : Nameless) → Holds found → HoldsIn (constant_meets c s found t)
constant_kept c s found (free v) h = tt
constant_kept c s found (bound i) h = tt
constant_kept c s found (fixed d t) h = cond_holds (with_type s found t) (bytes_eq c d) (type_kept s t found h)
constant_kept c s found (app f x) h = tt
constant_kept c s found (lam a t b) h = tt

pub matched_holds : (k : ℕ) (p : Nameless) (found : InstanceValue) (t : Nameless) → Holds found → HoldsIn (matched k p found t)
matched_holds k (free v) found t h = variable_kept v found (lowered k 0 t) h
matched_holds k (bound i) found t h = cond_holds (Some found) (alpha_eq (bound i) t) h
matched_holds k (fixed c s) found t h = constant_kept c s found t h
matched_holds k (app p q) found (app f x) h = then_holds (matched k p found f) (λ more. matched k q more x) (matched_holds k p found f h) (λ more g. matched_holds k q more x g)
matched_holds k (app p q) found (free v) h = tt
matched_holds k (app p q) found (bound i) h = tt
matched_holds k (app p q) found (fixed c s) h = tt
matched_holds k (app p q) found (lam a s b) h = tt
matched_holds k (lam a s p) found (lam c t b) h = then_holds (with_type s found t) (λ more. matched (k + 1) p more b) (type_kept s t found h) (λ more g. matched_holds (k + 1) p more b g)
matched_holds k (lam a s p) found (free v) h = tt
matched_holds k (lam a s p) found (bound i) h = tt
matched_holds k (lam a s p) found (fixed c t) h = tt
matched_holds k (lam a s p) found (app f x) h = tt

-- ---- what holds is an instance that says itself

hold_gives_terms : (σ : InstanceValue) (ps : Terms) → TermsHold σ.terms ps → GivesTerms σ ps
hold_gives_terms σ [] h = tt
hold_gives_terms σ (p ∷ ps) h = (ap (λ o. strip (unwrap_or o (free p.1))) h.0.0, hold_gives_terms σ ps h.1)

pub holding_says : (a : InstanceValue) → Holds a → Says a a
holding_says a h = (hold_gives a a.types h.0, hold_gives_terms a a.terms h.1)

-- the first pair of a variable has a term of its type, whatever the look-ups that the pairs hold in
lookup_typed : (found ps : Terms) (v : List ℕ × TypeTree) → TermsHold found ps → nameless_type [] (unwrap_or (term_lookup ps v) (free v)) ≡ Some v.1
lookup_typed found [] v h = refl
lookup_typed found (p ∷ ps) v h = by (variable_eq p.1 v) refl (lookup_typed found ps v h.1)
  where
    by : (b : Bool) → variable_eq p.1 v ≡ b → nameless_type [] (unwrap_or (term_lookup ps v) (free v)) ≡ Some v.1 → nameless_type [] (unwrap_or (cond b (Some p.0) (term_lookup ps v)) (free v)) ≡ Some v.1
    by true e r = h.0.1 ∙ ap (λ w. Some w.1) ((variable_eq_decides p.1 v).0 e)
    by false e r = r

pub holding_typed : (types : List (TypeTree × List ℕ)) (found ps : List (Nameless × (List ℕ × TypeTree))) → TermsHold found ps → IsWellTyped (instance_of types ps)
holding_typed types found ps h = λ v. lookup_typed found ps v h
