-- What matching finds depends on earlier pairs by look-ups alone: not on their order. So what stays may be listed in any order.
use Rattle.std.specs.Prelude.{◌≡◌, ℕ, ◌+◌, Bool, true, false, cond, bytes_eq, List, [], ◌∷◌, ◌++◌, Option, Some, None, unwrap_or, refl}
use Rattle.std.specs.Option.{option_map, option_and_then}
use Rattle.std.proofs.Common.{ap, sym, ◌∙◌, subst}
use Rattle.hol_match.proofs.Staying.{inst_same}
use Rattle.hol_types.specs.Tree.{TypeTree, TypeList, TyVar, TyApp, no_types, more_types}
use Rattle.hol_types.specs.Equal.{type_eq}
use Rattle.hol_types.specs.Match.{bound_name, match_type, match_types}
use Rattle.hol_types.specs.Subst.{type_lookup, type_for}
use Rattle.hol_terms.specs.Nameless.{Nameless, free, bound, fixed, app, lam, nameless_type}
use Rattle.hol_terms.specs.Alpha.{alpha_eq}
use Rattle.hol_subst.specs.Substitution.{term_lookup, term_for, term_subst, types_inst}
use Rattle.hol_subst.proofs.Commute.{subst_agree}
use Rattle.hol_formulas.specs.Equation.{dest_comb}
use Rattle.hol_formulas.specs.Formula.{dest_abs}
use Rattle.hol_match.specs.Instance.{InstanceValue, instance_of, instantiated}
use Rattle.hol_match.specs.Lowering.{lowered}
use Rattle.hol_match.specs.Matching.{taken, with_type, variable_takes, variable_meets_under, constant_meets, matched_under}
use Rattle.hol_types.proofs.Lookups.{type_first, type_second}
use Rattle.hol_match.proofs.Lookups.{term_first, term_second}

abbrev Pairs : Type 0
Pairs = List (TypeTree × List ℕ)

abbrev Terms : Type 0
Terms = List (Nameless × (List ℕ × TypeTree))

-- ---- types

abbrev pub AlikeTypes : List (TypeTree × List ℕ) → List (TypeTree × List ℕ) → Type 0
AlikeTypes ps qs = (a : List ℕ) → type_lookup ps a ≡ type_lookup qs a

-- both were found, and are alike, or neither
abbrev AreTypesAlike : Option Pairs → Option Pairs → Type 0
AreTypesAlike None None = Unit {0}
AreTypesAlike None (Some qs) = ⊥
AreTypesAlike (Some ps) None = ⊥
AreTypesAlike (Some ps) (Some qs) = AlikeTypes ps qs

types_longer : (ps qs rs : Pairs) → AlikeTypes ps qs → AlikeTypes (ps ++ rs) (qs ++ rs)
types_longer ps qs rs h a = by (type_lookup qs a) refl
  where
    by : (o : Option TypeTree) → type_lookup qs a ≡ o → type_lookup (ps ++ rs) a ≡ type_lookup (qs ++ rs) a
    by None e = type_second ps rs a (h a ∙ e) ∙ sym (type_second qs rs a e)
    by (Some s) e = type_first ps rs a s (h a ∙ e) ∙ sym (type_first qs rs a s e)

types_if : (b : Bool) (o p : Option Pairs) → AreTypesAlike o p → AreTypesAlike (cond b o None) (cond b p None)
types_if true o p h = h
types_if false o p h = tt

types_then : (o p : Option Pairs) (f g : Pairs → Option Pairs) → AreTypesAlike o p → ((ps qs : Pairs) → AlikeTypes ps qs → AreTypesAlike (f ps) (g qs)) → AreTypesAlike (option_and_then f o) (option_and_then g p)
types_then None None f g h k = tt
types_then None (Some qs) f g h k = absurd h
types_then (Some ps) None f g h k = absurd h
types_then (Some ps) (Some qs) f g h k = k ps qs h

name_bound : (ps qs : Pairs) (a : List ℕ) (t : TypeTree) → AlikeTypes ps qs → AreTypesAlike (bound_name (type_lookup ps a) ps a t) (bound_name (type_lookup qs a) qs a t)
name_bound ps qs a t h = subst (λ (o : Option TypeTree). AreTypesAlike (bound_name o ps a t) (bound_name (type_lookup qs a) qs a t)) (sym (h a)) (by (type_lookup qs a))
  where
    by : (o : Option TypeTree) → AreTypesAlike (bound_name o ps a t) (bound_name o qs a t)
    by None = types_longer ps qs ((t, a) ∷ []) h
    by (Some s) = types_if (type_eq s t) (Some ps) (Some qs) h

mutual
  type_alike : (p : TypeTree) (ps qs : List (TypeTree × List ℕ)) (t : TypeTree) → AlikeTypes ps qs → AreTypesAlike (match_type p ps t) (match_type p qs t)
  type_alike (TyVar a) ps qs t h = name_bound ps qs a t h
  type_alike (TyApp c us) ps qs (TyVar b) h = tt
  type_alike (TyApp c us) ps qs (TyApp d vs) h = types_if (bytes_eq c d) (match_types us ps vs) (match_types us qs vs) (types_alike us ps qs vs h)

  types_alike : (us : TypeList) (ps qs : List (TypeTree × List ℕ)) (vs : TypeList) → AlikeTypes ps qs → AreTypesAlike (match_types us ps vs) (match_types us qs vs)
  types_alike no_types ps qs no_types h = h
  types_alike no_types ps qs (more_types v vs) h = tt
  types_alike (more_types u us) ps qs no_types h = tt
  types_alike (more_types u us) ps qs (more_types v vs) h =
      types_then (match_type u ps v) (match_type u qs v) (λ more. match_types us more vs) (λ more. match_types us more vs) (type_alike u ps qs v h) (λ ms ns k. types_alike us ms ns vs k)

-- ---- types and terms

abbrev pub AlikeTerms : List (Nameless × (List ℕ × TypeTree)) → List (Nameless × (List ℕ × TypeTree)) → Type 0
AlikeTerms ps qs = (v : List ℕ × TypeTree) → term_lookup ps v ≡ term_lookup qs v

abbrev pub Alike : InstanceValue → InstanceValue → Type 0
Alike a b = AlikeTypes a.types b.types × AlikeTerms a.terms b.terms

abbrev pub AreAlike : Option InstanceValue → Option InstanceValue → Type 0
AreAlike None None = Unit {0}
AreAlike None (Some b) = ⊥
AreAlike (Some a) None = ⊥
AreAlike (Some a) (Some b) = Alike a b

terms_longer : (ps qs rs : Terms) → AlikeTerms ps qs → AlikeTerms (ps ++ rs) (qs ++ rs)
terms_longer ps qs rs h v = by (term_lookup qs v) refl
  where
    by : (o : Option Nameless) → term_lookup qs v ≡ o → term_lookup (ps ++ rs) v ≡ term_lookup (qs ++ rs) v
    by None e = term_second ps rs v (h v ∙ e) ∙ sym (term_second qs rs v e)
    by (Some s) e = term_first ps rs v s (h v ∙ e) ∙ sym (term_first qs rs v s e)

if_alike : (c : Bool) (o p : Option InstanceValue) → AreAlike o p → AreAlike (cond c o None) (cond c p None)
if_alike true o p h = h
if_alike false o p h = tt

then_alike : (o p : Option InstanceValue) (f g : InstanceValue → Option InstanceValue) → AreAlike o p → ((a b : InstanceValue) → Alike a b → AreAlike (f a) (g b)) → AreAlike (option_and_then f o) (option_and_then g p)
then_alike None None f g h k = tt
then_alike None (Some b) f g h k = absurd h
then_alike (Some a) None f g h k = absurd h
then_alike (Some a) (Some b) f g h k = k a b h

same_then : {X : Type 0} (o : Option X) (f g : X → Option InstanceValue) → ((x : X) → AreAlike (f x) (g x)) → AreAlike (option_and_then f o) (option_and_then g o)
same_then None f g k = tt
same_then (Some x) f g k = k x

with_type_alike : (s : TypeTree) (a b : InstanceValue) (t : TypeTree) → Alike a b → AreAlike (with_type s a t) (with_type s b t)
with_type_alike s a b t h = by (match_type s a.types t) (match_type s b.types t) (type_alike s a.types b.types t h.0)
  where
    by : (o p : Option Pairs) → AreTypesAlike o p → AreAlike (option_map (λ types. instance_of types a.terms) o) (option_map (λ types. instance_of types b.terms) p)
    by None None k = tt
    by None (Some qs) k = absurd k
    by (Some ps) None k = absurd k
    by (Some ps) (Some qs) k = (k, h.1)

taken_alike : (a b : InstanceValue) (v : List ℕ × TypeTree) (u : Nameless) → Alike a b → AreAlike (taken (term_lookup a.terms v) a v u) (taken (term_lookup b.terms v) b v u)
taken_alike a b v u h = subst (λ (o : Option Nameless). AreAlike (taken o a v u) (taken (term_lookup b.terms v) b v u)) (sym (h.1 v)) (by (term_lookup b.terms v))
  where
    by : (o : Option Nameless) → AreAlike (taken o a v u) (taken o b v u)
    by None = (h.0, terms_longer a.terms b.terms ((u, v) ∷ []) h.1)
    by (Some s) = if_alike (alpha_eq s u) (Some a) (Some b) h

meets_alike : (env : List TypeTree) (v : List ℕ × TypeTree) (a b : InstanceValue) (u : Nameless) → Alike a b → AreAlike (variable_meets_under env v a u) (variable_meets_under env v b u)
meets_alike env v a b u h =
    same_then (nameless_type env u) (λ s. variable_takes v a u s) (λ s. variable_takes v b u s)
    (λ s. then_alike (with_type v.1 a s) (with_type v.1 b s) (λ more. taken (term_lookup more.terms (v.0, s)) more (v.0, s) u) (λ more. taken (term_lookup more.terms (v.0, s)) more (v.0, s) u)
    (with_type_alike v.1 a b s h) (λ c d k. taken_alike c d (v.0, s) u k))

constant_alike : (c : List ℕ) (s : TypeTree) (a b : InstanceValue) (t : Nameless) → Alike a b → AreAlike (constant_meets c s a t) (constant_meets c s b t)
constant_alike c s a b (free v) h = tt
constant_alike c s a b (bound i) h = tt
constant_alike c s a b (fixed d t) h = if_alike (bytes_eq c d) (with_type s a t) (with_type s b t) (with_type_alike s a b t h)
constant_alike c s a b (app f x) h = tt
constant_alike c s a b (lam d t e) h = tt

pub matched_alike : (env : List TypeTree) (k : ℕ) (p : Nameless) (a b : InstanceValue) (t : Nameless) → Alike a b → AreAlike (matched_under env k p a t) (matched_under env k p b t)
matched_alike env k (free v) a b t h = same_then (lowered k 0 t) (λ u. variable_meets_under env v a u) (λ u. variable_meets_under env v b u) (λ u. meets_alike env v a b u h)
matched_alike env k (bound i) a b t h = if_alike (alpha_eq (bound i) t) (Some a) (Some b) h
matched_alike env k (fixed c s) a b t h = constant_alike c s a b t h
matched_alike env k (app f x) a b t h =
    same_then (dest_comb t) (λ q. option_and_then (λ more. matched_under env k x more q.1) (matched_under env k f a q.0)) (λ q. option_and_then (λ more. matched_under env k x more q.1) (matched_under env k f b q.0))
    (λ q. then_alike (matched_under env k f a q.0) (matched_under env k f b q.0) (λ more. matched_under env k x more q.1) (λ more. matched_under env k x more q.1)
    (matched_alike env k f a b q.0 h) (λ c d g. matched_alike env k x c d q.1 g))
matched_alike env k (lam n s p) a b t h =
    same_then (dest_abs t) (λ q. option_and_then (λ more. matched_under env (k + 1) p more q.body) (with_type s a q.domain)) (λ q. option_and_then (λ more. matched_under env (k + 1) p more q.body) (with_type s b q.domain))
    (λ q. then_alike (with_type s a q.domain) (with_type s b q.domain) (λ more. matched_under env (k + 1) p more q.body) (λ more. matched_under env (k + 1) p more q.body)
    (with_type_alike s a b q.domain h) (λ c d g. matched_alike env (k + 1) p c d q.body g))

-- ---- instances that give the same

-- each variable is given the same
abbrev pub GivesSame : InstanceValue → InstanceValue → Type 0
GivesSame a b = ((x : List ℕ) → type_for a.types x ≡ type_for b.types x) × ((v : List ℕ × TypeTree) → term_for a.terms v ≡ term_for b.terms v)

pub alike_gives : (a b : InstanceValue) → Alike a b → GivesSame a b
alike_gives a b h = (λ x. ap (λ o. unwrap_or o (TyVar x)) (h.0 x), λ v. ap (λ o. unwrap_or o (free v)) (h.1 v))

pub same_instance : (a b : InstanceValue) (k : ℕ) (n : Nameless) → GivesSame a b → instantiated a k n ≡ instantiated b k n
same_instance a b k n h = ap (term_subst a.terms k) (inst_same a.types b.types n h.0) ∙ subst_agree a.terms b.terms k (types_inst b.types n) (λ w f. h.1 w)
