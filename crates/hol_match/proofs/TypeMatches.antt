-- What matching of types finds, beside pairs found before: an instance says it exactly where it says the earlier pairs and makes the target;
-- and pairs that hold go on to hold.
use Rattle.std.proofs.Common.{◌≡◌, ℕ, List, [], ◌∷◌, ◌++◌, refl, sym, ap, ◌∙◌, Bool, true, false, cond, bytes_eq, Option, Some, None, unwrap_or}
use Rattle.std.specs.Option.{option_and_then}
use Rattle.std.proofs.lemmas.Slice.Eq.{bytes_eq-Decides}
use Rattle.hol_types.specs.Tree.{TypeTree, TypeList, TyVar, TyApp, no_types, more_types}
use Rattle.hol_types.specs.Subst.{type_lookup, type_for, type_subst, types_subst}
use Rattle.hol_types.specs.Equal.{type_eq}
use Rattle.hol_types.specs.Match.{bound_name, match_type, match_types}
use Rattle.hol_types.proofs.OrderLaws.{type_cmp_decides}
use Rattle.hol_match.specs.Matches.{GivesTypes}
use Rattle.hol_match.specs.Instance.{InstanceValue}
use Rattle.hol_types.proofs.Lookups.{type_first}
use Rattle.hol_types.proofs.MatchLaws.{lookup_after}

abbrev pub Pairs : Type 0
Pairs = List (TypeTree × List ℕ)

lookup_gives : (σ : InstanceValue) (found : Pairs) (a : List ℕ) (s : TypeTree) → type_lookup found a ≡ Some s → GivesTypes σ found → type_for σ.types a ≡ s
lookup_gives σ [] a s e h = absurd (cc)
lookup_gives σ (p ∷ found) a s e h = by (bytes_eq p.1 a) refl (λ f. lookup_gives σ found a s f h.1)
  where
    by : (b : Bool) → bytes_eq p.1 a ≡ b → (type_lookup found a ≡ Some s → type_for σ.types a ≡ s) → type_for σ.types a ≡ s
    by true q r = let n : p.1 ≡ a = (bytes_eq-Decides p.1 a).0 q in let f : Some p.0 ≡ Some s = rw q at e in let g : p.0 ≡ s = cc in sym (ap (type_for σ.types) n) ∙ h.0 ∙ g
    by false q r = r (rw q at e)

pub gives_before : (σ : InstanceValue) (xs ys : List (TypeTree × List ℕ)) → GivesTypes σ (xs ++ ys) → GivesTypes σ xs × GivesTypes σ ys
gives_before σ [] ys h = (tt, h)
gives_before σ (x ∷ xs) ys h = let r = gives_before σ xs ys h.1 in ((h.0, r.0), r.1)

pub gives_both : (σ : InstanceValue) (xs ys : List (TypeTree × List ℕ)) → GivesTypes σ xs → GivesTypes σ ys → GivesTypes σ (xs ++ ys)
gives_both σ [] ys h k = k
gives_both σ (x ∷ xs) ys h k = (h.0, gives_both σ xs ys h.1 k)

abbrev pub IsTypeAnswer : Pairs → TypeTree → TypeTree → Option Pairs → Type 0
IsTypeAnswer found p t None = (σ : InstanceValue) → GivesTypes σ found → type_subst σ.types p ≡ t → ⊥
IsTypeAnswer found p t (Some qs) = ((σ : InstanceValue) → GivesTypes σ qs → GivesTypes σ found × (type_subst σ.types p ≡ t)) × ((σ : InstanceValue) → GivesTypes σ found → type_subst σ.types p ≡ t → GivesTypes σ qs)

abbrev IsAnswers : Pairs → TypeList → TypeList → Option Pairs → Type 0
IsAnswers found ps ts None = (σ : InstanceValue) → GivesTypes σ found → types_subst σ.types ps ≡ ts → ⊥
IsAnswers found ps ts (Some qs) = ((σ : InstanceValue) → GivesTypes σ qs → GivesTypes σ found × (types_subst σ.types ps ≡ ts)) × ((σ : InstanceValue) → GivesTypes σ found → types_subst σ.types ps ≡ ts → GivesTypes σ qs)

bound_answer : (found : Pairs) (a : List ℕ) (t : TypeTree) (o : Option TypeTree) → type_lookup found a ≡ o → IsTypeAnswer found (TyVar a) t (bound_name o found a t)
bound_answer found a t None e = (λ σ h. let r = gives_before σ found ((t, a) ∷ []) h in (r.0, r.1.0), λ σ h k. gives_both σ found ((t, a) ∷ []) h (k, tt))
bound_answer found a t (Some s) e = by (type_eq s t) refl
  where
    by : (b : Bool) → type_eq s t ≡ b → IsTypeAnswer found (TyVar a) t (cond b (Some found) None)
    by true q = (λ σ h. (h, lookup_gives σ found a s e h ∙ (type_cmp_decides s t).0 q), λ σ h k. h)
    by false q = λ σ h k. let z : true ≡ false = sym ((type_cmp_decides s t).1 (sym (lookup_gives σ found a s e h) ∙ k)) ∙ q in cc

app_answer : (found : Pairs) (c d : List ℕ) (ps ts : TypeList) (r : Option Pairs) → IsAnswers found ps ts r → (b : Bool) → bytes_eq c d ≡ b → IsTypeAnswer found (TyApp c ps) (TyApp d ts) (cond b r None)
app_answer found c d ps ts None h true q = λ σ k e. h σ k (let f : types_subst σ.types ps ≡ ts = cc in f)
app_answer found c d ps ts (Some qs) h true q =
    (λ σ k. let r = h.0 σ k in (r.0, λ i. TyApp ((bytes_eq-Decides c d).0 q i) (r.1 i)), λ σ k e. h.1 σ k (let f : types_subst σ.types ps ≡ ts = cc in f))
app_answer found c d ps ts r h false q = λ σ k e. let n : c ≡ d = cc in let z : true ≡ false = sym ((bytes_eq-Decides c d).1 n) ∙ q in cc

more_answer : (found : Pairs) (p t : TypeTree) (ps ts : TypeList) (r : Option Pairs) (f : Pairs → Option Pairs) → IsTypeAnswer found p t r → ((more : Pairs) → IsAnswers more ps ts (f more)) → IsAnswers found (more_types p ps) (more_types t ts) (option_and_then f r)
more_answer found p t ps ts None f h k = λ σ g e. h σ g (let q : type_subst σ.types p ≡ t = cc in q)
more_answer found p t ps ts (Some qs) f h k = by (f qs) (k qs)
  where
    by : (o : Option Pairs) → IsAnswers qs ps ts o → IsAnswers found (more_types p ps) (more_types t ts) o
    by None l = λ σ g e. l σ (h.1 σ g (let q : type_subst σ.types p ≡ t = cc in q)) (let q : types_subst σ.types ps ≡ ts = cc in q)
    by (Some rs) l = (λ σ g. let u = l.0 σ g in let v = h.0 σ u.0 in (v.0, λ i. more_types (v.1 i) (u.1 i)), λ σ g e. l.1 σ (h.1 σ g (let q : type_subst σ.types p ≡ t = cc in q)) (let q : types_subst σ.types ps ≡ ts = cc in q))

mutual
  pub type_answer : (p : TypeTree) (found : List (TypeTree × List ℕ)) (t : TypeTree) → IsTypeAnswer found p t (match_type p found t)
  type_answer (TyVar a) found t = bound_answer found a t (type_lookup found a) refl
  type_answer (TyApp c ps) found (TyVar b) = λ σ h e. absurd (cc)
  type_answer (TyApp c ps) found (TyApp d ts) = app_answer found c d ps ts (match_types ps found ts) (types_answer ps found ts) (bytes_eq c d) refl

  types_answer : (ps : TypeList) (found : List (TypeTree × List ℕ)) (ts : TypeList) → IsAnswers found ps ts (match_types ps found ts)
  types_answer no_types found no_types = (λ σ h. (h, refl), λ σ h e. h)
  types_answer no_types found (more_types t ts) = λ σ h e. absurd (cc)
  types_answer (more_types p ps) found no_types = λ σ h e. absurd (cc)
  types_answer (more_types p ps) found (more_types t ts) = more_answer found p t ps ts (match_type p found t) (λ more. match_types ps more ts) (type_answer p found t) (λ more. types_answer ps more ts)

-- ---- pairs that hold: each is the first of its name

abbrev pub TypesHold : Pairs → Pairs → Type 0
TypesHold found [] = Unit {0}
TypesHold found (p ∷ ps) = (type_lookup found p.1 ≡ Some p.0) × TypesHold found ps

hold_longer : (found ys ps : Pairs) → TypesHold found ps → TypesHold (found ++ ys) ps
hold_longer found ys [] h = tt
hold_longer found ys (p ∷ ps) h = (type_first found ys p.1 p.0 h.0, hold_longer found ys ps h.1)

hold_both : (found xs ys : Pairs) → TypesHold found xs → TypesHold found ys → TypesHold found (xs ++ ys)
hold_both found [] ys h k = k
hold_both found (x ∷ xs) ys h k = (h.0, hold_both found xs ys h.1 k)

-- the pairs of an answer hold in it
abbrev pub TypesHoldIn : Option Pairs → Type 0
TypesHoldIn None = Unit {0}
TypesHoldIn (Some qs) = TypesHold qs qs

bound_holds : (found : Pairs) (a : List ℕ) (t : TypeTree) (o : Option TypeTree) → type_lookup found a ≡ o → TypesHold found found → TypesHoldIn (bound_name o found a t)
bound_holds found a t None e h = hold_both (found ++ (t, a) ∷ []) found ((t, a) ∷ []) (hold_longer found ((t, a) ∷ []) found h) (lookup_after found a t e, tt)
bound_holds found a t (Some s) e h = by (type_eq s t)
  where
    by : (b : Bool) → TypesHoldIn (cond b (Some found) None)
    by true = h
    by false = tt

cond_holds : (r : Option Pairs) (b : Bool) → TypesHoldIn r → TypesHoldIn (cond b r None)
cond_holds r true h = h
cond_holds r false h = tt

then_holds : (r : Option Pairs) (f : Pairs → Option Pairs) → TypesHoldIn r → ((more : Pairs) → TypesHold more more → TypesHoldIn (f more)) → TypesHoldIn (option_and_then f r)
then_holds None f h k = tt
then_holds (Some qs) f h k = k qs h

mutual
  pub type_holds : (p : TypeTree) (found : List (TypeTree × List ℕ)) (t : TypeTree) → TypesHold found found → TypesHoldIn (match_type p found t)
  type_holds (TyVar a) found t h = bound_holds found a t (type_lookup found a) refl h
  type_holds (TyApp c ps) found (TyVar b) h = tt
  type_holds (TyApp c ps) found (TyApp d ts) h = cond_holds (match_types ps found ts) (bytes_eq c d) (types_hold ps found ts h)

  types_hold : (ps : TypeList) (found : List (TypeTree × List ℕ)) (ts : TypeList) → TypesHold found found → TypesHoldIn (match_types ps found ts)
  types_hold no_types found no_types h = h
  types_hold no_types found (more_types t ts) h = tt
  types_hold (more_types p ps) found no_types h = tt
  types_hold (more_types p ps) found (more_types t ts) h = then_holds (match_type p found t) (λ more. match_types ps more ts) (type_holds p found t h) (λ more k. types_hold ps more ts k)

pub hold_gives : (σ : InstanceValue) (ps : List (TypeTree × List ℕ)) → TypesHold σ.types ps → GivesTypes σ ps
hold_gives σ [] h = tt
hold_gives σ (p ∷ ps) h = (ap (λ o. unwrap_or o (TyVar p.1)) h.0, hold_gives σ ps h.1)
