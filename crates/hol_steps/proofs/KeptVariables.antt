-- What a theorem's own variables become that a match doesn't determine.
use Rattle.std.specs.Prelude.{◌≡◌, ◌≤◌, ℕ, Bool, true, false, cond, ◌&&◌, ◌||◌, List, [], ◌∷◌, ◌++◌, map, drop, length, Some, None, Result, Ok, Err, OnOk, refl}
use Rattle.std.specs.List.{AllByRecursion, filter, zip, list_any}
use Rattle.std.specs.FinSet as set
use Rattle.std.proofs.Common.{ap, sym, ◌∙◌, subst}
use Rattle.std.proofs.lemmas.Bool.{or_left, or_right}
use Rattle.std.proofs.lemmas.List.{append-nil, append_assoc, map-append, drop_all}
use Rattle.hol_types.specs.Tree.{TypeTree}
use Rattle.hol_types.specs.Equal.{variable_eq}
use Rattle.hol_types.specs.Subst.{type_for, type_subst}
use Rattle.hol_terms.specs.Named.{Named, var}
use Rattle.hol_terms.specs.Nameless.{Nameless, free, nameless, nameless_type, free_occurrences}
use Rattle.hol_terms.specs.Primes.{HasFewestPrimes}
use Rattle.hol_terms.specs.Scoped.{binds}
use Rattle.hol_terms.proofs.Same.{variable_eq_decides}
use Rattle.hol_subst.specs.FreeName.{is_taken, IsFreeName}
use Rattle.hol_subst.specs.Hypotheses.{Hyps, hyps_of}
use Rattle.hol_subst.specs.Substitution.{term_lookup, variable_inst}
use Rattle.hol_subst.specs.Variant.{is_free_in}
use Rattle.hol_subst.proofs.Closing.{eq_same}
use Rattle.hol_kernel.specs.Items.{Items}
use Rattle.hol_kernel.specs.Typing.{is_type, HasType, are_typed_for}
use Rattle.hol_kernel.proofs.Declared.{has_type_of}
use Rattle.hol_kernel.proofs.Variables.{variable_typed}
use Rattle.hol_match.specs.FreeNames.{free_name}
use Rattle.hol_match.specs.Instance.{InstanceValue, instance_of}
use Rattle.hol_match.proofs.FreshNames.{found_free_name, is_free_name}
use Rattle.hol_match.proofs.Staying.{type_same}
use Rattle.hol_just.specs.MatchMp.{is_undetermined, own_name, kept}
use Rattle.hol_just.proofs.MatchApart.{free_listed}
use Rattle.hol_steps.specs.Fresh.{AreAlike, HaveSame}
use Rattle.hol_steps.specs.Matching.{kept_of, IsKept}
use Rattle.hol_steps.proofs.Instances.{free_in_list}
use Rattle.hol_steps.proofs.TermsBy.{free_in_both, taken_in_both, taken_in_hyps}

abbrev Variable : Type 0
Variable = List ℕ × TypeTree

abbrev Pair : Type 0
Pair = Variable × Variable

-- ---- one

pub own_name_type : (terms : List Nameless) (v : Variable) → (own_name terms v).1 ≡ v.1
own_name_type terms v = by (is_free_in terms v)
  where
    by : (b : Bool) → (cond b (free_name terms v.0, v.1) v).1 ≡ v.1
    by true = refl
    by false = refl

-- what it is called, by the terms p and those before it
abbrev called : List (TypeTree × List ℕ) → List Nameless → Pair → Variable
called types terms p = own_name terms (p.0.0, (variable_inst types p.1).1)

-- ---- what is kept

module _ (types : List (TypeTree × List ℕ)) where
  -- a variable whose name none of those that are called apart has takes nothing
  pub kept_none : (terms : List Nameless) (ps : List ((List ℕ × TypeTree) × (List ℕ × TypeTree))) (v : List ℕ × TypeTree) → AllByRecursion (λ p. p.1.0 ≡ v.0 → ⊥) ps → term_lookup (kept types terms ps) v ≡ None
  kept_none terms [] v h = refl
  kept_none terms (p ∷ ps) v h = by (variable_eq (variable_inst types p.1) v) refl (kept_none (terms ++ free (called types terms p) ∷ []) ps v h.1)
    where
      by :
          (b : Bool) → variable_eq (variable_inst types p.1) v ≡ b → term_lookup (kept types (terms ++ free (called types terms p) ∷ []) ps) v ≡ None →
          cond b (Some (free (called types terms p))) (term_lookup (kept types (terms ++ free (called types terms p) ∷ []) ps) v) ≡ None
      by true e k = absurd (h.0 (ap (λ (z : Variable). z.0) ((variable_eq_decides (variable_inst types p.1) v).0 e)))
      by false e k = k

  -- each takes a term of its type
  pub kept_typed : (terms : List Nameless) (ps : List ((List ℕ × TypeTree) × (List ℕ × TypeTree))) (v : List ℕ × TypeTree) (n : Nameless) → term_lookup (kept types terms ps) v ≡ Some n → nameless_type [] n ≡ Some v.1
  kept_typed terms [] v n h = absurd (cc)
  kept_typed terms (p ∷ ps) v n h = by (variable_eq (variable_inst types p.1) v) refl h (kept_typed (terms ++ free (called types terms p) ∷ []) ps v n)
    where
      by :
          (b : Bool) → variable_eq (variable_inst types p.1) v ≡ b →
          cond b (Some (free (called types terms p))) (term_lookup (kept types (terms ++ free (called types terms p) ∷ []) ps) v) ≡ Some n →
          (term_lookup (kept types (terms ++ free (called types terms p) ∷ []) ps) v ≡ Some n → nameless_type [] n ≡ Some v.1) → nameless_type [] n ≡ Some v.1
      by true e g k =
          let same : free (called types terms p) ≡ n = cc in
          let mine : (called types terms p).1 ≡ v.1 = own_name_type terms (p.0.0, (variable_inst types p.1).1) ∙ ap (λ (z : Variable). z.1) ((variable_eq_decides (variable_inst types p.1) v).0 e) in
          ap (nameless_type []) (sym same) ∙ ap (λ s. Some s) mine
      by false e g k = k g

  pub kept_stands :
      (basis : Items) (terms : List Nameless) (ps : List ((List ℕ × TypeTree) × (List ℕ × TypeTree))) → AllByRecursion (λ p. is_type basis (variable_inst types p.1).1 ≡ true) ps → are_typed_for basis (kept types terms ps) ≡ true
  kept_stands basis terms [] h = refl
  kept_stands basis terms (p ∷ ps) h =
      let v = called types terms p in
      let s = (variable_inst types p.1).1 in
      let own = own_name_type terms (p.0.0, s) in
      let typed : HasType basis (free v) s = subst (λ a. HasType basis (free v) a) own (variable_typed basis v (ap (is_type basis) own ∙ h.0)) in
      λ i. has_type_of basis (free v) s typed i && kept_stands basis (terms ++ free v ∷ []) ps h.1 i

-- by types that give the same
pub kept_same_types :
    (g f : List (TypeTree × List ℕ)) → ((x : List ℕ) → type_for g x ≡ type_for f x) → (terms : List Nameless) (ps : List ((List ℕ × TypeTree) × (List ℕ × TypeTree))) → kept g terms ps ≡ kept f terms ps
kept_same_types g f h terms [] = refl
kept_same_types g f h terms (p ∷ ps) =
    let same : variable_inst g p.1 ≡ variable_inst f p.1 = λ i. (p.1.0, type_same g f p.1.1 h i) in
    let v = called f terms p in
    ap (λ (u : Variable). (free (own_name terms (p.0.0, u.1)), u) ∷ kept g (terms ++ free (own_name terms (p.0.0, u.1)) ∷ []) ps) same
    ∙ ap (λ (qs : List (Nameless × Variable)). (free v, variable_inst f p.1) ∷ qs) (kept_same_types g f h (terms ++ free v ∷ []) ps)

-- ---- by terms that have the same names and free variables

names_same : (ns ms : List Nameless) (a : List ℕ) → AreAlike ns ms → free_name ns a ≡ free_name ms a
names_same ns ms a alike =
    is_free_name ms a (free_name ns a) (subst (λ (taken : List ℕ → Bool). HasFewestPrimes (λ b. taken b ≡ true) a (free_name ns a)) (λ i b. alike b i) (found_free_name ns a))

own_same : (ns ms : List Nameless) (v : Variable) → HaveSame ns ms → own_name ns v ≡ own_name ms v
own_same ns ms v h =
    ap (λ b. cond b (free_name ns v.0, v.1) v) (h.1 v) ∙ ap (λ (a : List ℕ). cond (is_free_in ms v) (a, v.1) v) (names_same ns ms v.0 h.0)

same_more : (ns ms : List Nameless) (n : Nameless) → HaveSame ns ms → HaveSame (ns ++ n ∷ []) (ms ++ n ∷ [])
same_more ns ms n h = (
  λ a. taken_in_both ns (n ∷ []) a ∙ ap (λ b. b || is_taken (n ∷ []) a) (h.0 a) ∙ sym (taken_in_both ms (n ∷ []) a),
  λ v. free_in_both ns (n ∷ []) v ∙ ap (λ b. b || is_free_in (n ∷ []) v) (h.1 v) ∙ sym (free_in_both ms (n ∷ []) v),
)

pub kept_same_terms :
    (types : List (TypeTree × List ℕ)) (ns ms : List Nameless) (ps : List ((List ℕ × TypeTree) × (List ℕ × TypeTree))) → HaveSame ns ms → kept types ns ps ≡ kept types ms ps
kept_same_terms types ns ms [] h = refl
kept_same_terms types ns ms (p ∷ ps) h =
    let u = variable_inst types p.1 in
    let v = called types ns p in
    ap (λ (qs : List (Nameless × Variable)). (free v, u) ∷ qs) (kept_same_terms types (ns ++ free v ∷ []) (ms ++ free v ∷ []) ps (same_more ns ms (free v) h))
    ∙ ap (λ (w : Variable). (free w, u) ∷ kept types (ms ++ free w ∷ []) ps) (own_same ns ms (p.0.0, u.1) h)

-- the variables, as the program's terms, and hypotheses, as it lists them
vars_free : (vs : List Variable) → map (nameless []) (map var vs) ≡ map (λ v. free v) vs
vars_free [] = refl
vars_free (v ∷ vs) = ap (λ (ns : List Nameless). free v ∷ ns) (vars_free vs)

pub same_apart : (hs : Hyps) (ps all : List Named) (vs : List (List ℕ × TypeTree)) → hyps_of ps ≡ hs → all ≡ map var vs ++ ps → HaveSame (map (nameless []) all) (map (λ v. free v) vs ++ set.items hs)
same_apart hs ps all vs are is = (
  λ a.
      ap (λ (ns : List Nameless). is_taken ns a) parts ∙ taken_in_both (map (λ v. free v) vs) (map (nameless []) ps) a
      ∙ ap (λ b. is_taken (map (λ v. free v) vs) a || b) (sym (taken_in_hyps hs ps a are)) ∙ sym (taken_in_both (map (λ v. free v) vs) (set.items hs) a),
  λ v.
      ap (λ (ns : List Nameless). is_free_in ns v) parts ∙ free_in_both (map (λ v. free v) vs) (map (nameless []) ps) v
      ∙ ap (λ b. is_free_in (map (λ v. free v) vs) v || b) (sym (free_listed hs ps are v)) ∙ sym (free_in_both (map (λ v. free v) vs) (set.items hs) v),
)
  where
    parts : map (nameless []) all ≡ map (λ v. free v) vs ++ map (nameless []) ps
    parts = ap (map (nameless [])) is ∙ map-append (nameless []) (map var vs) ps ∙ ap (λ (ns : List Nameless). ns ++ map (nameless []) ps) (vars_free vs)

-- ---- one after the other

module _ (s t : Nameless) where
  pub all_undetermined :
      (P : List ℕ × TypeTree → Type 0) (own vs : List (List ℕ × TypeTree)) → ((u : List ℕ × TypeTree) → binds vs u ≡ true → is_undetermined s t u ≡ true → P u) →
      AllByRecursion (λ p. P p.1) (filter (λ p. is_undetermined s t p.1) (zip own vs))
  all_undetermined P [] vs h = tt
  all_undetermined P (v ∷ own) [] h = tt
  all_undetermined P (v ∷ own) (u ∷ vs) h = by (is_undetermined s t u) refl (all_undetermined P own vs (λ w e k. h w (or_right (variable_eq u w) (binds vs w) e) k))
    where
      by :
          (b : Bool) → is_undetermined s t u ≡ b → AllByRecursion (λ p. P p.1) (filter (λ p. is_undetermined s t p.1) (zip own vs)) →
          AllByRecursion (λ p. P p.1) (cond b ((v, u) ∷ filter (λ p. is_undetermined s t p.1) (zip own vs)) (filter (λ p. is_undetermined s t p.1) (zip own vs)))
      by true e r = (h u (or_left (variable_eq u u) (binds vs u) (eq_same u)) e, r)
      by false e r = r

  pub determined_kept : (p : (List ℕ × TypeTree) × (List ℕ × TypeTree)) (ns : List Nameless) (a : InstanceValue) → false ≡ is_undetermined s t p.1 → IsKept s t p ns ns a a
  determined_kept p ns a e = record {
    types = refl;
    goes = λ ps. ap (λ b. a.terms ++ kept a.types ns (cond b (p ∷ filter (λ q. is_undetermined s t q.1) ps) (filter (λ q. is_undetermined s t q.1) ps))) (sym e);
  }

  pub undetermined_kept :
      (p : (List ℕ × TypeTree) × (List ℕ × TypeTree)) (ns ms : List Nameless) (a b : InstanceValue) (own : TypeTree) → true ≡ is_undetermined s t p.1 → own ≡ type_subst a.types p.1.1 →
      ms ≡ ns ++ free (own_name ns (p.0.0, own)) ∷ [] → b ≡ instance_of a.types (a.terms ++ (free (own_name ns (p.0.0, own)), (p.1.0, own)) ∷ []) → IsKept s t p ns ms a b
  undetermined_kept p ns ms a b own e typed longer is = record {
    types = ap (λ (z : InstanceValue). z.types) is;
    goes = λ ps.
        let rest = filter (λ q. is_undetermined s t q.1) ps in
        ap (λ c. a.terms ++ kept a.types ns (cond c (p ∷ rest) rest)) (sym e)
        ∙ ap (λ (r : TypeTree). a.terms ++ ((free (own_name ns (p.0.0, r)), (p.1.0, r)) ∷ kept a.types (ns ++ free (own_name ns (p.0.0, r)) ∷ []) rest)) (sym typed)
        ∙ sym (append_assoc a.terms ((free (own_name ns (p.0.0, own)), (p.1.0, own)) ∷ []) (kept a.types (ns ++ free (own_name ns (p.0.0, own)) ∷ []) rest))
        ∙ (λ i. (sym is i).terms ++ kept a.types (sym longer i) rest);
  }

  -- the first of those that are left is done
  pub kept_next :
      (types : List (TypeTree × List ℕ)) (all : List (Nameless × (List ℕ × TypeTree))) (own vs apart us : List (List ℕ × TypeTree)) (v u : List ℕ × TypeTree) (ns ms : List Nameless) (a b : InstanceValue) → own ≡ v ∷ vs → apart ≡ u ∷ us →
      a.types ≡ types → IsKept s t (v, u) ns ms a b → all ≡ a.terms ++ kept_of s t types ns (zip own apart) → all ≡ b.terms ++ kept_of s t types ms (zip vs us)
  kept_next types all own vs apart us v u ns ms a b is are same k h =
      h ∙ (λ i. a.terms ++ kept_of s t (sym same i) ns (zip (is i) (are i))) ∙ k.goes (zip vs us) ∙ ap (λ (ts : List (TypeTree × List ℕ)). b.terms ++ kept_of s t ts ms (zip vs us)) same

  -- none is left
  pub kept_last :
      (types : List (TypeTree × List ℕ)) (all : List (Nameless × (List ℕ × TypeTree))) (own apart : List (List ℕ × TypeTree)) (ns : List Nameless) (a : InstanceValue) → own ≡ [] → a.types ≡ types →
      all ≡ a.terms ++ kept_of s t types ns (zip own apart) → a ≡ instance_of types all
  kept_last types all own apart ns a none same h =
      let ended : all ≡ a.terms = h ∙ ap (λ (vs : List (List ℕ × TypeTree)). a.terms ++ kept_of s t types ns (zip vs apart)) none ∙ append-nil a.terms in
      λ i. instance_of (same i) (sym ended i)

  pub kept_short :
      (types : List (TypeTree × List ℕ)) (all : List (Nameless × (List ℕ × TypeTree))) (own apart : List (List ℕ × TypeTree)) (ns : List Nameless) (a : InstanceValue) → apart ≡ [] → a.types ≡ types →
      all ≡ a.terms ++ kept_of s t types ns (zip own apart) → a ≡ instance_of types all
  kept_short types all own apart ns a none same h =
      let ended : all ≡ a.terms = h ∙ ap (λ (vs : List (List ℕ × TypeTree)). a.terms ++ kept_of s t types ns (zip own vs)) none ∙ by own ∙ append-nil a.terms in
      λ i. instance_of (same i) (sym ended i)
    where
      by : (vs : List (List ℕ × TypeTree)) → a.terms ++ kept_of s t types ns (zip vs []) ≡ a.terms ++ []
      by [] = refl
      by (v ∷ vs) = refl

-- ---- what calls say

pub own_is_kept : (terms : List Named) (v : List ℕ × TypeTree) → false ≡ list_any (λ p. binds (free_occurrences (nameless [] p)) v) terms → v ≡ own_name (map (nameless []) terms) v
own_is_kept terms v e =
    sym (ap (λ b. cond b (free_name (map (nameless []) terms) v.0, v.1) v) (sym (free_in_list terms v) ∙ sym e))

pub own_is_new :
    (terms : List Named) (v : List ℕ × TypeTree) (other : List ℕ) → true ≡ list_any (λ p. binds (free_occurrences (nameless [] p)) v) terms → IsFreeName (map (nameless []) terms) v.0 other →
    (other, v.1) ≡ own_name (map (nameless []) terms) v
own_is_new terms v other e fewest =
    (λ i. (is_free_name (map (nameless []) terms) v.0 other fewest i, v.1)) ∙ sym (ap (λ b. cond b (free_name (map (nameless []) terms) v.0, v.1) v) (sym (free_in_list terms v) ∙ sym e))

pub terms_longer : (avoid new : List Named) (term : Named) (v w : List ℕ × TypeTree) → new ≡ avoid ++ term ∷ [] → term ≡ var v → v ≡ w → map (nameless []) new ≡ map (nameless []) avoid ++ free w ∷ []
terms_longer avoid new term v w push is same =
    ap (map (nameless [])) push ∙ map-append (nameless []) avoid (term ∷ []) ∙ ap (λ (p : Named). map (nameless []) avoid ++ nameless [] p ∷ []) is
    ∙ ap (λ (u : List ℕ × TypeTree). map (nameless []) avoid ++ free u ∷ []) same

pub on_ok_both : {X E A B C : Type 0} (r : Result X E) → (A → B → C) → OnOk r A → OnOk r B → OnOk r C
on_ok_both (Ok x) f a b = f a b
on_ok_both (Err e) f a b = tt

pub all_vars : (vs : List (List ℕ × TypeTree)) (ts ps all : List Named) (i : ℕ) → map var vs ≡ ts ++ map var (drop i vs) → length vs ≤ i → all ≡ ts ++ ps → all ≡ map var vs ++ ps
all_vars vs ts ps all i h l is =
    is ∙ ap (λ (us : List Named). us ++ ps) (sym (h ∙ ap (λ (us : List (List ℕ × TypeTree)). ts ++ map var us) (drop_all i vs l) ∙ append-nil ts))
