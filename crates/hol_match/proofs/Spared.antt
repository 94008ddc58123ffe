-- Rules that are left out, since one before them matches the same terms.
use Rattle.std.proofs.Common.{◌≡◌, ℕ, zero, suc, ◌+◌, ◌<◌, ◌≤◌, List, [], ◌∷◌, ◌++◌, map, length, take, get_or, slice_get, refl, sym, ap, ◌∙◌, subst, Bool, true, false, not, ◌&&◌, Option, Some, None, take_all}
use Rattle.std.specs.Option.{option_map, option_or, option_and_then}
use Rattle.std.proofs.lemmas.Bool.{and_parts}
use Rattle.std.proofs.lemmas.List.{map-append, take_more}
use Rattle.std.proofs.lemmas.Option.{slice_get-get_or}
use Rattle.hol_types.specs.Tree.{TypeTree}
use Rattle.hol_terms.specs.Nameless.{Nameless, free, bound, fixed, app, lam, free_occurrences}
use Rattle.hol_terms.specs.Scoped.{binds}
use Rattle.hol_terms.specs.Alpha.{strip}
use Rattle.hol_formulas.specs.Equation.{dest_comb}
use Rattle.hol_formulas.specs.Formula.{dest_abs}
use Rattle.hol_kernel.specs.Given.{Given}
use Rattle.hol_match.specs.Apart.{is_named, are_apart, rule_variables}
use Rattle.hol_match.specs.Contracta.{contracta}
use Rattle.hol_match.specs.Instance.{InstanceValue}
use Rattle.hol_match.specs.Matching.{matched_under, with_type}
use Rattle.hol_match.specs.Spared.{IsAgain, ComesAgain, IsSpared}
use Rattle.hol_match.specs.RuleSets.{RuleEntry, beside, fit_under, first_entry}
use Rattle.hol_match.specs.SetView.{set_rule, set_rules, set_given, AreOf}
use Rattle.hol_match.specs.declared.set_rule.SetRule.{SetRule}
use Rattle.hol_match.proofs.Apartness.{apart_of, tested_apart}
use Rattle.hol_match.proofs.FirstEntries.{same_contracta}
use Rattle.hol_match.proofs.Repeated.{joined, or_spared}

some_same : {A : Type 0} (x y : A) → Some x ≡ Some y → x ≡ y
some_same x y h = cc

none_some : {A : Type 0} (x : A) → None ≡ Some x → ⊥
none_some x h = absurd (cc)

-- ---- a match doesn't look at the names of a pattern's bound variables
module _ (env : List TypeTree) where
  stripped : (k : ℕ) (p : Nameless) (found : InstanceValue) (t : Nameless) → matched_under env k (strip p) found t ≡ matched_under env k p found t
  stripped k (free v) found t = refl
  stripped k (bound i) found t = refl
  stripped k (fixed c s) found t = refl
  stripped k (app f x) found t = λ i. option_and_then (λ q. option_and_then (λ more. stripped k x more q.1 i) (stripped k f found q.0 i)) (dest_comb t)
  stripped k (lam a s b) found t = λ i. option_and_then (λ q. option_and_then (λ more. stripped (k + 1) b more q.body i) (with_type s found q.domain)) (dest_abs t)

  alike : (p q : Nameless) (found : InstanceValue) (t : Nameless) → strip p ≡ strip q → matched_under env 0 p found t ≡ matched_under env 0 q found t
  alike p q found t h = sym (stripped 0 p found t) ∙ ap (λ n. matched_under env 0 n found t) h ∙ stripped 0 q found t

  again_fits : (e r : SetRule) (t : Nameless) → IsAgain e r → fit_under env (set_rule e) t ≡ fit_under env (set_rule r) t
  again_fits e r t h =
      (λ i. option_map (beside (h.stays i)) (matched_under env 0 (set_rule e).rule.left (h.stays i) t))
      ∙ ap (option_map (beside (set_rule r).stays)) (alike (set_rule e).rule.left (set_rule r).rule.left (set_rule r).stays t h.side)

  -- ---- the first one that matches
  abbrev own : SetRule → Nameless → Option RuleEntry
  own r t = option_map (λ a. set_rule r) (fit_under env (set_rule r) t)

  none_of : (rules : List SetRule) (t : Nameless) (k : ℕ) (e : SetRule) → slice_get rules k ≡ Some e → first_entry (set_rules rules) env t ≡ None → fit_under env (set_rule e) t ≡ None
  none_of [] t k e at h = absurd (none_some e at)
  none_of (x ∷ rules) t zero e at h = by (fit_under env (set_rule x) t) refl h
    where
      by : (o : Option InstanceValue) → fit_under env (set_rule x) t ≡ o → option_or (option_map (λ a. set_rule x) o) (first_entry (set_rules rules) env t) ≡ None → fit_under env (set_rule e) t ≡ None
      by None f g = ap (λ z. fit_under env (set_rule z) t) (sym (some_same x e at)) ∙ f
      by (Some a) f g = absurd (none_some (set_rule x) (sym g))
  none_of (x ∷ rules) t (suc k) e at h = by (fit_under env (set_rule x) t) h (none_of rules t k e at)
    where
      by : (o : Option InstanceValue) → option_or (option_map (λ a. set_rule x) o) (first_entry (set_rules rules) env t) ≡ None → (first_entry (set_rules rules) env t ≡ None → fit_under env (set_rule e) t ≡ None) → fit_under env (set_rule e) t ≡ None
      by None g more = more g
      by (Some a) g more = absurd (none_some (set_rule x) (sym g))

  or_last : (o : Option RuleEntry) → option_or o None ≡ o
  or_last None = refl
  or_last (Some e) = refl

  -- one more at the end
  last_entry : (rules : List SetRule) (r : SetRule) (t : Nameless) → first_entry (set_rules (rules ++ r ∷ [])) env t ≡ option_or (first_entry (set_rules rules) env t) (own r t)
  last_entry rules r t =
      ap (λ es. first_entry es env t) (map-append set_rule rules (r ∷ [])) ∙ joined env t (set_rules rules) (set_rules (r ∷ []))
      ∙ ap (option_or (first_entry (set_rules rules) env t)) (or_last (own r t))

  again_entry : (rules : List SetRule) (r : SetRule) (t : Nameless) → ComesAgain rules r → option_or (first_entry (set_rules rules) env t) (own r t) ≡ first_entry (set_rules rules) env t
  again_entry rules r t h =
      or_spared (first_entry (set_rules rules) env t) (own r t)
      (λ none. ap (option_map (λ a. set_rule r)) (sym (again_fits h.earlier r t h.again) ∙ none_of rules t h.place h.earlier h.at none))

-- ---- what is of what was given, and what is apart
given_last : (gs : List Given) (rules : List SetRule) (r : SetRule) → AreOf gs (rules ++ r ∷ []) → AreOf gs rules × (slice_get gs r.theorem ≡ Some (set_given r))
given_last gs [] r h = (tt, h.0)
given_last gs (x ∷ rules) r h = let p = given_last gs rules r h.1 in ((h.0, p.0), p.1)

given_push : (gs : List Given) (rules : List SetRule) (r : SetRule) → AreOf gs rules → slice_get gs r.theorem ≡ Some (set_given r) → AreOf gs (rules ++ r ∷ [])
given_push gs [] r h e = (e, tt)
given_push gs (x ∷ rules) r h e = (h.0, given_push gs rules r h.1 e)

abbrev apart_one : RuleEntry → List ℕ × TypeTree → Bool
apart_one e v = are_apart (e ∷ []) v

apart_last : (rules : List SetRule) (r : SetRule) (v : List ℕ × TypeTree) → are_apart (set_rules (rules ++ r ∷ [])) v ≡ (are_apart (set_rules rules) v && apart_one (set_rule r) v)
apart_last [] r v = refl
apart_last (x ∷ rules) r v =
    let a = not (binds (map (λ (p : Nameless × (List ℕ × TypeTree)). p.1) (set_rule x).stays.terms) v) in
    let b = not (is_named (free_occurrences (set_rule x).rule.right) v.0) in
    ap (λ z. a && (b && z)) (apart_last rules r v) ∙ grouped a b (are_apart (set_rules rules) v) (apart_one (set_rule r) v)
  where
    grouped : (a b c d : Bool) → (a && (b && (c && d))) ≡ ((a && (b && c)) && d)
    grouped true true c d = refl
    grouped true false c d = refl
    grouped false b c d = refl

-- ---- the loop
pub spared_none : (rules : List SetRule) → IsSpared rules rules
spared_none rules = record { first = refl; given = λ gs h. h; apart = λ v h. h }

module _ (rules kept : List SetRule) (i : ℕ) (r : SetRule) (l : i < length rules) (e : r ≡ get_or rules i r) (so : IsSpared (take i rules) kept) where
  more : take (i + 1) rules ≡ take i rules ++ r ∷ []
  more = take_more rules i r l ∙ ap (λ x. take i rules ++ x ∷ []) (sym e)

  first_so : (env : List TypeTree) (t : Nameless) → first_entry (set_rules kept) env t ≡ first_entry (set_rules (take i rules)) env t
  first_so env t = ap (λ (f : List TypeTree → Nameless → Option RuleEntry). f env t) so.first

  first_whole : (env : List TypeTree) (t : Nameless) → first_entry (set_rules (take (i + 1) rules)) env t ≡ option_or (first_entry (set_rules kept) env t) (own env r t)
  first_whole env t =
      ap (λ rs. first_entry (set_rules rs) env t) more ∙ last_entry env (take i rules) r t ∙ ap (λ o. option_or o (own env r t)) (sym (first_so env t))

  pub spared_again : ComesAgain kept r → IsSpared (take (i + 1) rules) kept
  spared_again h = record {
    first = λ j env t. (sym (again_entry env kept r t h) ∙ sym (first_whole env t)) j;
    given = λ gs k. so.given gs (given_last gs (take i rules) r (subst (AreOf gs) more k)).0;
    apart = λ v k. so.apart v (and_parts (are_apart (set_rules (take i rules)) v) (apart_one (set_rule r) v) (sym (ap (λ rs. are_apart (set_rules rs) v) more ∙ apart_last (take i rules) r v) ∙ k)).0;
  }

  pub spared_next : (new : List SetRule) (z : SetRule) → new ≡ kept ++ z ∷ [] → set_rule z ≡ set_rule r → set_given z ≡ set_given r → IsSpared (take (i + 1) rules) new
  spared_next new z is same given = subst (IsSpared (take (i + 1) rules)) (sym is) (record {
    first = λ j env t. (last_entry env kept z t ∙ ap (λ (x : RuleEntry). option_or (first_entry (set_rules kept) env t) (option_map (λ a. x) (fit_under env x t))) same ∙ sym (first_whole env t)) j;
    given = λ gs k.
        let p = given_last gs (take i rules) r (subst (AreOf gs) more k) in
        given_push gs kept z (so.given gs p.0) (ap (λ (x : RuleEntry). slice_get gs x.theorem) same ∙ p.1 ∙ ap (λ g. Some g) (sym given));
    apart = λ v k.
        let p = and_parts (are_apart (set_rules (take i rules)) v) (apart_one (set_rule r) v) (sym (ap (λ rs. are_apart (set_rules rs) v) more ∙ apart_last (take i rules) r v) ∙ k) in
        apart_last kept z v ∙ rw (so.apart v p.0, ap (λ x. apart_one x v) same ∙ p.1) refl;
  })

pub spared_all : (rules kept : List SetRule) (i : ℕ) → length rules ≤ i → IsSpared (take i rules) kept → IsSpared rules kept
spared_all rules kept i l h = subst (λ rs. IsSpared rs kept) (take_all i rules l) h

pub ruleset loops = (spared_again, spared_next, spared_all, spared_none)

pub again_at : (kept : List SetRule) (i : ℕ) (e r : SetRule) → i < length kept → e ≡ get_or kept i e → IsAgain e r → ComesAgain kept r
again_at kept i e r l at h = record { place = i; earlier = e; at = slice_get-get_or kept i e l ∙ ap (λ y. Some y) (sym at); again = h }

pub again_of : (e r : SetRule) → strip (set_rule e).rule.left ≡ strip (set_rule r).rule.left → (set_rule e).stays ≡ (set_rule r).stays → IsAgain e r
again_of e r side stays = record { side = side; stays = stays }

-- ---- the set that is made of them
pub spared_first : (all kept : List SetRule) (f : List TypeTree → Nameless → Option RuleEntry) → IsSpared all kept → first_entry (set_rules all) ≡ f → first_entry (set_rules kept) ≡ f
spared_first all kept f so h = so.first ∙ h

pub spared_contracta : (all kept : List SetRule) (f : List TypeTree → Nameless → Option Nameless) → IsSpared all kept → contracta (set_rules all) ≡ f → contracta (set_rules kept) ≡ f
spared_contracta all kept f so h = same_contracta (set_rules kept) (set_rules all) so.first ∙ h

pub spared_given : (all kept : List SetRule) (gs : List Given) → IsSpared all kept → AreOf gs all → AreOf gs kept
spared_given all kept gs so h = so.given gs h

pub own_apart : (all kept : List SetRule) (vs : List (List ℕ × TypeTree)) → vs ≡ rule_variables [] (set_rules all) → IsSpared all kept → (v : List ℕ × TypeTree) → is_named vs v.0 ≡ false → are_apart (set_rules kept) v ≡ true
own_apart all kept vs e so v h = so.apart v (tested_apart (set_rules all) v (apart_of [] (set_rules all) v (sym (ap (λ us. is_named us v.0) e) ∙ h)))

pub ruleset sparing = (spared_first, spared_contracta, spared_given, own_apart)
