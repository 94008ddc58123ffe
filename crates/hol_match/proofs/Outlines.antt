-- A pattern of another outline than the term doesn't match it; and how deep outlines are looked at.
use Rattle.std.proofs.Common.{◌≡◌, ℕ, ◌+◌, ◌≤◌, ◌<◌, length, drop, get_or, max, nat_lt, ◌||◌, List, [], ◌∷◌, refl, sym, ap, ◌∙◌, Bool, true, false, ◌&&◌, cond, Option, Some, None, arith}
use Rattle.std.specs.Option.{option_map, option_and_then}
use Rattle.std.proofs.lemmas.Bool.{lt-ltb, le-ltb}
use Rattle.std.proofs.lemmas.List.{drop_all}
use Rattle.hol_types.specs.Tree.{TypeTree}
use Rattle.hol_types.proofs.Steps.{next_of}
use Rattle.hol_terms.specs.Named.{Named}
use Rattle.hol_terms.specs.Nameless.{Nameless, free, bound, fixed, app, lam, nameless}
use Rattle.hol_terms.specs.Size.{term_size, named_size}
use Rattle.hol_terms.proofs.Size.{size_is}
use Rattle.hol_match.specs.Instance.{InstanceValue}
use Rattle.hol_match.specs.Outlines.{is_named, is_abstraction, may_match, depth, rules_depth, has_large_side}
use Rattle.hol_match.specs.Matching.{matched, matched_under, with_type, constant_meets}
use Rattle.hol_match.specs.RuleSets.{RuleEntry, beside, fit}
use Rattle.hol_match.specs.SetView.{set_rule, set_rules}
use Rattle.hol_match.specs.declared.set_rule.SetRule.{SetRule}

constant_apart : (c : List ℕ) (s : TypeTree) (found : InstanceValue) (t : Nameless) → is_named c t ≡ false → constant_meets c s found t ≡ None
constant_apart c s found (free v) h = refl
constant_apart c s found (bound i) h = refl
constant_apart c s found (app f x) h = refl
constant_apart c s found (lam a u b) h = refl
constant_apart c s found (fixed d u) h = ap (λ b. cond b (with_type s found u) None) h

none_after : (F : InstanceValue → Option InstanceValue) → ((m : InstanceValue) → F m ≡ None) → (o : Option InstanceValue) → option_and_then F o ≡ None
none_after F h None = refl
none_after F h (Some m) = h m

-- of terms under binders of the types env
module _ (env : List TypeTree) where
  app_apart : (k : ℕ) (p q f x : Nameless) (found : InstanceValue) → (may_match p f && may_match q x) ≡ false → (may_match p f ≡ false → matched_under env k p found f ≡ None) → ((more : InstanceValue) → may_match q x ≡ false → matched_under env k q more x ≡ None) → option_and_then (λ more. matched_under env k q more x) (matched_under env k p found f) ≡ None
  app_apart k p q f x found h first second = by (may_match p f) refl
    where
      by : (b : Bool) → may_match p f ≡ b → option_and_then (λ more. matched_under env k q more x) (matched_under env k p found f) ≡ None
      by false e = ap (option_and_then (λ more. matched_under env k q more x)) (first e)
      by true e = none_after (λ more. matched_under env k q more x) (λ more. second more (sym (ap (λ b. b && may_match q x) e) ∙ h)) (matched_under env k p found f)

  lam_apart : (k : ℕ) (a : List ℕ) (s : TypeTree) (b : Nameless) (found : InstanceValue) (t : Nameless) → is_abstraction t ≡ false → matched_under env k (lam a s b) found t ≡ None
  lam_apart k a s b found (free v) h = refl
  lam_apart k a s b found (bound i) h = refl
  lam_apart k a s b found (fixed c u) h = refl
  lam_apart k a s b found (app f x) h = refl
  lam_apart k a s b found (lam c u d) h = absurd (cc)

  pub apart_under : (k : ℕ) (p : Nameless) (found : InstanceValue) (t : Nameless) → may_match p t ≡ false → matched_under env k p found t ≡ None
  apart_under k (free v) found t h = absurd (cc)
  apart_under k (bound i) found t h = absurd (cc)
  apart_under k (lam a s b) found t h = lam_apart k a s b found t h
  apart_under k (fixed c s) found t h = constant_apart c s found t h
  apart_under k (app p q) found (free v) h = refl
  apart_under k (app p q) found (bound i) h = refl
  apart_under k (app p q) found (fixed c s) h = refl
  apart_under k (app p q) found (lam a s b) h = refl
  apart_under k (app p q) found (app f x) h = app_apart k p q f x found h (λ e. apart_under k p found f e) (λ more e. apart_under k q more x e)

pub apart : (k : ℕ) (p : Nameless) (found : InstanceValue) (t : Nameless) → may_match p t ≡ false → matched k p found t ≡ None
apart k p found t h = apart_under [] k p found t h

pub fit_apart : (e : RuleEntry) (p t : Nameless) → p ≡ e.rule.left → may_match p t ≡ false → fit e t ≡ None
fit_apart e p t g h = ap (option_map (beside e.stays)) (apart 0 e.rule.left e.stays t (sym (ap (λ q. may_match q t) g) ∙ h))

-- something is looked at, whatever the rules are
pub looked_at : (es : List RuleEntry) → 1 ≤ rules_depth es
looked_at [] = omega arith
looked_at (e ∷ es) = let more : 1 ≤ rules_depth es = looked_at es in omega arith

-- ---- large sides

-- one of the rules, whose left side is p, is large where p has so many nodes
module _ (rules : List SetRule) (i : ℕ) (r : SetRule) (p : Named) (l : i < length rules) (e : r ≡ get_or rules i r) (side : nameless [] p ≡ (set_rule r).rule.left) (before : has_large_side (set_rules rules) ≡ has_large_side (set_rules (drop i rules))) where
  size : term_size [] (set_rule r).rule.left ≡ named_size p
  size = ap (term_size []) (sym side) ∙ size_is p

  parts : has_large_side (set_rules rules) ≡ (nat_lt 20000 (named_size p) || has_large_side (set_rules (drop (i + 1) rules)))
  parts = before ∙ ap (λ rs. has_large_side (set_rules rs)) (next_of rules i r l e) ∙ ap (λ n. nat_lt 20000 n || has_large_side (set_rules (drop (i + 1) rules))) size

  pub large_later : named_size p ≤ 20000 → has_large_side (set_rules rules) ≡ has_large_side (set_rules (drop (i + 1) rules))
  large_later k = parts ∙ ap (λ b. b || has_large_side (set_rules (drop (i + 1) rules))) (le-ltb 20000 (named_size p) k)

  pub large_here : 20000 < named_size p → has_large_side (set_rules rules) ≡ true
  large_here k = parts ∙ ap (λ b. b || has_large_side (set_rules (drop (i + 1) rules))) (lt-ltb 20000 (named_size p) k)

-- the depth of the rules from one of them on
pub depth_next :
    (rules : List SetRule) (i : ℕ) (r : SetRule) (p : Named) (most d new : ℕ) → i < length rules → r ≡ get_or rules i r → nameless [] p ≡ (set_rule r).rule.left →
    rules_depth (set_rules rules) ≡ max most (rules_depth (set_rules (drop i rules))) → d ≡ depth (nameless [] p) → new ≡ max d most →
    rules_depth (set_rules rules) ≡ max new (rules_depth (set_rules (drop (i + 1) rules)))
depth_next rules i r p most d new l e side before is last =
    let parts : rules_depth (set_rules rules) ≡ max most (max (depth (set_rule r).rule.left) (rules_depth (set_rules (drop (i + 1) rules)))) =
    before ∙ ap (λ rs. max most (rules_depth (set_rules rs))) (next_of rules i r l e) in
    let own : d ≡ depth (set_rule r).rule.left = is ∙ ap depth side in
    omega (arith, parts, own, last)

pub none_large : (rules : List SetRule) (i : ℕ) → length rules ≤ i → has_large_side (set_rules rules) ≡ has_large_side (set_rules (drop i rules)) → has_large_side (set_rules rules) ≡ false
none_large rules i l e = e ∙ ap (λ rs. has_large_side (set_rules rs)) (drop_all i rules l)
