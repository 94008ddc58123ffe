-- The first rule that matches: by its number, and what rules make of a term by it.
use Rattle.std.proofs.Common.{◌≡◌, ℕ, suc, ◌+◌, List, [], ◌∷◌, refl, sym, ap, ◌∙◌, Option, Some, None, slice_get, arith}
use Rattle.std.specs.Option.{option_map, option_and_then, option_or}
use Rattle.hol_types.specs.Tree.{TypeTree}
use Rattle.hol_terms.specs.Nameless.{Nameless}
use Rattle.hol_match.specs.Instance.{InstanceValue, instantiated}
use Rattle.hol_match.specs.RuleSets.{RuleEntry, fit, fit_under, first_entry, first_fit, or_later}
use Rattle.hol_match.specs.Contracta.{contracta, contracted, contractum}
use Rattle.hol_match.specs.declared.set_rule.SetRule.{SetRule}
use Rattle.hol_match.specs.SetView.{set_rule, set_rules}
use Rattle.hol_match.proofs.Contracta.{at_number}

-- ---- by its number
abbrev later : ℕ × InstanceValue → ℕ × InstanceValue
later f = (suc f.0, f.1)

counted_on : (i : ℕ) (es : List RuleEntry) (t : Nameless) → first_fit (i + 1) es t ≡ option_map later (first_fit i es t)
counted_on i [] t = refl
counted_on i (e ∷ es) t = ap (or_later (i + 1) (fit e t)) (counted_on (i + 1) es t) ∙ by (fit e t)
  where
    by : (o : Option InstanceValue) → or_later (i + 1) o (option_map later (first_fit (i + 1) es t)) ≡ option_map later (or_later i o (first_fit (i + 1) es t))
    by None = refl
    by (Some a) = let next : i + 1 ≡ suc i = omega arith in ap (λ n. Some (n, a)) next

got_later : (e : RuleEntry) (es : List RuleEntry) (o : Option (ℕ × InstanceValue)) → option_and_then (λ f. slice_get (e ∷ es) f.0) (option_map later o) ≡ option_and_then (λ f. slice_get es f.0) o
got_later e es None = refl
got_later e es (Some f) = refl

pub first_found : (es : List RuleEntry) (t : Nameless) → first_entry es [] t ≡ option_and_then (λ f. slice_get es f.0) (first_fit 0 es t)
first_found [] t = refl
first_found (e ∷ es) t = by (fit e t) (first_found es t)
  where
    by : (o : Option InstanceValue) → first_entry es [] t ≡ option_and_then (λ f. slice_get es f.0) (first_fit 0 es t) → option_or (option_map (λ a. e) o) (first_entry es [] t) ≡ option_and_then (λ f. slice_get (e ∷ es) f.0) (or_later 0 o (first_fit 1 es t))
    by None r = r ∙ sym (got_later e es (first_fit 0 es t)) ∙ ap (option_and_then (λ f. slice_get (e ∷ es) f.0)) (sym (counted_on 0 es t))
    by (Some a) r = refl

-- ---- in a set
pub found_entry : (rules : List SetRule) (t : Nameless) (f : ℕ × InstanceValue) (r : SetRule) → first_fit 0 (set_rules rules) t ≡ Some f → slice_get rules f.0 ≡ Some r → first_entry (set_rules rules) [] t ≡ Some (set_rule r)
found_entry rules t f r h k =
    first_found (set_rules rules) t ∙ ap (option_and_then (λ (z : ℕ × InstanceValue). slice_get (set_rules rules) z.0)) h ∙ at_number rules f.0 r k

pub no_entry : (rules : List SetRule) (t : Nameless) → first_fit 0 (set_rules rules) t ≡ None → first_entry (set_rules rules) [] t ≡ None
no_entry rules t h = first_found (set_rules rules) t ∙ ap (option_and_then (λ (z : ℕ × InstanceValue). slice_get (set_rules rules) z.0)) h

-- ---- what rules make of a term
pub made_by_first : (es : List RuleEntry) (env : List TypeTree) (t : Nameless) → contractum env es t ≡ option_and_then (λ e. contracted env e t) (first_entry es env t)
made_by_first [] env t = refl
made_by_first (e ∷ es) env t = by (fit_under env e t) refl (made_by_first es env t)
  where
    by : (o : Option InstanceValue) → fit_under env e t ≡ o → contractum env es t ≡ option_and_then (λ d. contracted env d t) (first_entry es env t) → option_or (option_map (λ a. instantiated a 0 e.rule.right) o) (contractum env es t) ≡ option_and_then (λ d. contracted env d t) (option_or (option_map (λ a. e) o) (first_entry es env t))
    by None q r = r
    by (Some a) q r = ap (option_map (λ b. instantiated b 0 e.rule.right)) (sym q)

-- rules make the same of all terms where the first of them is the same
pub same_contracta : (xs ys : List RuleEntry) → first_entry xs ≡ first_entry ys → contracta xs ≡ contracta ys
same_contracta xs ys h = λ k env t. (made_by_first xs env t ∙ ap (λ (f : List TypeTree → Nameless → Option RuleEntry). option_and_then (λ e. contracted env e t) (f env t)) h ∙ sym (made_by_first ys env t)) k
