-- Beta redexes as redexes of a turn, and terms that have no redex.
use Rattle.std.proofs.Common.{◌≡◌, ℕ, ◌+◌, List, [], ◌∷◌, refl, ap, ◌∙◌, true, false, Option, Some, None}
use Rattle.std.specs.Option.{option_map, option_or}
use Rattle.hol_types.specs.Tree.{TypeTree}
use Rattle.hol_terms.specs.Named.{Named, comb}
use Rattle.hol_terms.specs.Nameless.{Nameless, free, bound, fixed, app, lam, nameless}
use Rattle.hol_conv.specs.Beta.{reduct, beta_turn}
use Rattle.hol_match.specs.Contracta.{contractum, HasNoRedex}
use Rattle.hol_match.specs.Instance.{InstanceValue, instantiated}
use Rattle.hol_match.specs.RuleSets.{RuleEntry, fit, or_later, first_fit}
use Rattle.hol_match.specs.SetView.{set_rules}
use Rattle.hol_match.specs.declared.set_rule.SetRule.{SetRule}
use Rattle.hol_match.proofs.Contracta.{first_none}
use Rattle.hol_conv.specs.Redexes.{beta_contractum, is_applied_abstraction}
use Rattle.hol_conv.specs.Turns.{turn, all_turns}
use Rattle.hol_conv.proofs.Parts.{fits_itself}

pub beta_comb : (f x t : Named) (o : Option Nameless) → t ≡ comb f x → reduct (nameless [] f) (nameless [] x) ≡ o → beta_contractum (nameless [] t) ≡ o
beta_comb f x t o e h = ap (λ z. beta_contractum (nameless [] z)) e ∙ h

pub ruleset beta_redexes = (beta_comb, fits_itself)

beta_same : (env : List TypeTree) (n : Nameless) → turn (λ env m. beta_contractum m) env n ≡ beta_turn n
beta_same env (free v) = refl
beta_same env (bound i) = refl
beta_same env (fixed c s) = refl
beta_same env (app f x) = λ i. option_or (reduct f x) (option_or (option_map (λ g. app g x) (beta_same env f i)) (option_map (λ y. app f y) (beta_same env x i)))
beta_same env (lam a s b) = ap (option_map (λ d. lam a s d)) (beta_same (s ∷ env) b)

-- beta reduction's turns are those whose redexes are beta redexes
pub beta_turns : (n : ℕ) (t : Nameless) → all_turns (turn (λ env m. beta_contractum m) []) n t ≡ all_turns beta_turn n t
beta_turns n t = λ i. all_turns (λ m. beta_same [] m i) n t

-- ---- terms that are said to be none
pub no_beta_redex : (n : Nameless) → is_applied_abstraction n ≡ false → beta_contractum n ≡ None
no_beta_redex (free v) h = refl
no_beta_redex (bound i) h = refl
no_beta_redex (fixed c s) h = refl
no_beta_redex (app (free v) x) h = refl
no_beta_redex (app (bound i) x) h = refl
no_beta_redex (app (fixed c s) x) h = refl
no_beta_redex (app (app f y) x) h = refl
no_beta_redex (app (lam a s b) x) h = absurd (cc)
no_beta_redex (lam a s b) h = refl

pub no_rule_redex : (rules : List SetRule) (n : Nameless) → first_fit 0 (set_rules rules) n ≡ None → contractum [] (set_rules rules) n ≡ None
no_rule_redex rules n h = first_none 0 (set_rules rules) n h

pub beta_redex : (n : Nameless) → is_applied_abstraction n ≡ true → beta_contractum n ≡ None → ⊥
beta_redex (free v) h k = absurd (cc)
beta_redex (bound i) h k = absurd (cc)
beta_redex (fixed c s) h k = absurd (cc)
beta_redex (app (free v) x) h k = absurd (cc)
beta_redex (app (bound i) x) h k = absurd (cc)
beta_redex (app (fixed c s) x) h k = absurd (cc)
beta_redex (app (app f y) x) h k = absurd (cc)
beta_redex (app (lam a s b) x) h k = absurd (cc)
beta_redex (lam a s b) h k = absurd (cc)

first_redex : (i : ℕ) (es : List RuleEntry) (t : Nameless) (f : ℕ × InstanceValue) → first_fit i es t ≡ Some f → contractum [] es t ≡ None → ⊥
first_redex i [] t f h k = absurd (cc)
first_redex i (e ∷ es) t f h k = by (fit e t) (first_redex (i + 1) es t f) h k
  where
    by : (o : Option InstanceValue) → (first_fit (i + 1) es t ≡ Some f → contractum [] es t ≡ None → ⊥) → or_later i o (first_fit (i + 1) es t) ≡ Some f → option_or (option_map (λ a. instantiated a 0 e.rule.right) o) (contractum [] es t) ≡ None → ⊥
    by None r g q = r g q
    by (Some a) r g q = absurd (cc)

pub rule_redex : (rules : List SetRule) (n : Nameless) (f : ℕ × InstanceValue) → first_fit 0 (set_rules rules) n ≡ Some f → contractum [] (set_rules rules) n ≡ None → ⊥
rule_redex rules n f h k = first_redex 0 (set_rules rules) n f h k

pub ruleset no_redexes = (no_beta_redex, no_rule_redex, beta_redex, rule_redex)

-- a turn by rules finds nothing where no rule matches any part
no_turn_under : (rules : List RuleEntry) (env : List TypeTree) (n : Nameless) → HasNoRedex rules n → turn (λ env m. contractum env rules m) env n ≡ None
no_turn_under rules env (free v) h = h env
no_turn_under rules env (bound i) h = h env
no_turn_under rules env (fixed c s) h = h env
no_turn_under rules env (app f x) h = λ i. option_or (h.0 env i) (option_or (option_map (λ g. app g x) (no_turn_under rules env f h.1 i)) (option_map (λ y. app f y) (no_turn_under rules env x h.2 i)))
no_turn_under rules env (lam a s b) h = λ i. option_or (h.0 env i) (option_map (λ d. lam a s d) (no_turn_under rules (s ∷ env) b h.1 i))

pub no_turn : (rules : List SetRule) (n : Nameless) → HasNoRedex (set_rules rules) n → turn (λ env m. contractum env (set_rules rules) m) [] n ≡ None
no_turn rules n h = no_turn_under (set_rules rules) [] n h

pub ruleset no_turns = (no_turn)
