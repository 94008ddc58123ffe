-- Where rules pass over a term, and none matches it, none matches a term of its outline and type.
use Rattle.std.proofs.Common.{◌≡◌, ℕ, zero, suc, ◌≤◌, List, [], ◌∷◌, map, refl, sym, ap, ◌∙◌, Bool, true, false, ◌&&◌, ◌||◌, not, cond, Option, Some, None, arith}
use Rattle.std.specs.Option.{option_map, option_and_then, option_or}
use Rattle.std.proofs.lemmas.Bool.{and_parts, not-true}
use Rattle.hol_types.specs.Tree.{TypeTree}
use Rattle.hol_types.specs.Match.{match_type}
use Rattle.hol_terms.specs.Nameless.{Nameless, free, bound, fixed, app, lam, nameless_type}
use Rattle.hol_terms.specs.Alpha.{alpha_eq}
use Rattle.hol_terms.specs.Scoped.{binds}
use Rattle.hol_subst.specs.Substitution.{term_lookup}
use Rattle.hol_subst.proofs.Composition.{shift_nothing}
use Rattle.hol_match.specs.Instance.{InstanceValue, instance_of, instantiated, staying}
use Rattle.hol_match.specs.Lowering.{lowered}
use Rattle.hol_match.specs.Matching.{matched, taken, variable_takes, variable_meets}
use Rattle.hol_match.specs.RuleSets.{RuleEntry, beside, fit}
use Rattle.hol_match.specs.Contracta.{contracted, contractum}
use Rattle.hol_match.specs.Outlines.{is_named, is_abstraction, is_variable, may_match, depth, rules_depth, AreAlike, rules_pass_over}
use Rattle.hol_match.specs.declared.set_rule.SetRule.{SetRule}
use Rattle.hol_match.specs.SetView.{set_rule, set_rules}
use Rattle.hol_match.proofs.Lookups.{own_term}
use Rattle.hol_match.proofs.Lowering.{lowered_shift}
use Rattle.hol_match.proofs.Outlines.{apart, looked_at}

-- an application or an abstraction
abbrev pub is_compound : Nameless → Bool
is_compound (free v) = false
is_compound (bound i) = false
is_compound (fixed c s) = false
is_compound (app f x) = true
is_compound (lam a s b) = true

-- ---- terms of one outline
pub alike_refl : (k : ℕ) (t : Nameless) → AreAlike k t t
alike_refl zero t = tt
alike_refl (suc k) (free v) = refl
alike_refl (suc k) (bound i) = refl
alike_refl (suc k) (fixed c s) = refl
alike_refl (suc k) (app f x) = (f, x, refl, alike_refl k f, alike_refl k x)
alike_refl (suc k) (lam a s b) = refl

-- an abstraction is no constant and no application, and is compound
abstraction_unnamed : (c : List ℕ) (u : Nameless) → is_abstraction u ≡ true → is_named c u ≡ false
abstraction_unnamed c (free v) h = refl
abstraction_unnamed c (bound i) h = refl
abstraction_unnamed c (fixed d s) h = absurd (cc)
abstraction_unnamed c (app f x) h = refl
abstraction_unnamed c (lam a s b) h = refl

abstraction_apart : (p q u : Nameless) → is_abstraction u ≡ true → may_match (app p q) u ≡ false
abstraction_apart p q (free v) h = refl
abstraction_apart p q (bound i) h = refl
abstraction_apart p q (fixed d s) h = refl
abstraction_apart p q (app f x) h = absurd (cc)
abstraction_apart p q (lam a s b) h = refl

abstraction_compound : (u : Nameless) → is_abstraction u ≡ true → is_compound u ≡ true
abstraction_compound (free v) h = absurd (cc)
abstraction_compound (bound i) h = absurd (cc)
abstraction_compound (fixed d s) h = absurd (cc)
abstraction_compound (app f x) h = refl
abstraction_compound (lam a s b) h = refl

named_alike : (c : List ℕ) (k : ℕ) (t u : Nameless) → AreAlike (suc k) t u → is_named c t ≡ is_named c u
named_alike c k (free v) u h = ap (is_named c) (sym h)
named_alike c k (bound i) u h = ap (is_named c) (sym h)
named_alike c k (fixed d s) u h = ap (is_named c) (sym h)
named_alike c k (app f x) u h = ap (is_named c) (sym h.2)
named_alike c k (lam a s b) u h = sym (abstraction_unnamed c u h)

abstraction_alike : (k : ℕ) (t u : Nameless) → AreAlike (suc k) t u → is_abstraction t ≡ is_abstraction u
abstraction_alike k (free v) u h = ap is_abstraction (sym h)
abstraction_alike k (bound i) u h = ap is_abstraction (sym h)
abstraction_alike k (fixed d s) u h = ap is_abstraction (sym h)
abstraction_alike k (app f x) u h = ap is_abstraction (sym h.2)
abstraction_alike k (lam a s b) u h = sym h

compound_alike : (k : ℕ) (t u : Nameless) → 1 ≤ k → AreAlike k t u → is_compound t ≡ true → is_compound u ≡ true
compound_alike zero t u l h c = absurd (omega (arith, l))
compound_alike (suc k) (free v) u l h c = absurd (cc)
compound_alike (suc k) (bound i) u l h c = absurd (cc)
compound_alike (suc k) (fixed d s) u l h c = absurd (cc)
compound_alike (suc k) (app f x) u l h c = ap is_compound h.2
compound_alike (suc k) (lam a s b) u l h c = abstraction_compound u h

-- a pattern sees no difference between terms of one outline as deep as it looks
may_alike : (p : Nameless) (k : ℕ) (t u : Nameless) → depth p ≤ k → AreAlike k t u → may_match p t ≡ may_match p u
may_alike (free v) k t u l h = refl
may_alike (bound i) k t u l h = refl
may_alike (fixed c s) zero t u l h = absurd (omega (arith, l))
may_alike (fixed c s) (suc k) t u l h = named_alike c k t u h
may_alike (lam a s b) zero t u l h = absurd (omega (arith, l))
may_alike (lam a s b) (suc k) t u l h = abstraction_alike k t u h
may_alike (app p q) zero t u l h = absurd (omega (arith, l))
may_alike (app p q) (suc k) (free v) u l h = ap (may_match (app p q)) (sym h)
may_alike (app p q) (suc k) (bound i) u l h = ap (may_match (app p q)) (sym h)
may_alike (app p q) (suc k) (fixed c s) u l h = ap (may_match (app p q)) (sym h)
may_alike (app p q) (suc k) (app f x) u l h =
    let first : may_match p f ≡ may_match p h.0 = may_alike p k f h.0 (omega (arith, l)) h.3 in
    let second : may_match q x ≡ may_match q h.1 = may_alike q k x h.1 (omega (arith, l)) h.4 in
    (λ i. first i && second i) ∙ ap (may_match (app p q)) (sym h.2)
may_alike (app p q) (suc k) (lam a s b) u l h = sym (abstraction_apart p q u h)

-- nor do the rules: they pass over both or neither
pub passed_over_alike : (es : List RuleEntry) (k : ℕ) (t u : Nameless) → rules_depth es ≤ k → AreAlike k t u → rules_pass_over es t ≡ rules_pass_over es u
passed_over_alike [] k t u l a = refl
passed_over_alike (e ∷ es) k t u l a =
    let own : may_match e.rule.left t ≡ may_match e.rule.left u = may_alike e.rule.left k t u (omega (arith, l)) a in
    let rest : rules_depth es ≤ k = omega (arith, l) in
    λ i. (is_variable e.rule.left || not (own i)) && passed_over_alike es k t u rest a i

-- ---- a variable as left side
-- out of no binders
lowered_same : (k : ℕ) (t : Nameless) → lowered 0 k t ≡ Some t
lowered_same k t = ap (lowered 0 k) (sym (shift_nothing k t)) ∙ lowered_shift 0 k t

variable_other : (v : List ℕ × TypeTree) (u : Nameless) → is_compound u ≡ true → alpha_eq (free v) u ≡ false
variable_other v (free w) c = absurd (cc)
variable_other v (bound i) c = absurd (cc)
variable_other v (fixed d s) c = absurd (cc)
variable_other v (app f x) c = refl
variable_other v (lam a s b) c = refl

-- a variable that takes no term stays, and then it takes no compound term
takes_none : (more : InstanceValue) (vs : List (List ℕ × TypeTree)) (w : List ℕ × TypeTree) (t u : Nameless) → is_compound u ≡ true → taken (term_lookup (map (λ v. (free v, v)) vs) w) more w t ≡ None → taken (term_lookup (map (λ v. (free v, v)) vs) w) more w u ≡ None
takes_none more vs w t u c h = ap (λ o. taken o more w u) (own_term vs w) ∙ by (binds vs w) (ap (λ o. taken o more w t) (sym (own_term vs w)) ∙ h)
  where
    by : (b : Bool) → taken (cond b (Some (free w)) None) more w t ≡ None → taken (cond b (Some (free w)) None) more w u ≡ None
    by true g = ap (λ b. cond b (Some more) None) (variable_other w u c)
    by false g = absurd (cc)

variable_takes_none : (names : List (List ℕ)) (vs : List (List ℕ × TypeTree)) (v : List ℕ × TypeTree) (t u : Nameless) (s : TypeTree) → is_compound u ≡ true → variable_takes v (staying names vs) t s ≡ None → variable_takes v (staying names vs) u s ≡ None
variable_takes_none names vs v t u s c h = by (match_type v.1 (staying names vs).types s) h
  where
    by : (o : Option (List (TypeTree × List ℕ))) → option_and_then (λ more. taken (term_lookup more.terms (v.0, s)) more (v.0, s) t) (option_map (λ types. instance_of types (staying names vs).terms) o) ≡ None → option_and_then (λ more. taken (term_lookup more.terms (v.0, s)) more (v.0, s) u) (option_map (λ types. instance_of types (staying names vs).terms) o) ≡ None
    by None g = refl
    by (Some types) g = takes_none (instance_of types (staying names vs).terms) vs (v.0, s) t u c g

variable_meets_none : (names : List (List ℕ)) (vs : List (List ℕ × TypeTree)) (v : List ℕ × TypeTree) (t u : Nameless) → is_compound u ≡ true → nameless_type [] t ≡ nameless_type [] u → variable_meets v (staying names vs) t ≡ None → variable_meets v (staying names vs) u ≡ None
variable_meets_none names vs v t u c same h =
    ap (option_and_then (λ s. variable_takes v (staying names vs) u s)) (sym same) ∙ by (nameless_type [] t) h
  where
    by : (o : Option TypeTree) → option_and_then (λ s. variable_takes v (staying names vs) t s) o ≡ None → option_and_then (λ s. variable_takes v (staying names vs) u s) o ≡ None
    by None g = refl
    by (Some s) g = variable_takes_none names vs v t u s c g

variable_matches : (v : List ℕ × TypeTree) (found : InstanceValue) (t : Nameless) → matched 0 (free v) found t ≡ variable_meets v found t
variable_matches v found t = ap (option_and_then (λ u. variable_meets v found u)) (lowered_same 0 t)

-- ---- a rule
matches_none : (names : List (List ℕ)) (vs : List (List ℕ × TypeTree)) (p : Nameless) (k : ℕ) (t u : Nameless) → depth p ≤ k → AreAlike k t u → is_compound u ≡ true → nameless_type [] t ≡ nameless_type [] u → (is_variable p || not (may_match p t)) ≡ true → matched 0 p (staying names vs) t ≡ None → matched 0 p (staying names vs) u ≡ None
matches_none names vs (free v) k t u l a c same o h =
    variable_matches v (staying names vs) u ∙ variable_meets_none names vs v t u c same (sym (variable_matches v (staying names vs) t) ∙ h)
matches_none names vs (bound i) k t u l a c same o h = absurd (cc)
matches_none names vs (fixed d s) k t u l a c same o h =
    let p : Nameless = fixed d s in
    apart 0 p (staying names vs) u (sym (may_alike p k t u l a) ∙ not-true (may_match p t) o)
matches_none names vs (app f x) k t u l a c same o h =
    let p : Nameless = app f x in
    apart 0 p (staying names vs) u (sym (may_alike p k t u l a) ∙ not-true (may_match p t) o)
matches_none names vs (lam d s b) k t u l a c same o h =
    let p : Nameless = lam d s b in
    apart 0 p (staying names vs) u (sym (may_alike p k t u l a) ∙ not-true (may_match p t) o)

pub map_none : {A B : Type 0} (f : A → B) (o : Option A) → option_map f o ≡ None → o ≡ None
map_none f None h = refl
map_none f (Some x) h = absurd (cc)

rule_stays : (r : SetRule) (k : ℕ) (t u : Nameless) → depth (set_rule r).rule.left ≤ k → AreAlike k t u → is_compound u ≡ true → nameless_type [] t ≡ nameless_type [] u → (is_variable (set_rule r).rule.left || not (may_match (set_rule r).rule.left t)) ≡ true → contracted [] (set_rule r) t ≡ None → contracted [] (set_rule r) u ≡ None
rule_stays r k t u l a c same o h =
    let e = set_rule r in
    let fits : fit e t ≡ None = map_none (λ a. instantiated a 0 e.rule.right) (fit e t) h in
    let matches : matched 0 e.rule.left e.stays t ≡ None = map_none (beside e.stays) (matched 0 e.rule.left e.stays t) fits in
    ap (λ m. option_map (λ a. instantiated a 0 e.rule.right) (option_map (beside e.stays) m)) (matches_none r.source.value.fixed.names.items r.source.value.fixed.variables.items e.rule.left k t u l a c same o matches)

-- ---- all rules
pub or_none : (o p : Option Nameless) → option_or o p ≡ None → (o ≡ None) × (p ≡ None)
or_none None p h = (refl, h)
or_none (Some u) p h = absurd (cc)

all_stay : (rules : List SetRule) (k : ℕ) (t u : Nameless) → rules_depth (set_rules rules) ≤ k → AreAlike k t u → is_compound u ≡ true → nameless_type [] t ≡ nameless_type [] u → rules_pass_over (set_rules rules) t ≡ true → contractum [] (set_rules rules) t ≡ None → contractum [] (set_rules rules) u ≡ None
all_stay [] k t u l a c same o h = refl
all_stay (r ∷ rules) k t u l a c same o h =
    let left = (set_rule r).rule.left in
    let none = or_none (contracted [] (set_rule r) t) (contractum [] (set_rules rules) t) h in
    let over = and_parts (is_variable left || not (may_match left t)) (rules_pass_over (set_rules rules) t) o in
    let own : depth left ≤ k = omega (arith, l) in
    let rest : rules_depth (set_rules rules) ≤ k = omega (arith, l) in
    λ i. option_or (rule_stays r k t u own a c same over.0 none.0 i) (all_stay rules k t u rest a c same over.1 none.1 i)

-- the rules make nothing of a compound term that has the outline and the type of one that they pass over, if they make nothing of that one
pub passed_over_stays : (rules : List SetRule) (k : ℕ) (t u : Nameless) → rules_depth (set_rules rules) ≤ k → AreAlike k t u → is_compound t ≡ true → nameless_type [] t ≡ nameless_type [] u → rules_pass_over (set_rules rules) t ≡ true → contractum [] (set_rules rules) t ≡ None → contractum [] (set_rules rules) u ≡ None
passed_over_stays rules k t u l a c same o h =
    let looked : 1 ≤ rules_depth (set_rules rules) = looked_at (set_rules rules) in
    all_stay rules k t u l a (compound_alike k t u (omega (arith, l, looked)) a c) same o h
