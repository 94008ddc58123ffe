-- Variables that are apart from the rules of a set, and abstractions over them.
use Rattle.std.proofs.Common.{◌≡◌, ℕ, ◌+◌, ◌==◌, length, List, [], ◌∷◌, ◌++◌, map, refl, ap, sym, ◌∙◌, Bool, true, false, cond, not, ◌&&◌, ◌||◌, bytes_eq, arith}
use Rattle.std.proofs.lemmas.Bool.{and_parts, or_parts, or_left, or_right}
use Rattle.std.proofs.lemmas.Bool.Decides.{nat_tests}
use Rattle.std.proofs.lemmas.Slice.Eq.{bytes_eq-Decides}
use Rattle.hol_types.specs.Tree.{TypeTree}
use Rattle.hol_types.specs.Equal.{variable_eq}
use Rattle.hol_terms.specs.Named.{Named, var, abs}
use Rattle.hol_terms.specs.Nameless.{Nameless, free, bound, fixed, app, lam, nameless, free_occurrences, base_of}
use Rattle.hol_terms.specs.Scoped.{binds, add_new, add_all, occurs_in}
use Rattle.hol_terms.proofs.Same.{variable_eq_decides}
use Rattle.hol_terms.proofs.Occurs.{binds_append, occurs_under, occurs_is}
use Rattle.hol_terms.proofs.Primes.{base_with_primes}
use Rattle.hol_subst.specs.Closing.{close, open_with}
use Rattle.hol_subst.specs.FreeName.{has_name, is_taken, IsFreeName}
use Rattle.hol_subst.proofs.Closing.{close_under}
use Rattle.hol_subst.proofs.Opening.{close_open}
use Rattle.hol_subst.proofs.InstSteps.{all_there}
use Rattle.hol_match.specs.Instance.{InstanceValue}
use Rattle.hol_match.specs.Rules.{RuleValue}
use Rattle.hol_match.specs.RuleSets.{RuleEntry, entries}
use Rattle.hol_match.specs.RuleView.{rule_value, rule_values}
use Rattle.hol_match.specs.declared.rule.Rule.{Rule}
use Rattle.hol_match.specs.Apart.{is_named, IsApart, are_apart, AddsVariables, rule_variables, right_variables}
use Rattle.hol_match.proofs.Contracta.{named_append}
use Rattle.hol_match.proofs.Keeping.{variables_stay}
use Rattle.hol_match.proofs.Opened.{not_taken}

abbrev Var : Type 0
Var = List ℕ × TypeTree

-- ---- names that no variable of a list has
absent : (vs : List Var) (w : Var) (a : List ℕ) → binds vs w ≡ true → is_named vs a ≡ false → bytes_eq w.0 a ≡ false
absent [] w a e h = absurd (cc)
absent (u ∷ vs) w a e h = by (variable_eq u w) refl (λ k. absent vs w a k (or_parts (bytes_eq u.0 a) (is_named vs a) h).1) e
  where
    by : (b : Bool) → variable_eq u w ≡ b → (binds vs w ≡ true → bytes_eq w.0 a ≡ false) → (b || binds vs w) ≡ true → bytes_eq w.0 a ≡ false
    by true q r k = sym (ap (λ (z : Var). bytes_eq z.0 a) ((variable_eq_decides u w).0 q)) ∙ (or_parts (bytes_eq u.0 a) (is_named vs a) h).0
    by false q r k = r k

new_unnamed : (vs : List Var) (w : Var) (a : List ℕ) → is_named (add_new vs w) a ≡ false → (is_named vs a ≡ false) × (bytes_eq w.0 a ≡ false)
new_unnamed vs w a e = by (binds vs w) refl e
  where
    by : (b : Bool) → binds vs w ≡ b → is_named (cond b vs (vs ++ w ∷ [])) a ≡ false → (is_named vs a ≡ false) × (bytes_eq w.0 a ≡ false)
    by true q k = (k, absent vs w a q k)
    by false q k =
        let p = or_parts (is_named vs a) (is_named (w ∷ []) a) (sym (named_append vs (w ∷ []) a) ∙ k) in
        (p.0, (or_parts (bytes_eq w.0 a) false p.1).0)

all_unnamed : (vs ws : List Var) (a : List ℕ) → is_named (add_all vs ws) a ≡ false → (is_named vs a ≡ false) × (is_named ws a ≡ false)
all_unnamed vs [] a e = (e, refl)
all_unnamed vs (w ∷ ws) a e =
    let p = all_unnamed (add_new vs w) ws a e in
    let q = new_unnamed vs w a p.0 in
    (q.0, (rw (q.1, p.1) refl))

rules_unnamed : (vs : List Var) (es : List RuleEntry) (a : List ℕ) → is_named (rule_variables vs es) a ≡ false → is_named vs a ≡ false
rules_unnamed vs [] a h = h
rules_unnamed vs (e ∷ es) a h =
    let more = add_all vs (map (λ (p : Nameless × Var). p.1) e.stays.terms) in
    (all_unnamed vs (map (λ (p : Nameless × Var). p.1) e.stays.terms) a (all_unnamed more (add_all [] (free_occurrences e.rule.right)) a (rules_unnamed (add_all more (add_all [] (free_occurrences e.rule.right))) es a h)).0).0

unbound : (vs : List Var) (v : Var) → is_named vs v.0 ≡ false → binds vs v ≡ false
unbound [] v h = refl
unbound (w ∷ vs) v h =
    let p = or_parts (bytes_eq w.0 v.0) (is_named vs v.0) h in
    let q : variable_eq w v ≡ false = flipped w v p.0 in
    rw (q, unbound vs v p.1) refl
  where
    flipped : (w v : Var) → bytes_eq w.0 v.0 ≡ false → variable_eq w v ≡ false
    flipped w v e = by (variable_eq w v) refl
      where
        by : (b : Bool) → variable_eq w v ≡ b → variable_eq w v ≡ false
        by true q =
            let z : true ≡ false = sym ((bytes_eq-Decides w.0 v.0).1 (ap (λ (z : Var). z.0) ((variable_eq_decides w v).0 q))) ∙ e in
            absurd (cc)
        by false q = q

-- a variable whose name none of the rules' variables has is apart from the rules
pub apart_of : (vs : List (List ℕ × TypeTree)) (es : List RuleEntry) (v : List ℕ × TypeTree) → is_named (rule_variables vs es) v.0 ≡ false → IsApart es v
apart_of vs [] v h = tt
apart_of vs (e ∷ es) v h =
    let ws = map (λ (p : Nameless × Var). p.1) e.stays.terms in
    let more = add_all vs ws in
    let own = add_all [] (free_occurrences e.rule.right) in
    let p = all_unnamed more own v.0 (rules_unnamed (add_all more own) es v.0 h) in
    (unbound ws v (all_unnamed vs ws v.0 p.0).1, (all_unnamed [] (free_occurrences e.rule.right) v.0 p.1).1, apart_of (add_all more own) es v h)

-- as a test
pub tested_apart : (es : List RuleEntry) (v : List ℕ × TypeTree) → IsApart es v → are_apart es v ≡ true
tested_apart [] v h = refl
tested_apart (e ∷ es) v h = rw (h.0, h.1, tested_apart es v h.2) refl

pub apart_rules : (es : List RuleEntry) (v : List ℕ × TypeTree) → are_apart es v ≡ true → IsApart es v
apart_rules [] v h = tt
apart_rules (e ∷ es) v h =
    let p = and_parts (not (binds (map (λ (q : Nameless × Var). q.1) e.stays.terms) v)) (not (is_named (free_occurrences e.rule.right) v.0) && are_apart es v) h in
    let q = and_parts (not (is_named (free_occurrences e.rule.right) v.0)) (are_apart es v) p.1 in
    (turned (binds (map (λ (q : Nameless × Var). q.1) e.stays.terms) v) p.0, turned (is_named (free_occurrences e.rule.right) v.0) q.0, apart_rules es v q.1)
  where
    turned : (b : Bool) → not b ≡ true → b ≡ false
    turned false k = refl
    turned true k = absurd (cc)

-- ---- the variables of the rules of one theorem

itself : (w : Var) (ws : List Var) → binds (w ∷ ws) w ≡ true
itself w ws = or_left (variable_eq w w) (binds ws w) ((variable_eq_decides w w).1 refl)

-- those that are there already add nothing
add_there : (vs ws : List Var) → ((w : Var) → binds ws w ≡ true → binds vs w ≡ true) → add_all vs ws ≡ vs
add_there vs [] h = refl
add_there vs (w ∷ ws) h =
    ap (λ b. add_all (cond b vs (vs ++ w ∷ [])) ws) (h w (itself w ws))
    ∙ add_there vs ws (λ x k. h x (or_right (variable_eq w x) (binds ws x) k))

-- what stays is there, so that the right sides alone add something
right_sides : (i k : ℕ) (s : InstanceValue) (rules : List RuleValue) (vs : List Var) → ((w : Var) → binds (map (λ (p : Nameless × Var). p.1) s.terms) w ≡ true → binds vs w ≡ true) → rule_variables vs (entries i k s rules) ≡ right_variables vs rules
right_sides i k s [] vs h = refl
right_sides i k s (r ∷ rules) vs h =
    let own = add_all [] (free_occurrences r.right) in
    ap (λ us. rule_variables (add_all us own) (entries i (k + 1) s rules)) (add_there vs (map (λ (p : Nameless × Var). p.1) s.terms) h)
    ∙ right_sides i (k + 1) s rules (add_all vs own) (λ w b. variables_stay vs own w (h w b))

pub of_none : (rules : List Rule) (s : InstanceValue) (vs : List (List ℕ × TypeTree)) → (length rules == 0) ≡ true → (i : ℕ) → vs ≡ rule_variables vs (entries i 0 s (rule_values rules))
of_none [] s vs e i = refl
of_none (r ∷ rules) s vs e i = absurd (grind (arith, nat_tests, e))

pub of_theorem : (rules : List Rule) (s : InstanceValue) (vs with_staying new : List (List ℕ × TypeTree)) → (length rules == 0) ≡ false → with_staying ≡ add_all vs (map (λ (p : Nameless × (List ℕ × TypeTree)). p.1) s.terms) → new ≡ right_variables with_staying (rule_values rules) → (i : ℕ) → new ≡ rule_variables vs (entries i 0 s (rule_values rules))
of_theorem [] s vs with_staying new e f g i = absurd (grind (arith, nat_tests, e))
of_theorem (r ∷ rules) s vs with_staying new e f g i =
    let ws = map (λ (p : Nameless × Var). p.1) s.terms in
    let own = add_all [] (free_occurrences (rule_value r).right) in
    g ∙ ap (λ us. right_variables us (rule_values (r ∷ rules))) f
    ∙ sym (right_sides i 1 s (rule_values rules) (add_all (add_all vs ws) own) (λ w b. variables_stay (add_all vs ws) own w (all_there vs ws w b)))

further : (vs : List Var) (before more : List RuleEntry) → rule_variables vs (before ++ more) ≡ rule_variables (rule_variables vs before) more
further vs [] more = refl
further vs (e ∷ before) more = further (add_all (add_all vs (map (λ (p : Nameless × Var). p.1) e.stays.terms)) (add_all [] (free_occurrences e.rule.right))) before more

pub variables_added : (before after more : List RuleEntry) (old new : List (List ℕ × TypeTree)) → after ≡ before ++ more → new ≡ rule_variables old more → AddsVariables before after old new
variables_added before after more old new a n o = n ∙ ap (λ vs. rule_variables vs more) o ∙ sym (further [] before more) ∙ ap (rule_variables []) (sym a)

-- ---- a name that is in use nowhere
pub name_free : (a : List ℕ) (s : TypeTree) (n : Nameless) → has_name a n ≡ false → binds (free_occurrences n) (a, s) ≡ false
name_free a s (free w) e = unbound (w ∷ []) (a, s) (rw e refl)
name_free a s (bound i) e = refl
name_free a s (fixed c t) e = refl
name_free a s (app f x) e =
    let p = or_parts (has_name a f) (has_name a x) e in
    binds_append (free_occurrences f) (free_occurrences x) (a, s) ∙ rw (name_free a s f p.0, name_free a s x p.1) refl
name_free a s (lam c t b) e = name_free a s b e

taken_named : (vs : List Var) (a : List ℕ) → is_taken (map (λ t. nameless [] t) (map (λ (v : Var). var v) vs)) a ≡ is_named vs a
taken_named [] a = refl
taken_named (v ∷ vs) a = ap (λ b. bytes_eq v.0 a || b) (taken_named vs a)

unused : (vs : List Var) (terms : List Named) (b : Named) (base a : List ℕ) → terms ≡ b ∷ map (λ (v : Var). var v) vs → IsFreeName (map (λ t. nameless [] t) terms) base a → (has_name a (nameless [] b) ≡ false) × (is_named vs a ≡ false)
unused vs terms b base a e h =
    let none : is_taken (map (λ t. nameless [] t) (b ∷ map (λ (v : Var). var v) vs)) a ≡ false = sym (ap (λ ts. is_taken (map (λ t. nameless [] t) ts) a) e) ∙ not_taken (map (λ t. nameless [] t) terms) base a h in
    let p = or_parts (has_name a (nameless [] b)) (is_taken (map (λ t. nameless [] t) (map (λ (v : Var). var v) vs)) a) none in
    (p.0, sym (taken_named vs a) ∙ p.1)

pub unused_name : (vs : List (List ℕ × TypeTree)) (terms : List Named) (b : Named) (base a : List ℕ) → terms ≡ b ∷ map (λ (v : List ℕ × TypeTree). var v) vs → IsFreeName (map (λ t. nameless [] t) terms) base a → is_named vs a ≡ false
unused_name vs terms b base a e h = (unused vs terms b base a e h).1

pub unused_free : (vs : List (List ℕ × TypeTree)) (terms : List Named) (b : Named) (base a : List ℕ) (s : TypeTree) → terms ≡ b ∷ map (λ (v : List ℕ × TypeTree). var v) vs → IsFreeName (map (λ t. nameless [] t) terms) base a → binds (free_occurrences (nameless [] b)) (a, s) ≡ false
unused_free vs terms b base a s e h = name_free a s (nameless [] b) (unused vs terms b base a e h).0

pub unused_base : (avoid : List Nameless) (base a : List ℕ) → IsFreeName avoid base a → base_of a ≡ base_of base
unused_base avoid base a h = ap base_of h.is ∙ base_with_primes h.primes base

pub ruleset unused_names = (unused_name, unused_free, unused_base)

-- ---- an abstraction with another variable
pub whole_opened : (u v : List ℕ × TypeTree) (b c : Named) (a : List ℕ) → u ≡ (a, v.1) → base_of a ≡ base_of v.0 → ((s : TypeTree) → binds (free_occurrences (nameless [] b)) (a, s) ≡ false) → nameless [] c ≡ open_with (free u) 0 (nameless (v ∷ []) b) → nameless [] (abs u c) ≡ nameless [] (abs v b)
whole_opened u v b c a e f g h =
    let absent : binds (free_occurrences (nameless (v ∷ []) b)) u ≡ false = occurs_under (v ∷ []) u b ∙ none (binds (v ∷ []) u) in
    let body : nameless (u ∷ []) c ≡ nameless (v ∷ []) b = close_under [] u c ∙ ap (close u 0) h ∙ close_open u 0 (nameless (v ∷ []) b) absent in
    let base : base_of u.0 ≡ base_of v.0 = ap (λ (w : Var). base_of w.0) e ∙ f in
    let domain : u.1 ≡ v.1 = ap (λ (w : Var). w.1) e in
    λ i. lam (base i) (domain i) (body i)
  where
    outside : occurs_in u b ≡ false
    outside = occurs_is u b ∙ ap (binds (free_occurrences (nameless [] b))) e ∙ g v.1

    none : (x : Bool) → cond x false (occurs_in u b) ≡ false
    none true = refl
    none false = outside

pub same_abstraction : (u v : List ℕ × TypeTree) (b c : Named) → u ≡ v → c ≡ b → nameless [] (abs u c) ≡ nameless [] (abs v b)
same_abstraction u v b c e f = λ i. nameless [] (abs (e i) (f i))

pub ruleset openings = (whole_opened, same_abstraction)
