-- A formula's outer quantifiers taken off one after the other.
use Rattle.std.specs.Prelude.{◌≡◌, ℕ, zero, suc, ◌+◌, ◌-◌, ◌≤◌, ◌==◌, nat_lt, bytes_eq, cond, Bool, true, false, ◌||◌, List, [], ◌∷◌, ◌++◌, map, codes, Some, None, Result, Ok, Err, IfOk, refl}
use Rattle.std.proofs.Common.{ap, sym, ◌∙◌, subst, arith}
use Rattle.std.proofs.lemmas.Bool.{or_left, or_right, or_parts}
use Rattle.std.proofs.lemmas.Slice.Eq.{bytes_eq-Decides}
use Rattle.std.proofs.lemmas.List.{append-nil, append_assoc, map-append}
use Rattle.hol_types.specs.Tree.{TypeTree}
use Rattle.hol_types.specs.Equal.{variable_eq}
use Rattle.hol_terms.specs.Named.{Named, var}
use Rattle.hol_terms.specs.Nameless.{Nameless, free, bound, fixed, app, lam, nameless, base_of, free_occurrences}
use Rattle.hol_terms.specs.Scoped.{binds}
use Rattle.hol_terms.proofs.Occurs.{binds_append}
use Rattle.hol_terms.proofs.Same.{variable_eq_decides}
use Rattle.hol_subst.specs.Closing.{open_with}
use Rattle.hol_subst.specs.Shift.{shift}
use Rattle.hol_subst.specs.FreeName.{has_name, is_taken, IsFreeName}
use Rattle.hol_formulas.specs.Formula.{Abstraction, dest_forall}
use Rattle.hol_formulas.proofs.FormulaLaws.{dest_quantifier_is}
use Rattle.hol_match.specs.Rules.{apart, nodes}
use Rattle.hol_just.specs.FreeNames.{free_name}
use Rattle.hol_just.specs.MatchMp.{OpenedValue, under, opened_at, opened_in, opened}
use Rattle.hol_just.proofs.MatchOpened.{fewer}
use Rattle.hol_just.proofs.Pieces.{some_node}
use Rattle.hol_steps.specs.Fresh.{AreAlike, DifferInNames}
use Rattle.hol_steps.proofs.FreshNames.{named_new, not_taken}
use Rattle.hol_steps.proofs.TermsBy.{taken_in_both}

-- ---- a variable that is called apart

pub apart_is :
    {E : Type 0} (r : Result (List ℕ × TypeTree) E) (terms : List Named) (x : List ℕ × TypeTree) (base name : List ℕ) (ty : TypeTree) → base ≡ base_of x.0 → IsFreeName (map (nameless []) terms) base name → ty ≡ x.1 →
    IfOk r (λ v. v ≡ (name, ty)) → IfOk r (λ v. (names : List Nameless) → AreAlike (map (nameless []) terms) names → v ≡ (free_name names (base_of x.0), x.1))
apart_is {E} (Ok v) terms x base name ty based fewest typed is = λ names alike. named_new terms names base (base_of x.0) name x.1 alike based fewest {E = E} (Ok v) ty typed is
apart_is {E} (Err e) terms x base name ty based fewest typed is = is

pub apart_absent :
    {E : Type 0} (r : Result (List ℕ × TypeTree) E) (terms : List Named) (base name : List ℕ) (ty : TypeTree) → IsFreeName (map (nameless []) terms) base name → IfOk r (λ v. v ≡ (name, ty)) →
    IfOk r (λ v. is_taken (map (nameless []) terms) v.0 ≡ false)
apart_absent (Ok v) terms base name ty fewest is = ap (λ (u : List ℕ × TypeTree). is_taken (map (nameless []) terms) u.0) is ∙ not_taken (map (nameless []) terms) base name fewest
apart_absent (Err e) terms base name ty fewest is = is

-- ---- stages

-- the variables before those of a formula that was opened
abbrev pub before : List (List ℕ × TypeTree) → OpenedValue → OpenedValue
before [] o = o
before (v ∷ vs) o = under v (before vs o)

before_last : (vs : List (List ℕ × TypeTree)) (v : List ℕ × TypeTree) (o : OpenedValue) → before (vs ++ v ∷ []) o ≡ before vs (under v o)
before_last [] v o = refl
before_last (w ∷ vs) v o = ap (under w) (before_last vs v o)

before_body : (vs : List (List ℕ × TypeTree)) (p : Nameless) → before vs (record { variables = []; body = p }) ≡ record { variables = vs; body = p }
before_body [] p = refl
before_body (v ∷ vs) p = ap (under v) (before_body vs p)

-- these variables were taken off p, and body is left; the avoided terms are those that were to be avoided, and the variables
pub record IsStage (names avoid : List Nameless) (variables : List (List ℕ × TypeTree)) (p body : Nameless) : Type 0 where
  pub more : List Nameless
  pub steps : ℕ
  pub enough : nodes body ≤ steps
  pub alike : AreAlike avoid more
  pub is : opened names p ≡ before variables (opened_in steps more body)

pub first_stage : (names avoid : List Nameless) (p : Nameless) → AreAlike avoid names → IsStage names avoid [] p p
first_stage names avoid p alike = record { more = names; steps = nodes p; enough = omega arith; alike = alike; is = refl }

-- no universal quantification is left
pub last_stage : (names avoid : List Nameless) (variables : List (List ℕ × TypeTree)) (p body : Nameless) → dest_forall body ≡ None → IsStage names avoid variables p body → opened names p ≡ record { variables = variables; body = body }
last_stage names avoid variables p body none h = h.is ∙ ap (before variables) (by h.steps) ∙ before_body variables body
  where
    by : (n : ℕ) → opened_in n h.more body ≡ record { variables = []; body = body }
    by zero = refl
    by (suc n) = ap (opened_at (opened_in n) h.more body) none

taken_more : (avoid more : List Nameless) (v : List ℕ × TypeTree) → AreAlike avoid more → AreAlike (avoid ++ free v ∷ []) (free v ∷ more)
taken_more avoid more v alike a = taken_in_both avoid (free v ∷ []) a ∙ (λ i. alike a i || (has_name a (free v) || false)) ∙ turned (is_taken more a) (has_name a (free v))
  where
    turned : (b c : Bool) → (b || (c || false)) ≡ (c || b)
    turned true true = refl
    turned true false = refl
    turned false true = refl
    turned false false = refl

-- one more is taken off
pub next_stage :
    (names avoid : List Nameless) (variables : List (List ℕ × TypeTree)) (p body : Nameless) (x : Abstraction) (v : List ℕ × TypeTree) → dest_forall body ≡ Some x → IsStage names avoid variables p body →
    ((more : List Nameless) → AreAlike avoid more → v ≡ apart more x) → IsStage names (avoid ++ free v ∷ []) (variables ++ v ∷ []) p (open_with (free v) 0 x.body)
next_stage names avoid variables p body x v taken h new = by h.steps h.enough h.is
  where
    is_new : v ≡ apart h.more x
    is_new = new h.more h.alike

    by : (n : ℕ) → nodes body ≤ n → opened names p ≡ before variables (opened_in n h.more body) → IsStage names (avoid ++ free v ∷ []) (variables ++ v ∷ []) p (open_with (free v) 0 x.body)
    by zero enough is = let one = some_node body in absurd (omega (arith, one, enough))
    by (suc n) enough is =
        let less = fewer body x v taken in
        record {
          more = free v ∷ h.more;
          steps = n;
          enough = omega (arith, less, enough);
          alike = taken_more avoid h.more v h.alike;
          is =
              is ∙ ap (λ o. before variables (opened_at (opened_in n) h.more body o)) taken
              ∙ ap (λ (u : List ℕ × TypeTree). before variables (under u (opened_in n (free u ∷ h.more) (open_with (free u) 0 x.body)))) (sym is_new)
              ∙ sym (before_last variables v (opened_in n (free v ∷ h.more) (open_with (free v) 0 x.body)));
        }

-- ---- names of no term

-- each of the variables has a name that none of the terms has
abbrev pub AreApart : List Nameless → List (List ℕ × TypeTree) → Type 0
AreApart names vs = (v : List ℕ × TypeTree) → binds vs v ≡ true → is_taken names v.0 ≡ false

pub apart_more :
    (names more avoid : List Nameless) (vs : List (List ℕ × TypeTree)) (v : List ℕ × TypeTree) → avoid ≡ names ++ more → is_taken avoid v.0 ≡ false → AreApart names vs → AreApart names (vs ++ v ∷ [])
apart_more names more avoid vs v is absent h u e = by (binds vs u) refl (sym (binds_append vs (v ∷ []) u) ∙ e)
  where
    own : is_taken names v.0 ≡ false
    own = (or_parts (is_taken names v.0) (is_taken more v.0) (sym (taken_in_both names more v.0) ∙ ap (λ (ns : List Nameless). is_taken ns v.0) (sym is) ∙ absent)).0

    last : (c : Bool) → variable_eq v u ≡ c → (c || false) ≡ true → is_taken names u.0 ≡ false
    last true q g = subst (λ (z : List ℕ × TypeTree). is_taken names z.0 ≡ false) ((variable_eq_decides v u).0 q) own
    last false q g = absurd (cc)

    by : (b : Bool) → binds vs u ≡ b → (b || (variable_eq v u || false)) ≡ true → is_taken names u.0 ≡ false
    by true q g = h u q
    by false q g = last (variable_eq v u) refl g

-- ---- names that differ

vars_taken : (vs : List (List ℕ × TypeTree)) (w : List ℕ × TypeTree) → binds vs w ≡ true → is_taken (map (nameless []) (map var vs)) w.0 ≡ true
vars_taken [] w h = absurd (cc)
vars_taken (v ∷ vs) w h = by (variable_eq v w) refl h (vars_taken vs w)
  where
    by :
        (b : Bool) → variable_eq v w ≡ b → (b || binds vs w) ≡ true → (binds vs w ≡ true → is_taken (map (nameless []) (map var vs)) w.0 ≡ true) →
        (bytes_eq v.0 w.0 || is_taken (map (nameless []) (map var vs)) w.0) ≡ true
    by true e g k = or_left (bytes_eq v.0 w.0) (is_taken (map (nameless []) (map var vs)) w.0) ((bytes_eq-Decides v.0 w.0).1 (ap (λ (z : List ℕ × TypeTree). z.0) ((variable_eq_decides v w).0 e)))
    by false e g k = or_right (bytes_eq v.0 w.0) (is_taken (map (nameless []) (map var vs)) w.0) (k g)

-- a variable whose name is taken by none of the variables is one more
pub differ_pushed :
    (first avoid : List Named) (vs longer : List (List ℕ × TypeTree)) (v : List ℕ × TypeTree) → avoid ≡ first ++ map var vs → longer ≡ vs ++ v ∷ [] → is_taken (map (nameless []) avoid) v.0 ≡ false →
    DifferInNames vs → DifferInNames longer
differ_pushed first avoid vs longer v are one absent differ = subst DifferInNames (sym one) (λ a b h k same. by a b (binds vs a) (binds vs b) refl refl (sym (binds_append vs (v ∷ []) a) ∙ h) (sym (binds_append vs (v ∷ []) b) ∙ k) same)
  where
    names : is_taken (map (nameless []) (map var vs)) v.0 ≡ false
    names =
        (or_parts (is_taken (map (nameless []) first) v.0) (is_taken (map (nameless []) (map var vs)) v.0)
        (sym (taken_in_both (map (nameless []) first) (map (nameless []) (map var vs)) v.0)
        ∙ ap (λ (ns : List Nameless). is_taken ns v.0) (sym (ap (map (nameless [])) are ∙ map-append (nameless []) first (map var vs))) ∙ absent)).1

    -- none of them has its name
    other : (a : List ℕ × TypeTree) → binds vs a ≡ true → a.0 ≡ v.0 → ⊥
    other a h same = let both : true ≡ false = sym (vars_taken vs a h) ∙ ap (is_taken (map (nameless []) (map var vs))) same ∙ names in absurd (cc)

    last : (a : List ℕ × TypeTree) (b : Bool) → variable_eq v a ≡ b → (b || false) ≡ true → v ≡ a
    last a true e h = (variable_eq_decides v a).0 e
    last a false e h = absurd (cc)

    by :
        (a b : List ℕ × TypeTree) (c d : Bool) → binds vs a ≡ c → binds vs b ≡ d → (c || (variable_eq v a || false)) ≡ true → (d || (variable_eq v b || false)) ≡ true → a.0 ≡ b.0 → a ≡ b
    by a b true true q r h k same = differ a b q r same
    by a b true false q r h k same = absurd (other a q (same ∙ sym (ap (λ (z : List ℕ × TypeTree). z.0) (last b (variable_eq v b) refl k))))
    by a b false true q r h k same = absurd (other b r (sym same ∙ sym (ap (λ (z : List ℕ × TypeTree). z.0) (last a (variable_eq v a) refl h))))
    by a b false false q r h k same = sym (last a (variable_eq v a) refl h) ∙ last b (variable_eq v b) refl k

-- ---- what is free

-- where a body is taken at a variable
opened_free : (v : List ℕ × TypeTree) (k : ℕ) (n : Nameless) (w : List ℕ × TypeTree) → binds (free_occurrences (open_with (free v) k n)) w ≡ true → (variable_eq v w || binds (free_occurrences n) w) ≡ true
opened_free v k (free u) w h = or_right (variable_eq v w) (binds (free_occurrences (free u)) w) h
opened_free v k (bound i) w h = by (nat_lt i k) (i == k) h
  where
    by : (a b : Bool) → binds (free_occurrences (cond a (bound i) (cond b (shift k 0 (free v)) (bound (i - 1))))) w ≡ true → (variable_eq v w || false) ≡ true
    by true b g = absurd (cc)
    by false true g = g
    by false false g = absurd (cc)
opened_free v k (fixed c s) w h = absurd (cc)
opened_free v k (app f x) w h =
    by (variable_eq v w) (binds (free_occurrences (open_with (free v) k f)) w) refl refl (sym (binds_append (free_occurrences (open_with (free v) k f)) (free_occurrences (open_with (free v) k x)) w) ∙ h)
    (opened_free v k f w) (opened_free v k x w)
  where
    inner : (b : Bool) → variable_eq v w ≡ b → (b || binds (free_occurrences f) w) ≡ true → (b || binds (free_occurrences (app f x)) w) ≡ true
    inner true e g = refl
    inner false e g = binds_append (free_occurrences f) (free_occurrences x) w ∙ or_left (binds (free_occurrences f) w) (binds (free_occurrences x) w) g

    outer : (b : Bool) → variable_eq v w ≡ b → (b || binds (free_occurrences x) w) ≡ true → (b || binds (free_occurrences (app f x)) w) ≡ true
    outer true e g = refl
    outer false e g = binds_append (free_occurrences f) (free_occurrences x) w ∙ or_right (binds (free_occurrences f) w) (binds (free_occurrences x) w) g

    by :
        (b c : Bool) → variable_eq v w ≡ b → binds (free_occurrences (open_with (free v) k f)) w ≡ c → (c || binds (free_occurrences (open_with (free v) k x)) w) ≡ true →
        (binds (free_occurrences (open_with (free v) k f)) w ≡ true → (variable_eq v w || binds (free_occurrences f) w) ≡ true) →
        (binds (free_occurrences (open_with (free v) k x)) w ≡ true → (variable_eq v w || binds (free_occurrences x) w) ≡ true) → (variable_eq v w || binds (free_occurrences (app f x)) w) ≡ true
    by b true p q g m n = inner (variable_eq v w) refl (m q)
    by b false p q g m n = outer (variable_eq v w) refl (n g)
opened_free v k (lam a s b) w h = opened_free v (k + 1) b w h

-- each is one of the variables or free in p
abbrev pub IsWithin : List (List ℕ × TypeTree) → Nameless → Nameless → Type 0
IsWithin vs p body = (v : List ℕ × TypeTree) → binds (free_occurrences body) v ≡ true → (binds vs v || binds (free_occurrences p) v) ≡ true

pub init_within : (vs : List (List ℕ × TypeTree)) (p body : Named) → body ≡ p → IsWithin vs (nameless [] p) (nameless [] body)
init_within vs p body same v h = or_right (binds vs v) (binds (free_occurrences (nameless [] p)) v) (ap (λ (t : Named). binds (free_occurrences (nameless [] t)) v) (sym same) ∙ h)

pub within_pushed :
    (vs longer : List (List ℕ × TypeTree)) (p body inner : Nameless) (x : Abstraction) (v : List ℕ × TypeTree) (variable : Named) → longer ≡ vs ++ v ∷ [] → variable ≡ var v → inner ≡ open_with (nameless [] variable) 0 x.body →
    dest_forall body ≡ Some x → IsWithin vs p body → IsWithin longer p inner
within_pushed vs longer p body inner x v variable one is opens taken h w e =
    ap (λ (us : List (List ℕ × TypeTree)). binds us w || binds (free_occurrences p) w) one ∙ ap (λ b. b || binds (free_occurrences p) w) (binds_append vs (v ∷ []) w)
    ∙ by (variable_eq v w) (binds vs w) (binds (free_occurrences p) w) refl (opened_free v 0 x.body w (ap (λ n. binds (free_occurrences n) w) (sym (opens ∙ ap (λ (t : Named). open_with (nameless [] t) 0 x.body) is)) ∙ e)) before
  where
    before : binds (free_occurrences x.body) w ≡ true → (binds vs w || binds (free_occurrences p) w) ≡ true
    before g = h w (ap (λ n. binds (free_occurrences n) w) (dest_quantifier_is (codes "!") body x taken) ∙ g)

    by : (a b c : Bool) → variable_eq v w ≡ a → (a || binds (free_occurrences x.body) w) ≡ true → (binds (free_occurrences x.body) w ≡ true → (b || c) ≡ true) → ((b || (a || false)) || c) ≡ true
    by true true c q g k = refl
    by true false c q g k = refl
    by false true c q g k = refl
    by false false c q g k = k g

-- ---- as the program goes on

pub init_stage : (names avoid : List Nameless) (vs : List (List ℕ × TypeTree)) (p body : Named) → vs ≡ [] → body ≡ p → AreAlike avoid names → IsStage names avoid vs (nameless [] p) (nameless [] body)
init_stage names avoid vs p body none same alike =
    subst (λ (us : List (List ℕ × TypeTree)). IsStage names avoid us (nameless [] p) (nameless [] body)) (sym none)
    (subst (λ (t : Named). IsStage names avoid [] (nameless [] p) (nameless [] t)) (sym same) (first_stage names avoid (nameless [] p) alike))

pub init_longer : (first : List Named) (vs : List (List ℕ × TypeTree)) → vs ≡ [] → first ≡ first ++ map var vs
init_longer first vs none = sym (ap (λ (us : List (List ℕ × TypeTree)). first ++ map var us) none ∙ append-nil first)

pub init_apart : (names : List Nameless) (vs : List (List ℕ × TypeTree)) → vs ≡ [] → AreApart names vs
init_apart names vs none = subst (AreApart names) (sym none) (λ v e. absurd (cc))

pub init_different : (vs : List (List ℕ × TypeTree)) → vs ≡ [] → DifferInNames vs
init_different vs none = subst DifferInNames (sym none) (λ v w h k same. absurd (cc))

pub pushed :
    (names : List Nameless) (avoid more : List Named) (vs longer : List (List ℕ × TypeTree)) (p body inner : Nameless) (x : Abstraction) (v : List ℕ × TypeTree) (variable : Named) → more ≡ avoid ++ variable ∷ [] →
    longer ≡ vs ++ v ∷ [] → variable ≡ var v → inner ≡ open_with (nameless [] variable) 0 x.body → dest_forall body ≡ Some x → IsStage names (map (nameless []) avoid) vs p body →
    ((ns : List Nameless) → AreAlike (map (nameless []) avoid) ns → v ≡ apart ns x) → IsStage names (map (nameless []) more) longer p inner
pushed names avoid more vs longer p body inner x v variable push one is opens taken h new =
    let at : nameless [] variable ≡ free v = ap (nameless []) is in
    subst (λ (n : Nameless). IsStage names (map (nameless []) more) longer p n) (sym (opens ∙ ap (λ n. open_with n 0 x.body) at))
    (subst (λ (ns : List Nameless). IsStage names ns longer p (open_with (free v) 0 x.body))
    (sym (ap (map (nameless [])) push ∙ map-append (nameless []) avoid (variable ∷ []) ∙ ap (λ n. map (nameless []) avoid ++ n ∷ []) at))
    (subst (λ (us : List (List ℕ × TypeTree)). IsStage names (map (nameless []) avoid ++ free v ∷ []) us p (open_with (free v) 0 x.body)) (sym one)
    (next_stage names (map (nameless []) avoid) vs p body x v taken h new)))

pub apart_pushed :
    (first avoid : List Named) (vs longer : List (List ℕ × TypeTree)) (v : List ℕ × TypeTree) → avoid ≡ first ++ map var vs → longer ≡ vs ++ v ∷ [] → is_taken (map (nameless []) avoid) v.0 ≡ false →
    AreApart (map (nameless []) first) vs → AreApart (map (nameless []) first) longer
apart_pushed first avoid vs longer v are one absent h =
    subst (AreApart (map (nameless []) first)) (sym one)
    (apart_more (map (nameless []) first) (map (nameless []) (map var vs)) (map (nameless []) avoid) vs v (ap (map (nameless [])) are ∙ map-append (nameless []) first (map var vs)) absent h)

pub longer_pushed :
    (first avoid more : List Named) (vs longer : List (List ℕ × TypeTree)) (v : List ℕ × TypeTree) (variable : Named) → avoid ≡ first ++ map var vs → more ≡ avoid ++ variable ∷ [] → longer ≡ vs ++ v ∷ [] →
    variable ≡ var v → more ≡ first ++ map var longer
longer_pushed first avoid more vs longer v variable are push one is =
    push ∙ ap (λ (ts : List Named). ts ++ variable ∷ []) are ∙ append_assoc first (map var vs) (variable ∷ [])
    ∙ ap (λ (ts : List Named). first ++ ts) (ap (λ (t : Named). map var vs ++ t ∷ []) is ∙ sym (map-append var vs (v ∷ [])))
    ∙ ap (λ (us : List (List ℕ × TypeTree)). first ++ map var us) (sym one)
