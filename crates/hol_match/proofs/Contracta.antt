-- What rules make of a term: by the first match that is found, its type, and what it becomes where a free variable of the term is bound
-- outside.
use Rattle.std.proofs.Common.{◌≡◌, ℕ, zero, suc, ◌+◌, ◌-◌, ◌<◌, ◌≤◌, List, [], ◌∷◌, ◌++◌, map, length, drop, refl, ap, sym, ◌∙◌, Bool, true, false, cond, ◌||◌, bytes_eq, Option, Some, None, unwrap_or, slice_get, arith}
use Rattle.std.specs.Option.{option_map, option_or}
use Rattle.std.proofs.lemmas.Bool.{or_parts}
use Rattle.std.proofs.lemmas.List.{drop-map}
use Rattle.std.proofs.lemmas.Slice.Eq.{bytes_eq-Decides}
use Rattle.hol_kernel.proofs.Sound.{strip_type}
use Rattle.hol_types.specs.Tree.{TypeTree}
use Rattle.hol_types.specs.Equal.{variable_eq}
use Rattle.hol_types.specs.Subst.{type_subst}
use Rattle.hol_terms.specs.Named.{Named, var, constant, comb, abs, named_type}
use Rattle.hol_terms.specs.Nameless.{Nameless, free, bound, fixed, app, lam, place, nameless, nameless_type, free_occurrences}
use Rattle.hol_terms.specs.Scoped.{binds}
use Rattle.hol_terms.proofs.Same.{variable_eq_decides}
use Rattle.hol_terms.proofs.Typing.{type_outside}
use Rattle.hol_subst.specs.Shift.{shift}
use Rattle.hol_subst.specs.Closing.{close}
use Rattle.hol_subst.specs.Substitution.{term_lookup, term_subst, types_inst}
use Rattle.hol_subst.proofs.Closing.{IsClosed, closed_more, below, shift_close, eq_flip}
use Rattle.hol_subst.proofs.Typing.{subst_type}
use Rattle.hol_subst.proofs.TypesInst.{inst_type}
use Rattle.hol_match.specs.Instance.{InstanceValue, instance_of, instantiated}
use Rattle.hol_match.specs.Matching.{matched_under}
use Rattle.hol_match.specs.Matches.{IsWellTyped}
use Rattle.hol_match.specs.RuleSets.{RuleEntry, IsFit, beside, fit, fit_under, or_later, first_fit}
use Rattle.hol_match.specs.Contracta.{contracted, contractum}
use Rattle.hol_match.specs.Apart.{is_named, IsApart}
use Rattle.hol_match.specs.declared.set_rule.SetRule.{SetRule}
use Rattle.hol_match.specs.SetView.{set_rule, set_rules, set_given, set_givens, IsGivenIn}
use Rattle.hol_match.proofs.Under.{closed, closed_terms, lookup_closed, matched_closed}

abbrev Var : Type 0
Var = List ℕ × TypeTree

-- ---- the right side
pub named_append : (xs ys : List (List ℕ × TypeTree)) (a : List ℕ) → is_named (xs ++ ys) a ≡ (is_named xs a || is_named ys a)
named_append [] ys a = refl
named_append (x ∷ xs) ys a = by (bytes_eq x.0 a) (named_append xs ys a)
  where
    by : (b : Bool) → is_named (xs ++ ys) a ≡ (is_named xs a || is_named ys a) → (b || is_named (xs ++ ys) a) ≡ ((b || is_named xs a) || is_named ys a)
    by true e = refl
    by false e = e

parts_unnamed : (f x : Nameless) (a : List ℕ) → is_named (free_occurrences (app f x)) a ≡ false → (is_named (free_occurrences f) a ≡ false) × (is_named (free_occurrences x) a ≡ false)
parts_unnamed f x a e = or_parts _ _ (sym (named_append (free_occurrences f) (free_occurrences x) a) ∙ e)

-- a variable of another name is another one
pub other_name : (v w : List ℕ × TypeTree) → bytes_eq w.0 v.0 ≡ false → variable_eq v w ≡ false
other_name v w e = by (variable_eq v w) refl
  where
    by : (b : Bool) → variable_eq v w ≡ b → variable_eq v w ≡ false
    by true q =
        let same : w.0 ≡ v.0 = sym (ap (λ (z : Var). z.0) ((variable_eq_decides v w).0 q)) in
        let z : true ≡ false = sym ((bytes_eq-Decides w.0 v.0).1 same) ∙ e in
        absurd (cc)
    by false q = q

subst_closed : (v : Var) (j : ℕ) (ps : List (Nameless × Var)) (k : ℕ) (n : Nameless) → IsClosed k n → is_named (free_occurrences n) v.0 ≡ false → term_subst (closed_terms v j ps) k n ≡ close v (j + k) (term_subst ps k n)
subst_closed v j ps k (free w) c e = ap (λ o. shift k 0 (unwrap_or o (free w))) (lookup_closed v j ps w) ∙ by (term_lookup ps w)
  where
    by : (o : Option Nameless) → shift k 0 (unwrap_or (option_map (close v j) o) (free w)) ≡ close v (j + k) (shift k 0 (unwrap_or o (free w)))
    by None = let q : variable_eq v w ≡ false = other_name v w (or_parts (bytes_eq w.0 v.0) false e).0 in rw q refl
    by (Some u) = shift_close v k 0 j u (omega arith)
subst_closed v j ps k (bound i) c e = rw (below i (j + k) (omega (arith, c))) refl
subst_closed v j ps k (fixed d s) c e = refl
subst_closed v j ps k (app f x) c e =
    let p = parts_unnamed f x v.0 e in
    λ i. app (subst_closed v j ps k f c.0 p.0 i) (subst_closed v j ps k x c.1 p.1 i)
subst_closed v j ps k (lam a s b) c e =
    let m : j + (k + 1) ≡ j + k + 1 = omega arith in
    ap (lam a s) (subst_closed v j ps (k + 1) b c e ∙ ap (λ z. close v z (term_subst ps (k + 1) b)) m)

-- a term under binders has no index that reaches out of them
closed_place : (env : List Var) (i : ℕ) (v : Var) → IsClosed (i + length env) (place env i v)
closed_place [] i v = tt
closed_place (u ∷ env) i v = by (variable_eq u v) (closed_place env (i + 1) v)
  where
    by : (b : Bool) → IsClosed (i + 1 + length env) (place env (i + 1) v) → IsClosed (i + suc (length env)) (cond b (bound i) (place env (i + 1) v))
    by true e = omega arith
    by false e = closed_more (i + 1 + length env) (i + suc (length env)) (place env (i + 1) v) (omega arith) e

closed_under : (env : List Var) (t : Named) → IsClosed (length env) (nameless env t)
closed_under env (var v) = closed_more (0 + length env) (length env) (place env 0 v) (omega arith) (closed_place env 0 v)
closed_under env (constant c s) = tt
closed_under env (comb f x) = (closed_under env f, closed_under env x)
closed_under env (abs v b) = closed_more (length (v ∷ env)) (length env + 1) (nameless (v ∷ env) b) (omega arith) (closed_under (v ∷ env) b)

closed_inst : (ts : List (TypeTree × List ℕ)) (k : ℕ) (n : Nameless) → IsClosed k n → IsClosed k (types_inst ts n)
closed_inst ts k (free w) c = tt
closed_inst ts k (bound i) c = c
closed_inst ts k (fixed d s) c = tt
closed_inst ts k (app f x) c = (closed_inst ts k f c.0, closed_inst ts k x c.1)
closed_inst ts k (lam a s b) c = closed_inst ts (k + 1) b c

named_inst : (ts : List (TypeTree × List ℕ)) (a : List ℕ) (n : Nameless) → is_named (free_occurrences n) a ≡ false → is_named (free_occurrences (types_inst ts n)) a ≡ false
named_inst ts a (free w) e = e
named_inst ts a (bound i) e = refl
named_inst ts a (fixed d s) e = refl
named_inst ts a (app f x) e =
    let p = parts_unnamed f x a e in
    named_append (free_occurrences (types_inst ts f)) (free_occurrences (types_inst ts x)) a ∙ rw (named_inst ts a f p.0, named_inst ts a x p.1) refl
named_inst ts a (lam c s b) e = named_inst ts a b e

instance_closed : (v : Var) (j : ℕ) (a : InstanceValue) (r : Nameless) → IsClosed 0 r → is_named (free_occurrences r) v.0 ≡ false → instantiated (closed v j a) 0 r ≡ close v j (instantiated a 0 r)
instance_closed v j a r c e =
    let m : j + 0 ≡ j = omega arith in
    subst_closed v j a.terms 0 (types_inst a.types r) (closed_inst a.types 0 r c) (named_inst a.types v.0 r e) ∙ ap (λ z. close v z (instantiated a 0 r)) m

-- ---- one rule
stays_closed : (v : Var) (j : ℕ) (vs : List Var) → binds (map (λ (p : Nameless × Var). p.1) (map (λ (w : Var). (free w, w)) vs)) v ≡ false → closed_terms v j (map (λ (w : Var). (free w, w)) vs) ≡ map (λ (w : Var). (free w, w)) vs
stays_closed v j [] e = refl
stays_closed v j (w ∷ vs) e =
    let p = or_parts (variable_eq w v) (binds (map (λ (p : Nameless × Var). p.1) (map (λ (w : Var). (free w, w)) vs)) v) e in
    let q : variable_eq v w ≡ false = eq_flip v w ∙ p.0 in
    let r : close v j (free w) ≡ free w = rw q refl in
    λ i. (r i, w) ∷ stays_closed v j vs p.1 i

beside_closed : (v : Var) (j : ℕ) (s : InstanceValue) (o : Option InstanceValue) → option_map (beside s) (option_map (closed v j) o) ≡ option_map (closed v j) (option_map (beside s) o)
beside_closed v j s None = refl
beside_closed v j s (Some q) = ap (λ ps. Some (instance_of (drop (length s.types) q.types) ps)) (drop-map (λ (p : Nameless × Var). (close v j p.0, p.1)) (length s.terms) q.terms)

fit_closed : (r : SetRule) (v : Var) (env : List TypeTree) (t : Nameless) → binds (map (λ p. p.1) (set_rule r).stays.terms) v ≡ false → fit_under (env ++ v.1 ∷ []) (set_rule r) (close v (length env) t) ≡ option_map (closed v (length env)) (fit_under env (set_rule r) t)
fit_closed r v env t e =
    let s = (set_rule r).stays in
    let l = (set_rule r).rule.left in
    let m : length env + 0 ≡ length env = omega arith in
    let kept : closed v (length env) s ≡ s = ap (instance_of s.types) (stays_closed v (length env) r.source.value.fixed.variables.items e) in
    ap (option_map (beside s)) (
    (λ i. matched_under (env ++ v.1 ∷ []) 0 l (sym kept i) (close v (sym m i) t)) ∙ matched_closed v env 0 l s t (closed_under [] r.rule.left))
    ∙ beside_closed v (length env) s (matched_under env 0 l s t)

made_closed : (v : Var) (j : ℕ) (r : Nameless) (o : Option InstanceValue) → IsClosed 0 r → is_named (free_occurrences r) v.0 ≡ false → option_map (λ a. instantiated a 0 r) (option_map (closed v j) o) ≡ option_map (close v j) (option_map (λ a. instantiated a 0 r) o)
made_closed v j r None c e = refl
made_closed v j r (Some a) c e = ap Some (instance_closed v j a r c e)

contracted_close : (r : SetRule) (v : Var) (env : List TypeTree) (t : Nameless) → binds (map (λ p. p.1) (set_rule r).stays.terms) v ≡ false → is_named (free_occurrences (set_rule r).rule.right) v.0 ≡ false → contracted (env ++ v.1 ∷ []) (set_rule r) (close v (length env) t) ≡ option_map (close v (length env)) (contracted env (set_rule r) t)
contracted_close r v env t e g =
    ap (option_map (λ a. instantiated a 0 (set_rule r).rule.right)) (fit_closed r v env t e)
    ∙ made_closed v (length env) (set_rule r).rule.right (fit_under env (set_rule r) t) (closed_under [] r.rule.right) g

-- ---- all rules
or_closed : (c : Nameless → Nameless) (o p : Option Nameless) → option_or (option_map c o) (option_map c p) ≡ option_map c (option_or o p)
or_closed c None p = refl
or_closed c (Some u) p = refl

-- where a variable that is apart from the rules is bound outside, the closed term becomes what the term becomes, closed
pub contractum_close : (rules : List SetRule) (v : List ℕ × TypeTree) (env : List TypeTree) (t : Nameless) → IsApart (set_rules rules) v → contractum (env ++ v.1 ∷ []) (set_rules rules) (close v (length env) t) ≡ option_map (close v (length env)) (contractum env (set_rules rules) t)
contractum_close [] v env t h = refl
contractum_close (r ∷ rules) v env t h =
    (λ i. option_or (contracted_close r v env t h.0 h.1 i) (contractum_close rules v env t h.2 i))
    ∙ or_closed (close v (length env)) (contracted env (set_rule r) t) (contractum env (set_rules rules) t)

-- ---- by the first match
pub first_none : (i : ℕ) (es : List RuleEntry) (t : Nameless) → first_fit i es t ≡ None → contractum [] es t ≡ None
first_none i [] t h = refl
first_none i (e ∷ es) t h = by (fit e t) (first_none (i + 1) es t) h
  where
    by : (o : Option InstanceValue) → (first_fit (i + 1) es t ≡ None → contractum [] es t ≡ None) → or_later i o (first_fit (i + 1) es t) ≡ None → option_or (option_map (λ a. instantiated a 0 e.rule.right) o) (contractum [] es t) ≡ None
    by None r g = r g
    by (Some a) r g = absurd (cc)

abbrev Contracts : ℕ → List RuleEntry → Nameless → ℕ × InstanceValue → Type 0
Contracts i es t f = (i ≤ f.0) × ((e : RuleEntry) → slice_get es (f.0 - i) ≡ Some e → (contractum [] es t ≡ Some (instantiated f.1 0 e.rule.right)) × (fit e t ≡ Some f.1))

first_some : (i : ℕ) (es : List RuleEntry) (t : Nameless) (f : ℕ × InstanceValue) → first_fit i es t ≡ Some f → Contracts i es t f
first_some i [] t f h = absurd (cc)
first_some i (d ∷ es) t f h = by (fit d t) refl (first_some (i + 1) es t f) h
  where
    by : (o : Option InstanceValue) → fit d t ≡ o → (first_fit (i + 1) es t ≡ Some f → Contracts (i + 1) es t f) → or_later i o (first_fit (i + 1) es t) ≡ Some f → Contracts i (d ∷ es) t f
    by None p r g =
        let q = r g in
        let m : f.0 - i ≡ suc (f.0 - (i + 1)) = omega (arith, q.0) in
        (omega (arith, q.0), λ e k. let w = q.1 e (sym (ap (slice_get (d ∷ es)) m) ∙ k) in (rw p w.0, w.1))
    by (Some a) p r g =
        let same : (i, a) ≡ f = cc in
        let first : i ≡ f.0 = ap (λ (z : ℕ × InstanceValue). z.0) same in
        let m : f.0 - i ≡ 0 = omega (arith, first) in (
          omega (arith, first),
          λ e k.
              let n : Some d ≡ Some e = sym (ap (slice_get (d ∷ es)) m) ∙ k in
              let q : d ≡ e = cc in
              (rw p (λ x. Some (instantiated (same x).1 0 (q x).rule.right)), sym (ap (λ (z : RuleEntry). fit z t) q) ∙ p ∙ ap (λ (z : ℕ × InstanceValue). Some z.1) same),
        )

got : {A B : Type 0} (f : A → B) (xs : List A) (i : ℕ) (x : A) → slice_get xs i ≡ Some x → slice_get (map f xs) i ≡ Some (f x)
got f [] i x e = absurd (cc)
got f (y ∷ ys) zero x e = let q : y ≡ x = cc in ap (λ z. Some (f z)) q
got f (y ∷ ys) (suc i) x e = got f ys i x e

-- the rule of this number is there
pub at_number : (rules : List SetRule) (i : ℕ) (r : SetRule) → slice_get rules i ≡ Some r → slice_get (set_rules rules) i ≡ Some (set_rule r)
at_number rules i r e = got set_rule rules i r e

get_below : (rules : List SetRule) (i : ℕ) (e : RuleEntry) → slice_get (set_rules rules) i ≡ Some e → i < length rules
get_below [] i e h = absurd (cc)
get_below (s ∷ rules) zero e h = omega arith
get_below (s ∷ rules) (suc i) e h = let m : i < length rules = get_below rules i e h in omega arith

pub rule_there : (rules : List SetRule) (t : Nameless) (f : ℕ × InstanceValue) → IsFit (set_rules rules) t f → f.0 < length rules
rule_there rules t f h = get_below rules f.0 h.entry h.is

-- what the rule that is found makes of the term
pub found_contracts : (rules : List SetRule) (t : Nameless) (f : ℕ × InstanceValue) (r : SetRule) (u : Nameless) → first_fit 0 (set_rules rules) t ≡ Some f → slice_get rules f.0 ≡ Some r → u ≡ instantiated f.1 0 (set_rule r).rule.right → contractum [] (set_rules rules) t ≡ Some u
found_contracts rules t f r u h k e =
    let m : f.0 - 0 ≡ f.0 = omega arith in
    ((first_some 0 (set_rules rules) t f h).1 (set_rule r) (ap (slice_get (set_rules rules)) m ∙ at_number rules f.0 r k)).0 ∙ ap Some (sym e)

-- the rule that is found makes it of the term
pub found_rule : (rules : List SetRule) (t : Nameless) (f : ℕ × InstanceValue) (r : SetRule) (u : Nameless) → first_fit 0 (set_rules rules) t ≡ Some f → slice_get rules f.0 ≡ Some r → u ≡ instantiated f.1 0 (set_rule r).rule.right → contracted [] (set_rule r) t ≡ Some u
found_rule rules t f r u h k e =
    let m : f.0 - 0 ≡ f.0 = omega arith in
    ap (option_map (λ a. instantiated a 0 (set_rule r).rule.right)) ((first_some 0 (set_rules rules) t f h).1 (set_rule r) (ap (slice_get (set_rules rules)) m ∙ at_number rules f.0 r k)).1 ∙ ap Some (sym e)

given_number : (rules : List SetRule) (i : ℕ) (r : SetRule) → slice_get rules i ≡ Some r → slice_get (set_givens rules) i ≡ Some (set_given r)
given_number rules i r e = got set_given rules i r e

pub found_given : (rules : List SetRule) (i : ℕ) (r : SetRule) → slice_get rules i ≡ Some r → IsGivenIn (set_givens rules) (set_given r)
found_given rules i r e = (i, given_number rules i r e)

-- ---- types
pub instance_type : (a : InstanceValue) (p : Nameless) (s : TypeTree) → IsWellTyped a → nameless_type [] p ≡ Some s → nameless_type [] (instantiated a 0 p) ≡ Some (type_subst a.types s)
instance_type a p s w e = subst_type a.terms [] 0 (types_inst a.types p) w ∙ inst_type a.types [] p s e

-- it has the term's type
pub found_type : (rules : List SetRule) (t u : Named) (f : ℕ × InstanceValue) (r : SetRule) → IsFit (set_rules rules) (nameless [] t) f → slice_get rules f.0 ≡ Some r → nameless [] u ≡ instantiated f.1 0 (set_rule r).rule.right → named_type u ≡ named_type t
found_type rules t u f r h k e =
    let n : Some h.entry ≡ Some (set_rule r) = sym h.is ∙ at_number rules f.0 r k in
    let same : h.entry ≡ set_rule r = cc in
    let right : nameless [] u ≡ instantiated f.1 0 h.entry.rule.right = e ∙ sym (ap (λ (x : RuleEntry). instantiated f.1 0 x.rule.right) same) in
    sym (type_outside u) ∙ ap (nameless_type []) right ∙ instance_type f.1 h.entry.rule.right h.typed.0 h.matches.typed h.typed.2
    ∙ sym (instance_type f.1 h.entry.rule.left h.typed.0 h.matches.typed h.typed.1)
    ∙ sym (strip_type [] (instantiated f.1 0 h.entry.rule.left)) ∙ ap (nameless_type []) h.matches.gives ∙ strip_type [] (nameless [] t) ∙ type_outside t

pub ruleset contracting = (first_none, rule_there, found_contracts, found_rule, found_given, found_type)
