-- Rules whose left sides have only variables and type variables that stay: they match a term that is the left side up to bound names, and no other.
use Rattle.std.proofs.Common.{◌≡◌, ◌⊎◌, inl, inr, ℕ, zero, suc, ◌+◌, ◌%◌, ◌<◌, ◌≤◌, List, [], ◌∷◌, map, length, drop, get_or, refl, sym, ap, ◌∙◌, subst, Bool, true, false, cond, ◌&&◌, ◌||◌, bytes_eq, Option, Some, None, IfSome, arith}
use Rattle.std.specs.BTreeMap.{BTreeMap, get, IsEmpty, Updates}
use Rattle.std.specs.Cmp.{Equal-is}
use Rattle.std.specs.List.{list_all}
use Rattle.std.specs.Map.{lookup}
use Rattle.std.specs.Option.{option_map, option_and_then}
use Rattle.std.specs.Ordering.{is_eq}
use Rattle.std.proofs.lemmas.Bool.{or_left, or_right}
use Rattle.std.proofs.lemmas.List.{drop_all}
use Rattle.std.proofs.lemmas.Slice.Eq.{bytes_eq-Decides}
use Rattle.hol_types.proofs.Filters.{among_append}
use Rattle.hol_types.proofs.Steps.{next_of}
use Rattle.hol_types.specs.Tree.{TypeTree, TypeList, TyVar, TyApp, no_types, more_types}
use Rattle.hol_types.specs.Equal.{variable_eq}
use Rattle.hol_types.specs.Names.{is_among, type_names, types_names}
use Rattle.hol_types.specs.Subst.{type_for, type_subst, types_subst}
use Rattle.hol_terms.specs.Named.{Named}
use Rattle.hol_terms.specs.Nameless.{Nameless, nameless, free, bound, fixed, app, lam, free_occurrences}
use Rattle.hol_terms.specs.Alpha.{strip}
use Rattle.hol_terms.specs.Scoped.{binds, add_all}
use Rattle.hol_terms.proofs.Same.{variable_eq_decides}
use Rattle.hol_subst.specs.Substitution.{term_for, term_subst, types_inst}
use Rattle.hol_subst.specs.TermTyvars.{term_tyvars}
use Rattle.hol_subst.specs.AlphaOrder.{alpha_cmp}
use Rattle.hol_subst.proofs.AlphaOrder.{alpha_ties}
use Rattle.hol_subst.proofs.Commute.{subst_agree, subst_nothing}
use Rattle.hol_subst.proofs.InstSteps.{all_there}
use Rattle.hol_match.specs.Fixed.{all_stay, stays}
use Rattle.hol_match.specs.Instance.{InstanceValue, instance_of, instantiated, staying, both}
use Rattle.hol_match.specs.Matching.{matched, with_type}
use Rattle.hol_match.specs.Matches.{GivesTypes, GivesTerms, IsMatch}
use Rattle.hol_match.specs.Opening.{has_type_var}
use Rattle.hol_match.specs.RuleSets.{beside, fit, or_later}
use Rattle.hol_match.specs.Heads.{name_number, head_bucket, bucket_of, rule_bucket, term_bucket, is_settled, first_in, first_settled}
use Rattle.hol_match.specs.HeadView.{side_cmp, ArePlaces, is_known}
use Rattle.hol_match.specs.SetView.{set_rule, set_rules}
use Rattle.hol_match.specs.declared.set_rule.SetRule.{SetRule}
use Rattle.hol_match.specs.declared.fixed.Fixed.{Fixed}
use Rattle.hol_match.specs.declared.side.Side.{Side}
use Rattle.hol_match.proofs.Keeping.{term_has}
use Rattle.hol_match.proofs.RuleSets.{fit_none}
use Rattle.hol_match.proofs.MatchLaws.{Tells, Makes, matched_tells}
use Rattle.hol_match.proofs.Standing.{AddsTo, matched_adds}
use Rattle.hol_match.proofs.Staying.{most_general}

abbrev Var : Type 0
Var = List ℕ × TypeTree

-- ---- what stays is given itself
type_stays : (a : InstanceValue) (names : List (List ℕ)) (c : List ℕ) → GivesTypes a (map (λ n. (TyVar n, n)) names) → is_among names c ≡ true → type_for a.types c ≡ TyVar c
type_stays a [] c h e = absurd (cc)
type_stays a (n ∷ names) c h e = by (bytes_eq c n) refl e (type_stays a names c h.1)
  where
    by : (b : Bool) → bytes_eq c n ≡ b → (b || is_among names c) ≡ true → (is_among names c ≡ true → type_for a.types c ≡ TyVar c) → type_for a.types c ≡ TyVar c
    by true q k r = let same : c ≡ n = (bytes_eq-Decides c n).0 q in subst (λ z. type_for a.types z ≡ TyVar z) (sym same) h.0
    by false q k r = r k

free_strip : (n : Nameless) (v : Var) → strip n ≡ free v → n ≡ free v
free_strip (free w) v e = e
free_strip (bound i) v e = absurd (cc)
free_strip (fixed c s) v e = absurd (cc)
free_strip (app f x) v e = absurd (cc)
free_strip (lam a s b) v e = absurd (cc)

term_stays : (a : InstanceValue) (vs : List Var) (w : Var) → GivesTerms a (map (λ v. (free v, v)) vs) → binds vs w ≡ true → term_for a.terms w ≡ free w
term_stays a [] w h e = absurd (cc)
term_stays a (v ∷ vs) w h e = by (variable_eq v w) refl e (term_stays a vs w h.1)
  where
    by : (b : Bool) → variable_eq v w ≡ b → (b || binds vs w) ≡ true → (binds vs w ≡ true → term_for a.terms w ≡ free w) → term_for a.terms w ≡ free w
    by true q k r = let same : v ≡ w = (variable_eq_decides v w).0 q in subst (λ z. term_for a.terms z ≡ free z) same (free_strip (term_for a.terms v) v h.0)
    by false q k r = r k

-- ---- a term that has only what stays is left as it is
module _ (pairs : List (TypeTree × List ℕ)) where
  mutual
    type_kept : (s : TypeTree) → ((c : List ℕ) → is_among (type_names s) c ≡ true → type_for pairs c ≡ TyVar c) → type_subst pairs s ≡ s
    type_kept (TyVar a) h = h a (ap (λ b. b || false) ((bytes_eq-Decides a a).1 refl))
    type_kept (TyApp c ts) h = ap (TyApp c) (types_kept ts h)

    types_kept : (ts : TypeList) → ((c : List ℕ) → is_among (types_names ts) c ≡ true → type_for pairs c ≡ TyVar c) → types_subst pairs ts ≡ ts
    types_kept no_types h = refl
    types_kept (more_types t ts) h = λ i. more_types
        (type_kept t (λ c k. h c (among_append (type_names t) (types_names ts) c ∙ or_left (is_among (type_names t) c) (is_among (types_names ts) c) k)) i)
        (types_kept ts (λ c k. h c (among_append (type_names t) (types_names ts) c ∙ or_right (is_among (type_names t) c) (is_among (types_names ts) c) k)) i)

  inst_kept : (n : Nameless) → ((c : List ℕ) → has_type_var c n ≡ true → type_for pairs c ≡ TyVar c) → types_inst pairs n ≡ n
  inst_kept (free v) h = ap (λ s. free (v.0, s)) (type_kept v.1 h)
  inst_kept (bound i) h = refl
  inst_kept (fixed c s) h = ap (fixed c) (type_kept s h)
  inst_kept (app f x) h = λ i. app
      (inst_kept f (λ c k. h c (or_left (has_type_var c f) (has_type_var c x) k)) i)
      (inst_kept x (λ c k. h c (or_right (has_type_var c f) (has_type_var c x) k)) i)
  inst_kept (lam a s b) h = λ i. lam a
      (type_kept s (λ c k. h c (or_left (is_among (type_names s) c) (has_type_var c b) k)) i)
      (inst_kept b (λ c k. h c (or_right (is_among (type_names s) c) (has_type_var c b) k)) i)

-- ---- each of a list is one of another
among_all : (names own : List (List ℕ)) (c : List ℕ) → list_all (is_among names) own ≡ true → is_among own c ≡ true → is_among names c ≡ true
among_all names [] c h e = absurd (cc)
among_all names (a ∷ own) c h e = by (bytes_eq c a) refl e (is_among names a) refl (list_all (is_among names) own) h (among_all names own c)
  where
    by : (b : Bool) → bytes_eq c a ≡ b → (b || is_among own c) ≡ true → (x : Bool) → is_among names a ≡ x → (y : Bool) → (x && y) ≡ true → (y ≡ true → is_among own c ≡ true → is_among names c ≡ true) → is_among names c ≡ true
    by true q k true p y g r = ap (is_among names) ((bytes_eq-Decides c a).0 q) ∙ p
    by false q k true p y g r = r g k
    by b q k false p y g r = absurd (cc)

bound_all : (vs own : List Var) (w : Var) → list_all (binds vs) own ≡ true → binds own w ≡ true → binds vs w ≡ true
bound_all vs [] w h e = absurd (cc)
bound_all vs (v ∷ own) w h e = by (variable_eq v w) refl e (binds vs v) refl (list_all (binds vs) own) h (bound_all vs own w)
  where
    by : (b : Bool) → variable_eq v w ≡ b → (b || binds own w) ≡ true → (x : Bool) → binds vs v ≡ x → (y : Bool) → (x && y) ≡ true → (y ≡ true → binds own w ≡ true → binds vs w ≡ true) → binds vs w ≡ true
    by true q k true p y g r = ap (binds vs) (sym ((variable_eq_decides v w).0 q)) ∙ p
    by false q k true p y g r = r g k
    by b q k false p y g r = absurd (cc)

parts : (a b : Bool) → (a && b) ≡ true → (a ≡ true) × (b ≡ true)
parts true b e = (refl, e)
parts false b e = absurd (cc)

module _ (names : List (List ℕ)) (vs : List Var) (p : Nameless) (h : all_stay names vs p ≡ true) where
  own : (list_all (binds vs) (add_all [] (free_occurrences p)) ≡ true) × (list_all (is_among names) (term_tyvars p) ≡ true)
  own = parts (list_all (binds vs) (add_all [] (free_occurrences p))) (list_all (is_among names) (term_tyvars p)) h

  -- a match is the term itself up to bound names
  match_is : (t : Nameless) (a : InstanceValue) → IsMatch (staying names vs) p t a → strip p ≡ strip t
  match_is t a m =
      let types : types_inst a.types p ≡ p = inst_kept a.types p (λ c k. type_stays a names c m.left.0 (among_all names (term_tyvars p) c own.1 (term_has c p ∙ k))) in
      let terms : term_subst a.terms 0 p ≡ p =
      subst_agree a.terms [] 0 p (λ w f. term_stays a vs w m.left.1 (bound_all vs (add_all [] (free_occurrences p)) w own.0 (all_there [] (free_occurrences p) w f))) ∙ subst_nothing 0 p in
      ap strip (sym terms ∙ ap (term_subst a.terms 0) (sym types)) ∙ m.gives

  no_match : (t : Nameless) → (strip p ≡ strip t → ⊥) → matched 0 p (staying names vs) t ≡ None
  no_match t other = by (matched 0 p (staying names vs) t) refl (matched_adds 0 p (staying names vs) t)
    where
      by : (o : Option InstanceValue) → matched 0 p (staying names vs) t ≡ o → AddsTo (staying names vs) o → o ≡ None
      by None e g = refl
      by (Some all) e g = absurd (other (match_is t g.0 (most_general names vs p t g.0 (e ∙ ap (λ q. Some q) g.1)).fits))

  match_same : (t : Nameless) (all : InstanceValue) → matched 0 p (staying names vs) t ≡ Some all → strip p ≡ strip t
  match_same t all e =
      let g : AddsTo (staying names vs) (Some all) = subst (AddsTo (staying names vs)) e (matched_adds 0 p (staying names vs) t) in
      match_is t g.0 (most_general names vs p t g.0 (e ∙ ap (λ q. Some q) g.1)).fits

  -- and the term itself is matched
  types_left : (ns : List (List ℕ)) → GivesTypes (instance_of [] []) (map (λ n. (TyVar n, n)) ns)
  types_left [] = tt
  types_left (n ∷ ns) = (refl, types_left ns)

  terms_left : (ws : List Var) → GivesTerms (instance_of [] []) (map (λ v. (free v, v)) ws)
  terms_left [] = tt
  terms_left (w ∷ ws) = (refl, terms_left ws)

  own_match : (t : Nameless) → strip p ≡ strip t → matched 0 p (staying names vs) t ≡ None → ⊥
  own_match t same none =
      let whole : instantiated (instance_of [] []) 0 p ≡ p = ap (term_subst [] 0) (inst_kept [] p (λ c k. refl)) ∙ subst_nothing 0 p in
      subst (Tells (λ σ. Makes σ 0 p t) (staying names vs)) none (matched_tells 0 p (staying names vs) t) (instance_of [] []) (λ v. refl) (types_left names, terms_left vs)
      (ap strip whole ∙ same)

-- ---- a variable that stays at the head of a pattern is at that of the term
module _ (names : List (List ℕ)) (vs : List Var) (m : ℕ) where
  own_head : (p t : Nameless) (all : InstanceValue) (k : ℕ) → matched 0 p (staying names vs) t ≡ Some all → (head_bucket (λ v. all_stay names vs (free v)) m p k ≡ 0) ⊎ (head_bucket (λ v. all_stay names vs (free v)) m p k ≡ head_bucket (λ v. true) m t k)
  own_head (free v) t all k h = by (all_stay names vs (free v)) refl
    where
      by : (b : Bool) → all_stay names vs (free v) ≡ b → (cond (all_stay names vs (free v)) (name_number 0 v.0 % m) 0 ≡ 0) ⊎ (cond (all_stay names vs (free v)) (name_number 0 v.0 % m) 0 ≡ head_bucket (λ w. true) m t k)
      by false e = inl (ap (λ c. cond c (name_number 0 v.0 % m) 0) e)
      by true e =
          let same : t ≡ free v = free_strip t v (sym (match_same names vs (free v) e t all h)) in
          inr (ap (λ c. cond c (name_number 0 v.0 % m) 0) e ∙ sym (ap (λ n. head_bucket (λ w. true) m n k) same))
  own_head (bound i) t all k h = inl refl
  own_head (lam a s b) t all k h = inl refl
  own_head (fixed c s) (free v) all k h = absurd (cc)
  own_head (fixed c s) (bound i) all k h = absurd (cc)
  own_head (fixed c s) (app f x) all k h = absurd (cc)
  own_head (fixed c s) (lam a u b) all k h = absurd (cc)
  own_head (fixed c s) (fixed d u) all k h = by (bytes_eq c d) refl h
    where
      by : (b : Bool) → bytes_eq c d ≡ b → cond b (with_type s (staying names vs) u) None ≡ Some all → (name_number 0 c % m ≡ 0) ⊎ (name_number 0 c % m ≡ name_number 0 d % m)
      by true e g = inr (ap (λ (n : List ℕ). name_number 0 n % m) ((bytes_eq-Decides c d).0 e))
      by false e g = absurd (cc)
  own_head (app p q) (free v) all k h = absurd (cc)
  own_head (app p q) (bound i) all k h = absurd (cc)
  own_head (app p q) (fixed c s) all k h = absurd (cc)
  own_head (app p q) (lam a s b) all k h = absurd (cc)
  own_head (app p q) (app f x) all zero h = inl refl
  own_head (app p q) (app f x) all (suc k) h = by (matched 0 p (staying names vs) f) refl h (λ more e. own_head p f more k e)
    where
      Meets : Type 0
      Meets = (head_bucket (λ v. all_stay names vs (free v)) m p k ≡ 0) ⊎ (head_bucket (λ v. all_stay names vs (free v)) m p k ≡ head_bucket (λ v. true) m f k)

      by : (o : Option InstanceValue) → matched 0 p (staying names vs) f ≡ o → option_and_then (λ more. matched 0 q more x) o ≡ Some all → ((more : InstanceValue) → matched 0 p (staying names vs) f ≡ Some more → Meets) → Meets
      by None e g rest = absurd (cc)
      by (Some more) e g rest = rest more e

-- ---- of rules
only_names : (names : List (List ℕ)) → map (λ (p : TypeTree × List ℕ). p.1) (map (λ n. (TyVar n, n)) names) ≡ names
only_names [] = refl
only_names (n ∷ names) = ap (λ ns. n ∷ ns) (only_names names)

only_variables : (vs : List Var) → map (λ (p : Nameless × Var). p.1) (map (λ v. (free v, v)) vs) ≡ vs
only_variables [] = refl
only_variables (v ∷ vs) = ap (λ ws. v ∷ ws) (only_variables vs)

all_same : (r : SetRule) → is_settled (set_rule r) ≡ all_stay r.source.value.fixed.names.items r.source.value.fixed.variables.items (set_rule r).rule.left
all_same r = λ i. all_stay (only_names r.source.value.fixed.names.items i) (only_variables r.source.value.fixed.variables.items i) (set_rule r).rule.left

pub settled : (r : SetRule) → r.settled ≡ is_settled (set_rule r)
settled r = r.all_stay ∙ sym (all_same r)

pub apart : (r : SetRule) (t : Nameless) (settled : Bool) → settled ≡ true → settled ≡ all_stay r.source.value.fixed.names.items r.source.value.fixed.variables.items (set_rule r).rule.left → (strip (set_rule r).rule.left ≡ strip t → ⊥) → fit (set_rule r) t ≡ None
apart r t settled e f other = fit_none (set_rule r) t (no_match r.source.value.fixed.names.items r.source.value.fixed.variables.items (set_rule r).rule.left (sym f ∙ e) t other)

module _ (r : SetRule) (t : Nameless) (all : is_settled (set_rule r) ≡ true) where
  stay : all_stay r.source.value.fixed.names.items r.source.value.fixed.variables.items (set_rule r).rule.left ≡ true
  stay = sym (all_same r) ∙ all

  pub settled_apart : is_eq (alpha_cmp (set_rule r).rule.left t) ≡ false → fit (set_rule r) t ≡ None
  settled_apart other =
      fit_none (set_rule r) t
      (no_match r.source.value.fixed.names.items r.source.value.fixed.variables.items (set_rule r).rule.left stay t
      (λ same. (let clash : true ≡ false = sym (ap is_eq ((alpha_ties (set_rule r).rule.left t).1 same)) ∙ other in absurd (cc))))

  pub settled_fits : is_eq (alpha_cmp (set_rule r).rule.left t) ≡ true → fit (set_rule r) t ≡ None → ⊥
  settled_fits same none =
      own_match r.source.value.fixed.names.items r.source.value.fixed.variables.items (set_rule r).rule.left stay t
      ((alpha_ties (set_rule r).rule.left t).0 ((Equal-is (alpha_cmp (set_rule r).rule.left t)).0 same)) (by (matched 0 (set_rule r).rule.left (stays r.source.value.fixed) t) none)
    where
      by : (o : Option InstanceValue) → option_map (beside (stays r.source.value.fixed)) o ≡ None → o ≡ None
      by None e = refl
      by (Some a) e = absurd (cc)

pub loose_head : (r : SetRule) (m : ℕ) (t : Nameless) (a : InstanceValue) → fit (set_rule r) t ≡ Some a → (rule_bucket true m (set_rule r) ≡ 0) ⊎ (rule_bucket true m (set_rule r) ≡ term_bucket true m t)
loose_head r m t a h = by (matched 0 (set_rule r).rule.left (stays r.source.value.fixed) t) refl h
  where
    names : List (List ℕ)
    names = r.source.value.fixed.names.items

    vs : List Var
    vs = r.source.value.fixed.variables.items

    same : rule_bucket true m (set_rule r) ≡ bucket_of (λ v. all_stay names vs (free v)) m (set_rule r).rule.left
    same = λ i. bucket_of (λ v. all_stay (only_names names i) (only_variables vs i) (free v)) m (set_rule r).rule.left

    to : (bucket_of (λ v. all_stay names vs (free v)) m (set_rule r).rule.left ≡ 0) ⊎ (bucket_of (λ v. all_stay names vs (free v)) m (set_rule r).rule.left ≡ term_bucket true m t) → (rule_bucket true m (set_rule r) ≡ 0) ⊎ (rule_bucket true m (set_rule r) ≡ term_bucket true m t)
    to (inl e) = inl (same ∙ e)
    to (inr e) = inr (same ∙ e)

    by : (o : Option InstanceValue) → matched 0 (set_rule r).rule.left (stays r.source.value.fixed) t ≡ o → option_map (beside (stays r.source.value.fixed)) o ≡ Some a → (rule_bucket true m (set_rule r) ≡ 0) ⊎ (rule_bucket true m (set_rule r) ≡ term_bucket true m t)
    by None e g = absurd (cc)
    by (Some all) e g = to (own_head names vs m (set_rule r).rule.left t all 16 e)

-- what the program finds of the left side
pub rule_known : (r : SetRule) (m : ℕ) (f : Fixed) (b : ℕ) → stays f ≡ (set_rule r).stays → b ≡ head_bucket (is_known f) m (set_rule r).rule.left 16 → b ≡ rule_bucket true m (set_rule r)
rule_known r m f b e h =
    h
    ∙ (λ i. head_bucket (λ v. all_stay (sym (only_names f.names.items) i) (sym (only_variables f.variables.items) i) (free v)) m (set_rule r).rule.left 16)
    ∙ ap (λ (s : InstanceValue). head_bucket (λ v. all_stay (map (λ p. p.1) s.types) (map (λ p. p.1) s.terms) (free v)) m (set_rule r).rule.left 16) e

-- ---- the first of them
first_is : (r : SetRule) (rules : List SetRule) (i : ℕ) (t : Nameless) → is_settled (set_rule r) ≡ true → is_eq (alpha_cmp (set_rule r).rule.left t) ≡ true → first_in is_settled i (set_rules (r ∷ rules)) t ≡ option_map (λ a. (i, a)) (fit (set_rule r) t)
first_is r rules i t all same = by (fit (set_rule r) t) refl
  where
    rest : Option (ℕ × InstanceValue)
    rest = first_in is_settled (i + 1) (set_rules rules) t

    here : first_in is_settled i (set_rules (r ∷ rules)) t ≡ or_later i (fit (set_rule r) t) rest
    here = ap (λ b. or_later i (cond b (fit (set_rule r) t) None) rest) all

    by : (o : Option InstanceValue) → fit (set_rule r) t ≡ o → first_in is_settled i (set_rules (r ∷ rules)) t ≡ option_map (λ a. (i, a)) (fit (set_rule r) t)
    by None e = absurd (settled_fits r t all same e)
    by (Some a) e = here ∙ ap (λ o. or_later i o rest) e ∙ sym (ap (option_map (λ a. (i, a))) e)

is_passed : (r : SetRule) (rules : List SetRule) (i : ℕ) (t : Nameless) → (is_settled (set_rule r) && is_eq (alpha_cmp (set_rule r).rule.left t)) ≡ false → first_in is_settled i (set_rules (r ∷ rules)) t ≡ first_in is_settled (i + 1) (set_rules rules) t
is_passed r rules i t h = ap (λ o. or_later i o (first_in is_settled (i + 1) (set_rules rules) t)) (by (is_settled (set_rule r)) refl)
  where
    by : (b : Bool) → is_settled (set_rule r) ≡ b → cond (is_settled (set_rule r)) (fit (set_rule r) t) None ≡ None
    by false e = ap (λ c. cond c (fit (set_rule r) t) None) e
    by true e = ap (λ c. cond c (fit (set_rule r) t) None) e ∙ settled_apart r t e (sym (ap (λ c. c && is_eq (alpha_cmp (set_rule r).rule.left t)) e) ∙ h)

pub place_none : (rules : List SetRule) (i : ℕ) (t : Nameless) → first_settled i (set_rules rules) t ≡ None → first_in is_settled i (set_rules rules) t ≡ None
place_none [] i t h = refl
place_none (r ∷ rules) i t h = by (is_settled (set_rule r) && is_eq (alpha_cmp (set_rule r).rule.left t)) refl h (place_none rules (i + 1) t)
  where
    by :
        (b : Bool) → (is_settled (set_rule r) && is_eq (alpha_cmp (set_rule r).rule.left t)) ≡ b → cond b (Some i) (first_settled (i + 1) (set_rules rules) t) ≡ None →
        (first_settled (i + 1) (set_rules rules) t ≡ None → first_in is_settled (i + 1) (set_rules rules) t ≡ None) → first_in is_settled i (set_rules (r ∷ rules)) t ≡ None
    by true e k more = absurd (cc)
    by false e k more = is_passed r rules i t e ∙ more k

-- the rule of number n, the first of all having number i
record IsPlace (rules : List SetRule) (i n : ℕ) (t : Nameless) : Type 0 where
  at : ℕ
  number : n ≡ at + i
  within : at < length rules
  is : (r : SetRule) → r ≡ get_or rules at r → first_in is_settled i (set_rules rules) t ≡ option_map (λ a. (n, a)) (fit (set_rule r) t)

place_some : (rules : List SetRule) (i n : ℕ) (t : Nameless) → first_settled i (set_rules rules) t ≡ Some n → IsPlace rules i n t
place_some [] i n t h = absurd (cc)
place_some (r ∷ rules) i n t h = by (is_settled (set_rule r)) (is_eq (alpha_cmp (set_rule r).rule.left t)) refl refl h (place_some rules (i + 1) n t)
  where
    later : (is_settled (set_rule r) && is_eq (alpha_cmp (set_rule r).rule.left t)) ≡ false → IsPlace rules (i + 1) n t → IsPlace (r ∷ rules) i n t
    later e p = record { at = suc p.at; number = omega (arith, p.number); within = omega (arith, p.within); is = λ x f. is_passed r rules i t e ∙ p.is x f }

    by :
        (b c : Bool) → is_settled (set_rule r) ≡ b → is_eq (alpha_cmp (set_rule r).rule.left t) ≡ c → cond (b && c) (Some i) (first_settled (i + 1) (set_rules rules) t) ≡ Some n →
        (first_settled (i + 1) (set_rules rules) t ≡ Some n → IsPlace rules (i + 1) n t) → IsPlace (r ∷ rules) i n t
    by true true e f k more =
        let same : i ≡ n = cc in
        record {
          at = 0;
          number = omega (arith, same);
          within = omega arith;
          is = λ x g. first_is r rules i t e f ∙ (λ j. option_map (λ a. (same j, a)) (fit (set_rule (sym g j)) t));
        }
    by true false e f k more = later (λ j. e j && f j) (more k)
    by false c e f k more = later (ap (λ b. b && is_eq (alpha_cmp (set_rule r).rule.left t)) e) (more k)

module _ (rules : List SetRule) (t : Nameless) (n : ℕ) (h : first_settled 0 (set_rules rules) t ≡ Some n) where
  pub place_within : n < length rules
  place_within = let p = place_some rules 0 n t h in omega (arith, p.number, p.within)

  pub place_is : (r : SetRule) → r ≡ get_or rules n r → first_in is_settled 0 (set_rules rules) t ≡ option_map (λ a. (n, a)) (fit (set_rule r) t)
  place_is r e =
      let p = place_some rules 0 n t h in
      let at : n ≡ p.at = omega (arith, p.number) in
      p.is r (e ∙ ap (λ k. get_or rules k r) at)

-- what is looked up
pub placed : (rules : List SetRule) (places : BTreeMap Side ℕ) (side : Side) (t : Named) (r : Option ℕ) → ArePlaces rules places → side.term ≡ t → r ≡ get side_cmp places side → r ≡ first_settled 0 (set_rules rules) (nameless [] t)
placed rules places side t r are e f = f ∙ are side ∙ ap (λ z. first_settled 0 (set_rules rules) (nameless [] z)) e

pub placed_within : (rules : List SetRule) (places : BTreeMap Side ℕ) (side : Side) (r : Option ℕ) → ArePlaces rules places → r ≡ get side_cmp places side → IfSome r (λ i. i < length rules)
placed_within rules places side None are f = tt
placed_within rules places side (Some i) are f = place_within rules (nameless [] side.term) i (sym (f ∙ are side))

pub ruleset places = (placed, placed_within)

-- what is found by the place
pub settled_none : (rules : List SetRule) (t : Nameless) → None ≡ first_settled 0 (set_rules rules) t → first_in is_settled 0 (set_rules rules) t ≡ None
settled_none rules t h = place_none rules 0 t (sym h)

pub settled_not : (rules : List SetRule) (t : Nameless) (n : ℕ) (r : SetRule) → Some n ≡ first_settled 0 (set_rules rules) t → r ≡ get_or rules n r → fit (set_rule r) t ≡ None → first_in is_settled 0 (set_rules rules) t ≡ None
settled_not rules t n r h e none = place_is rules t n (sym h) r e ∙ ap (option_map (λ a. (n, a))) none

pub settled_here : (rules : List SetRule) (t : Nameless) (n : ℕ) (r : SetRule) (a : InstanceValue) → Some n ≡ first_settled 0 (set_rules rules) t → r ≡ get_or rules n r → fit (set_rule r) t ≡ Some a → first_in is_settled 0 (set_rules rules) t ≡ Some (n, a)
settled_here rules t n r a h e some = place_is rules t n (sym h) r e ∙ ap (option_map (λ a. (n, a))) some

pub ruleset finding = (settled_none, settled_not, settled_here)

-- ---- what is put at a side
pub put_nowhere : (r : SetRule) (i : ℕ) (places : BTreeMap Side ℕ) → is_settled (set_rule r) ≡ false → (q : Side) → get side_cmp places q ≡ cond (is_settled (set_rule r) && is_eq (alpha_cmp (set_rule r).rule.left (nameless [] q.term))) (Some i) (get side_cmp places q)
put_nowhere r i places some q = sym (ap (λ b. cond (b && is_eq (alpha_cmp (set_rule r).rule.left (nameless [] q.term))) (Some i) (get side_cmp places q)) some)

pub put_there :
    (r : SetRule) (i : ℕ) (side : Side) (old new : BTreeMap Side ℕ) → is_settled (set_rule r) ≡ true → nameless [] side.term ≡ (set_rule r).rule.left → Updates side_cmp old new side (Some i) → (q : Side) →
    get side_cmp new q ≡ cond (is_settled (set_rule r) && is_eq (alpha_cmp (set_rule r).rule.left (nameless [] q.term))) (Some i) (get side_cmp old q)
put_there r i side old new all is u q =
    u.0 q ∙ ap (λ n. cond (is_eq (alpha_cmp n (nameless [] q.term))) (Some i) (get side_cmp old q)) is
    ∙ sym (ap (λ b. cond (b && is_eq (alpha_cmp (set_rule r).rule.left (nameless [] q.term))) (Some i) (get side_cmp old q)) all)

pub ruleset putting = (put_nowhere, put_there)

-- ---- the loop over rules, from the last down
abbrev pub PlacesFrom : ℕ → List SetRule → BTreeMap Side ℕ → Type 0
PlacesFrom i rules places = (q : Side) → get side_cmp places q ≡ first_settled i (set_rules (drop i rules)) (nameless [] q.term)

pub no_places : (rules : List SetRule) (i : ℕ) (places : BTreeMap Side ℕ) → length rules ≤ i → IsEmpty places → PlacesFrom i rules places
no_places rules i places l e q =
    ap (lookup (λ k. is_eq (side_cmp q k))) e ∙ sym (ap (λ rs. first_settled i (set_rules rs) (nameless [] q.term)) (drop_all i rules l))

pub next_place :
    (rules : List SetRule) (n i : ℕ) (r : SetRule) (old new : BTreeMap Side ℕ) → n ≡ i + 1 → i < length rules → r ≡ get_or rules i r →
    ((q : Side) → get side_cmp new q ≡ cond (is_settled (set_rule r) && is_eq (alpha_cmp (set_rule r).rule.left (nameless [] q.term))) (Some i) (get side_cmp old q)) → PlacesFrom n rules old → PlacesFrom i rules new
next_place rules n i r old new before l e put those q =
    put q
    ∙ ap (cond (is_settled (set_rule r) && is_eq (alpha_cmp (set_rule r).rule.left (nameless [] q.term))) (Some i)) (those q ∙ ap (λ k. first_settled k (set_rules (drop k rules)) (nameless [] q.term)) before)
    ∙ sym (ap (λ rs. first_settled i (set_rules rs) (nameless [] q.term)) (next_of rules i r l e))

pub all_placed : (rules : List SetRule) (i : ℕ) (places : BTreeMap Side ℕ) → i ≤ 0 → PlacesFrom i rules places → ArePlaces rules places
all_placed rules i places l h = let none : i ≡ 0 = omega (arith, l) in whole rules (subst (λ k. PlacesFrom k rules places) none h)
  where
    whole : (rs : List SetRule) → PlacesFrom 0 rs places → ArePlaces rs places
    whole [] g = g
    whole (r ∷ rs) g = g

pub ruleset placing = (no_places, all_placed)
