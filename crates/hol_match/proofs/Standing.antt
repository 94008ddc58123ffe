-- What matching finds is what was found before and more, where each type and each term has what the types and terms of the one that is matched have: over a basis they stand.
use Rattle.std.proofs.Common.{◌≡◌, ℕ, ◌+◌, ◌-◌, List, [], ◌∷◌, ◌++◌, refl, sym, ap, ◌∙◌, subst, Bool, true, false, cond, ◌&&◌, nat_lt, bytes_eq, Option, Some, None}
use Rattle.std.proofs.lemmas.List.{append-nil, append_assoc}
use Rattle.std.specs.List.{AllByRecursion}
use Rattle.std.specs.Option.{option_map, option_and_then}
use Rattle.hol_types.specs.Tree.{TypeTree, TypeList, TyVar, TyApp, no_types, more_types}
use Rattle.hol_types.specs.Equal.{type_eq}
use Rattle.hol_types.specs.Match.{match_type, match_types, bound_name}
use Rattle.hol_types.specs.Subst.{type_lookup}
use Rattle.hol_terms.specs.Nameless.{Nameless, free, bound, fixed, app, lam, nameless_type}
use Rattle.hol_terms.specs.Alpha.{alpha_eq}
use Rattle.hol_subst.specs.Substitution.{term_lookup}
use Rattle.hol_kernel.specs.Items.{Items}
use Rattle.hol_kernel.specs.Signature.{has_arity, has_constant}
use Rattle.hol_kernel.specs.Typing.{types_count, is_type, are_types, is_base, is_known, are_types_for}
use Rattle.hol_kernel.proofs.Stands.{both}
use Rattle.hol_kernel.proofs.Variables.{typed_known}
use Rattle.hol_kernel.proofs.WellTyped.{own_type_stands}
use Rattle.hol_match.specs.Instance.{InstanceValue, instance_of, both as joint}
use Rattle.hol_match.specs.Lowering.{lowered}
use Rattle.hol_match.specs.Matching.{taken, with_type, variable_takes, variable_meets, constant_meets, matched}
use Rattle.hol_match.specs.RuleSets.{RuleEntry, beside, fit}
use Rattle.hol_match.specs.Standing.{TypesStand, Stands}
use Rattle.hol_match.proofs.RuleSets.{beside_both}

abbrev Pairs : Type 0
Pairs = List (TypeTree × List ℕ)

abbrev Terms : Type 0
Terms = List (Nameless × (List ℕ × TypeTree))

-- ---- what is found has what the parts of a type and of a term have

-- the parts of what has it have it, and so have the types of such terms
pub record IsOfParts (T : TypeTree → Type 0) (Ts : TypeList → Type 0) (N : Nameless → Type 0) : Type 0 where
  pub arguments : (c : List ℕ) (ts : TypeList) → T (TyApp c ts) → Ts ts
  pub each : (t : TypeTree) (ts : TypeList) → Ts (more_types t ts) → T t × Ts ts
  pub constant : (c : List ℕ) (t : TypeTree) → N (fixed c t) → T t
  pub application : (f x : Nameless) → N (app f x) → N f × N x
  pub abstraction : (a : List ℕ) (t : TypeTree) (b : Nameless) → N (lam a t b) → T t × N b
  pub typed : (u : Nameless) (s : TypeTree) → N u → nameless_type [] u ≡ Some s → T s
  pub taken_out : (k : ℕ) (t u : Nameless) → N t → lowered k 0 t ≡ Some u → N u

-- the instance is what was found before and more, each type and each term of which has it
abbrev pub AddsSuch : (TypeTree → Type 0) → (Nameless → Type 0) → InstanceValue → Option InstanceValue → Type 0
AddsSuch T N found None = Unit {0}
AddsSuch T N found (Some all) = (more : InstanceValue) × (all ≡ joint found more) × (AllByRecursion (λ p. T p.0) more.types × AllByRecursion (λ p. N p.0) more.terms)

module _ (T : TypeTree → Type 0) (Ts : TypeList → Type 0) (N : Nameless → Type 0) (parts : IsOfParts T Ts N) where
  abbrev AllTypes : Pairs → Type 0
  AllTypes ps = AllByRecursion (λ p. T p.0) ps

  abbrev AllTerms : Terms → Type 0
  AllTerms ps = AllByRecursion (λ p. N p.0) ps

  types_more : (xs ys : Pairs) → AllTypes xs → AllTypes ys → AllTypes (xs ++ ys)
  types_more [] ys h k = k
  types_more (x ∷ xs) ys h k = (h.0, types_more xs ys h.1 k)

  terms_more : (xs ys : Terms) → AllTerms xs → AllTerms ys → AllTerms (xs ++ ys)
  terms_more [] ys h k = k
  terms_more (x ∷ xs) ys h k = (h.0, terms_more xs ys h.1 k)

  abbrev AddsTypes : Pairs → Option Pairs → Type 0
  AddsTypes found None = Unit {0}
  AddsTypes found (Some all) = (more : Pairs) × (all ≡ found ++ more) × AllTypes more

  no_types_more : (found : Pairs) (b : Bool) → AddsTypes found (cond b (Some found) None)
  no_types_more found true = ([], sym (append-nil found), tt)
  no_types_more found false = tt

  types_then : (found : Pairs) (o : Option Pairs) (go : Pairs → Option Pairs) → AddsTypes found o → ((more : Pairs) → AddsTypes more (go more)) → AddsTypes found (option_and_then go o)
  types_then found None go h k = tt
  types_then found (Some all) go h k = by (go all) (k all)
    where
      by : (o : Option Pairs) → AddsTypes all o → AddsTypes found o
      by None g = tt
      by (Some last) g = (h.0 ++ g.0, g.1 ∙ ap (λ xs. xs ++ g.0) h.1 ∙ append_assoc found h.0 g.0, types_more h.0 g.0 h.2 g.2)

  name_adds : (o : Option TypeTree) (found : Pairs) (a : List ℕ) (t : TypeTree) → T t → AddsTypes found (bound_name o found a t)
  name_adds None found a t h = ((t, a) ∷ [], refl, (h, tt))
  name_adds (Some s) found a t h = no_types_more found (type_eq s t)

  mutual
    type_adds : (p : TypeTree) (found : Pairs) (t : TypeTree) → T t → AddsTypes found (match_type p found t)
    type_adds (TyVar a) found t h = name_adds (type_lookup found a) found a t h
    type_adds (TyApp c ts) found (TyVar b) h = tt
    type_adds (TyApp c ts) found (TyApp d us) h = by (bytes_eq c d) (types_add ts found us (parts.arguments d us h))
      where
        by : (b : Bool) → AddsTypes found (match_types ts found us) → AddsTypes found (cond b (match_types ts found us) None)
        by true k = k
        by false k = tt

    types_add : (ps : TypeList) (found : Pairs) (ts : TypeList) → Ts ts → AddsTypes found (match_types ps found ts)
    types_add no_types found no_types h = ([], sym (append-nil found), tt)
    types_add no_types found (more_types u us) h = tt
    types_add (more_types t ts) found no_types h = tt
    types_add (more_types t ts) found (more_types u us) h =
        let p = parts.each u us h in
        types_then found (match_type t found u) (λ more. match_types ts more us) (type_adds t found u p.0) (λ more. types_add ts more us p.1)

  -- ---- terms
  abbrev AddsBoth : InstanceValue → Option InstanceValue → Type 0
  AddsBoth found o = AddsSuch T N found o

  no_more : (found : InstanceValue) (b : Bool) → AddsBoth found (cond b (Some found) None)
  no_more found true = (instance_of [] [], (λ i. instance_of (sym (append-nil found.types) i) (sym (append-nil found.terms) i)), (tt, tt))
  no_more found false = tt

  then_more : (found : InstanceValue) (o : Option InstanceValue) (go : InstanceValue → Option InstanceValue) → AddsBoth found o → ((more : InstanceValue) → AddsBoth more (go more)) → AddsBoth found (option_and_then go o)
  then_more found None go h k = tt
  then_more found (Some all) go h k = by (go all) (k all)
    where
      by : (o : Option InstanceValue) → AddsBoth all o → AddsBoth found o
      by None g = tt
      by (Some last) g = (
        joint h.0 g.0,
        g.1 ∙ ap (λ x. joint x g.0) h.1 ∙ (λ i. instance_of (append_assoc found.types h.0.types g.0.types i) (append_assoc found.terms h.0.terms g.0.terms i)),
        (types_more h.0.types g.0.types h.2.0 g.2.0, terms_more h.0.terms g.0.terms h.2.1 g.2.1),
      )

  with_adds : (s t : TypeTree) (found : InstanceValue) → T t → AddsBoth found (with_type s found t)
  with_adds s t found h = by (match_type s found.types t) (type_adds s found.types t h)
    where
      by : (o : Option Pairs) → AddsTypes found.types o → AddsBoth found (option_map (λ types. instance_of types found.terms) o)
      by None g = tt
      by (Some all) g = (instance_of g.0 [], (λ i. instance_of (g.1 i) (sym (append-nil found.terms) i)), (g.2, tt))

  taken_adds : (v : List ℕ × TypeTree) (u : Nameless) (found : InstanceValue) (o : Option Nameless) → N u → AddsBoth found (taken o found v u)
  taken_adds v u found None h = (instance_of [] ((u, v) ∷ []), (λ i. instance_of (sym (append-nil found.types) i) (found.terms ++ (u, v) ∷ [])), (tt, (h, tt)))
  taken_adds v u found (Some s) h = no_more found (alpha_eq s u)

  meets_adds : (v : List ℕ × TypeTree) (u : Nameless) (found : InstanceValue) → N u → AddsBoth found (variable_meets v found u)
  meets_adds v u found h = by (nameless_type [] u) refl
    where
      by : (o : Option TypeTree) → nameless_type [] u ≡ o → AddsBoth found (option_and_then (λ s. variable_takes v found u s) o)
      by None e = tt
      by (Some s) e =
          then_more found (with_type v.1 found s) (λ more. taken (term_lookup more.terms (v.0, s)) more (v.0, s) u) (with_adds v.1 s found (parts.typed u s h e))
          (λ more. taken_adds (v.0, s) u more (term_lookup more.terms (v.0, s)) h)

  variable_adds : (v : List ℕ × TypeTree) (found : InstanceValue) (o : Option Nameless) → ((u : Nameless) → o ≡ Some u → N u) → AddsBoth found (option_and_then (λ u. variable_meets v found u) o)
  variable_adds v found None h = tt
  variable_adds v found (Some u) h = meets_adds v u found (h u refl)

  constant_adds : (c : List ℕ) (s : TypeTree) (found : InstanceValue) (t : Nameless) → N t → AddsBoth found (constant_meets c s found t)
  constant_adds c s found (free v) h = tt
  constant_adds c s found (bound i) h = tt
  constant_adds c s found (fixed d t) h = by (bytes_eq c d) (with_adds s t found (parts.constant d t h))
    where
      by : (b : Bool) → AddsBoth found (with_type s found t) → AddsBoth found (cond b (with_type s found t) None)
      by true k = k
      by false k = tt
  constant_adds c s found (app f x) h = tt
  constant_adds c s found (lam a t b) h = tt

  pub matched_such : (k : ℕ) (p : Nameless) (found : InstanceValue) (t : Nameless) → N t → AddsSuch T N found (matched k p found t)
  matched_such k (free v) found t h = variable_adds v found (lowered k 0 t) (λ u e. parts.taken_out k t u h e)
  matched_such k (bound i) found t h = no_more found (alpha_eq (bound i) t)
  matched_such k (fixed c s) found t h = constant_adds c s found t h
  matched_such k (app p q) found (app f x) h =
      let own = parts.application f x h in
      then_more found (matched k p found f) (λ more. matched k q more x) (matched_such k p found f own.0) (λ more. matched_such k q more x own.1)
  matched_such k (app p q) found (free v) h = tt
  matched_such k (app p q) found (bound i) h = tt
  matched_such k (app p q) found (fixed c s) h = tt
  matched_such k (app p q) found (lam a s b) h = tt
  matched_such k (lam a s p) found (lam c t b) h =
      let own = parts.abstraction c t b h in
      then_more found (with_type s found t) (λ more. matched (k + 1) p more b) (with_adds s t found own.0) (λ more. matched_such (k + 1) p more b own.1)
  matched_such k (lam a s p) found (free v) h = tt
  matched_such k (lam a s p) found (bound i) h = tt
  matched_such k (lam a s p) found (fixed c t) h = tt
  matched_such k (lam a s p) found (app f x) h = tt

-- ---- of any term

abbrev pub AddsTo : InstanceValue → Option InstanceValue → Type 0
AddsTo found o = AddsSuch (λ t. Unit {0}) (λ n. Unit {0}) found o

pub matched_adds : (k : ℕ) (p : Nameless) (found : InstanceValue) (t : Nameless) → AddsTo found (matched k p found t)
matched_adds k p found t =
    matched_such (λ t. Unit {0}) (λ ts. Unit {0}) (λ n. Unit {0})
    (record {
      arguments = λ c ts h. tt;
      each = λ t ts h. (tt, tt);
      constant = λ c t h. tt;
      application = λ f x h. (tt, tt);
      abstraction = λ a t b h. (tt, tt);
      typed = λ u s h e. tt;
      taken_out = λ k t u h e. tt;
    })
    k p found t tt

-- ---- over a basis

module _ (basis : Items) where
  -- a term that is taken out from under binders
  pub lowered_known : (n k : ℕ) (t u : Nameless) → is_known basis t ≡ true → lowered n k t ≡ Some u → is_known basis u ≡ true
  lowered_known n k (free v) u h e = let same : free v ≡ u = cc in subst (λ z. is_known basis z ≡ true) same h
  lowered_known n k (bound i) u h e = by (nat_lt i k) (nat_lt i (k + n)) e
    where
      by : (a b : Bool) → cond a (Some (bound i)) (cond b None (Some (bound (i - n)))) ≡ Some u → is_known basis u ≡ true
      by true b f = let same : bound i ≡ u = cc in subst (λ z. is_known basis z ≡ true) same refl
      by false true f = absurd (cc)
      by false false f = let same : bound (i - n) ≡ u = cc in subst (λ z. is_known basis z ≡ true) same refl
  lowered_known n k (fixed c s) u h e = let same : fixed c s ≡ u = cc in subst (λ z. is_known basis z ≡ true) same h
  lowered_known n k (app f x) u h e =
      let parts = both (is_known basis f) (is_known basis x) h in
      by (lowered n k f) (lowered n k x) (λ d a. lowered_known n k f d parts.0 a) (λ y b. lowered_known n k x y parts.1 b) e
    where
      by : (o p : Option Nameless) → ((d : Nameless) → o ≡ Some d → is_known basis d ≡ true) → ((y : Nameless) → p ≡ Some y → is_known basis y ≡ true) → option_and_then (λ g. option_map (λ y. app g y) p) o ≡ Some u → is_known basis u ≡ true
      by None p r s g = absurd (cc)
      by (Some d) None r s g = absurd (cc)
      by (Some d) (Some y) r s g = let same : app d y ≡ u = cc in subst (λ z. is_known basis z ≡ true) same (λ i. r d refl i && s y refl i)
  lowered_known n k (lam a s b) u h e =
      let first = both (is_base a) (is_type basis s && is_known basis b) h in
      let rest = both (is_type basis s) (is_known basis b) first.1 in
      by (lowered n (k + 1) b) (λ d q. lowered_known n (k + 1) b d rest.1 q) first.0 rest.0 e
    where
      by : (o : Option Nameless) → ((d : Nameless) → o ≡ Some d → is_known basis d ≡ true) → is_base a ≡ true → is_type basis s ≡ true → option_map (λ d. lam a s d) o ≡ Some u → is_known basis u ≡ true
      by None r p q g = absurd (cc)
      by (Some d) r p q g = let same : lam a s d ≡ u = cc in subst (λ z. is_known basis z ≡ true) same (λ i. p i && (q i && r d refl i))

  abbrev pub Adds : InstanceValue → Option InstanceValue → Type 0
  Adds found o = AddsSuch (λ t. is_type basis t ≡ true) (λ n. is_known basis n ≡ true) found o

  parts_stand : IsOfParts (λ t. is_type basis t ≡ true) (λ ts. are_types basis ts ≡ true) (λ n. is_known basis n ≡ true)
  parts_stand = record {
    arguments = λ c ts h. (both (has_arity basis c (types_count ts)) (are_types basis ts) h).1;
    each = λ t ts h. both (is_type basis t) (are_types basis ts) h;
    constant = λ c t h. (both (is_type basis t) (has_constant basis c t) h).0;
    application = λ f x h. both (is_known basis f) (is_known basis x) h;
    abstraction = λ a t b h. both (is_type basis t) (is_known basis b) (both (is_base a) (is_type basis t && is_known basis b) h).1;
    typed = λ u s h e. own_type_stands basis u s (typed_known basis u s h e);
    taken_out = λ k t u h e. lowered_known k 0 t u h e;
  }

  pub matched_stands : (k : ℕ) (p : Nameless) (found : InstanceValue) (t : Nameless) → is_known basis t ≡ true → Adds found (matched k p found t)
  matched_stands k p found t h = matched_such (λ t. is_type basis t ≡ true) (λ ts. are_types basis ts ≡ true) (λ n. is_known basis n ≡ true) parts_stand k p found t h

  -- so what is found beside what was found before stands
  pub found_stands : (k : ℕ) (p : Nameless) (found : InstanceValue) (t : Nameless) (a : InstanceValue) → is_known basis t ≡ true → matched k p found t ≡ Some (joint found a) → Stands basis a
  found_stands k p found t a h e =
      let g = subst (Adds found) e (matched_stands k p found t h) in
      let same : a ≡ g.0 = sym (beside_both found a) ∙ ap (beside found) g.1 ∙ beside_both found g.0 in
      subst (Stands basis) (sym same) g.2

  pub fit_stands : (e : RuleEntry) (t : Nameless) (a : InstanceValue) → is_known basis t ≡ true → fit e t ≡ Some a → Stands basis a
  fit_stands e t a known h = by (matched 0 e.rule.left e.stays t) (matched_stands 0 e.rule.left e.stays t known) h
    where
      by : (o : Option InstanceValue) → Adds e.stays o → option_map (beside e.stays) o ≡ Some a → Stands basis a
      by None k g = absurd (cc)
      by (Some all) k g =
          let rest : beside e.stays all ≡ a = cc in
          let same : a ≡ k.0 = sym rest ∙ ap (beside e.stays) k.1 ∙ beside_both e.stays k.0 in
          subst (Stands basis) (sym same) k.2

  pub types_all : (ps : Pairs) → TypesStand basis ps → are_types_for basis ps ≡ true
  types_all [] h = refl
  types_all (p ∷ ps) h = λ i. h.0 i && types_all ps h.1 i
