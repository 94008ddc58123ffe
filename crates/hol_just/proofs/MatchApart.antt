-- That the variables of a pattern are apart, told of its variables: so the terms that stay may be listed in any order, and the variables of a part are apart too.
use Rattle.std.specs.Prelude.{◌≡◌, ℕ, Bool, true, false, cond, not, ◌||◌, ◌&&◌, bytes_eq, List, [], ◌∷◌, map, refl}
use Rattle.std.specs.List.{list_any, list_all, filter}
use Rattle.std.specs.FinSet as set
use Rattle.std.proofs.Common.{ap, sym, ◌∙◌, subst}
use Rattle.std.proofs.lemmas.Bool.{or_left, or_right, and_parts}
use Rattle.std.proofs.lemmas.Slice.Eq.{bytes_eq-Decides}
use Rattle.hol_types.specs.Tree.{TypeTree}
use Rattle.hol_types.specs.Equal.{type_eq, variable_eq}
use Rattle.hol_types.proofs.OrderLaws.{type_cmp_decides}
use Rattle.hol_terms.specs.Named.{Named}
use Rattle.hol_terms.specs.Nameless.{Nameless, nameless, free_occurrences}
use Rattle.hol_terms.specs.Scoped.{binds, add_all}
use Rattle.hol_terms.proofs.Same.{variable_eq_decides}
use Rattle.hol_subst.specs.Hypotheses.{Hyps, hyps_of}
use Rattle.hol_subst.specs.Variant.{is_free_in}
use Rattle.hol_subst.proofs.Closing.{eq_same}
use Rattle.hol_match.specs.Fixed.{fixed_variables}
use Rattle.hol_match.specs.Patterns.{has_one_type, is_apart}
use Rattle.hol_match.specs.Rules.{pattern_variables}
use Rattle.hol_just.proofs.MatchStays.{has_variable, variables_that_stay, variables_more, same_variables}

abbrev Variable : Type 0
Variable = List ℕ × TypeTree

-- ---- all variables of a list

all_if : (f : Variable → Bool) (vs : List Variable) → ((v : Variable) → binds vs v ≡ true → f v ≡ true) → list_all f vs ≡ true
all_if f [] h = refl
all_if f (v ∷ vs) h = λ i. h v (or_left (variable_eq v v) (binds vs v) (eq_same v)) i && all_if f vs (λ w e. h w (or_right (variable_eq v w) (binds vs w) e)) i

all_tells : (f : Variable → Bool) (vs : List Variable) → list_all f vs ≡ true → (v : Variable) → binds vs v ≡ true → f v ≡ true
all_tells f [] h v e = absurd (cc)
all_tells f (w ∷ vs) h v e = by (variable_eq w v) refl e (and_parts (f w) (list_all f vs) h) (λ k g. all_tells f vs k v g)
  where
    by :
        (b : Bool) → variable_eq w v ≡ b → (b || binds vs v) ≡ true → (f w ≡ true) × (list_all f vs ≡ true) → (list_all f vs ≡ true → binds vs v ≡ true → f v ≡ true) → f v ≡ true
    by true q g k later = ap f (sym ((variable_eq_decides w v).0 q)) ∙ k.0
    by false q g k later = later k.1 g

-- ---- those of them that are not among others

module _ (us : List Variable) where
  pub kept_there : (vs : List Variable) (v : Variable) → binds vs v ≡ true → binds us v ≡ false → binds (filter (λ w. not (binds us w)) vs) v ≡ true
  kept_there [] v h none = absurd (cc)
  kept_there (w ∷ vs) v h none = by (binds us w) (variable_eq w v) refl refl h (λ g. kept_there vs v g none)
    where
      by :
          (b c : Bool) → binds us w ≡ b → variable_eq w v ≡ c → (c || binds vs v) ≡ true → (binds vs v ≡ true → binds (filter (λ u. not (binds us u)) vs) v ≡ true) →
          binds (cond (not b) (w ∷ filter (λ u. not (binds us u)) vs) (filter (λ u. not (binds us u)) vs)) v ≡ true
      by true true p q g k = let same : binds us v ≡ true = ap (binds us) (sym ((variable_eq_decides w v).0 q)) ∙ p in absurd (cc)
      by true false p q g k = k g
      by false true p q g k = or_left (variable_eq w v) (binds (filter (λ u. not (binds us u)) vs) v) q
      by false false p q g k = or_right (variable_eq w v) (binds (filter (λ u. not (binds us u)) vs) v) (k g)

  pub kept_from : (vs : List Variable) (v : Variable) → binds (filter (λ w. not (binds us w)) vs) v ≡ true → (binds vs v ≡ true) × (binds us v ≡ false)
  kept_from [] v h = absurd (cc)
  kept_from (w ∷ vs) v h = by (binds us w) (variable_eq w v) refl refl h (kept_from vs v)
    where
      later : (binds (filter (λ u. not (binds us u)) vs) v ≡ true → (binds vs v ≡ true) × (binds us v ≡ false)) → binds (filter (λ u. not (binds us u)) vs) v ≡ true → (binds (w ∷ vs) v ≡ true) × (binds us v ≡ false)
      later k g = let rest = k g in (or_right (variable_eq w v) (binds vs v) rest.0, rest.1)

      by :
          (b c : Bool) → binds us w ≡ b → variable_eq w v ≡ c → binds (cond (not b) (w ∷ filter (λ u. not (binds us u)) vs) (filter (λ u. not (binds us u)) vs)) v ≡ true →
          (binds (filter (λ u. not (binds us u)) vs) v ≡ true → (binds vs v ≡ true) × (binds us v ≡ false)) → (binds (w ∷ vs) v ≡ true) × (binds us v ≡ false)
      by true c p q g k = later k g
      by false true p q g k = (or_left (variable_eq w v) (binds vs v) q, ap (binds us) (sym ((variable_eq_decides w v).0 q)) ∙ p)
      by false false p q g k = later k (sym (ap (λ d. d || binds (filter (λ u. not (binds us u)) vs) v) q) ∙ g)

-- ---- the variables of terms

any_free : (ns : List Nameless) (v : Variable) → list_any (has_variable v) ns ≡ is_free_in ns v
any_free [] v = refl
any_free (n ∷ ns) v = ap (λ b. binds (free_occurrences n) v || b) (any_free ns v)

pub fixed_free : (ns : List Nameless) (v : Variable) → binds (fixed_variables [] ns) v ≡ is_free_in ns v
fixed_free ns v = variables_that_stay ns v ∙ any_free ns v

-- the pattern variables are those that are free in it and in none of the terms
pub pattern_there : (terms : List Nameless) (p : Nameless) (v : Variable) → binds (free_occurrences p) v ≡ true → is_free_in terms v ≡ false → binds (pattern_variables (fixed_variables [] terms) p) v ≡ true
pattern_there terms p v h none =
    kept_there (fixed_variables [] terms) (add_all [] (free_occurrences p)) v (variables_more [] (free_occurrences p) v ∙ h) (fixed_free terms v ∙ none)

pub pattern_from : (terms : List Nameless) (p : Nameless) (v : Variable) → binds (pattern_variables (fixed_variables [] terms) p) v ≡ true → (binds (free_occurrences p) v ≡ true) × (is_free_in terms v ≡ false)
pattern_from terms p v h =
    let parts = kept_from (fixed_variables [] terms) (add_all [] (free_occurrences p)) v h in
    (sym (variables_more [] (free_occurrences p) v) ∙ parts.0, sym (fixed_free terms v) ∙ parts.1)

-- ---- variables that are apart

-- another variable of the name of a pattern variable is that one
abbrev pub AreApart : List Nameless → Nameless → Type 0
AreApart terms p =
    (v w : List ℕ × TypeTree) → binds (free_occurrences p) v ≡ true → is_free_in terms v ≡ false → is_free_in (p ∷ terms) w ≡ true → v.0 ≡ w.0 → v.1 ≡ w.1

module _ (terms : List Nameless) (p : Nameless) where
  pub apart_is : AreApart terms p → is_apart terms p ≡ true
  apart_is h =
      all_if (has_one_type (fixed_variables [] (p ∷ terms))) (pattern_variables (fixed_variables [] terms) p)
      (λ v e. all_if (λ w. not (bytes_eq v.0 w.0) || type_eq v.1 w.1) (fixed_variables [] (p ∷ terms)) (λ w g. one v w (pattern_from terms p v e) (sym (fixed_free (p ∷ terms) w) ∙ g)))
    where
      one : (v w : Variable) → (binds (free_occurrences p) v ≡ true) × (is_free_in terms v ≡ false) → is_free_in (p ∷ terms) w ≡ true → (not (bytes_eq v.0 w.0) || type_eq v.1 w.1) ≡ true
      one v w e g = by (bytes_eq v.0 w.0) refl
        where
          by : (b : Bool) → bytes_eq v.0 w.0 ≡ b → (not b || type_eq v.1 w.1) ≡ true
          by true q = (type_cmp_decides v.1 w.1).1 (h v w e.0 e.1 g ((bytes_eq-Decides v.0 w.0).0 q))
          by false q = refl

  pub apart_tells : is_apart terms p ≡ true → AreApart terms p
  apart_tells h v w mine none other same =
      let each = all_tells (has_one_type (fixed_variables [] (p ∷ terms))) (pattern_variables (fixed_variables [] terms) p) h v (pattern_there terms p v mine none) in
      let one : (not (bytes_eq v.0 w.0) || type_eq v.1 w.1) ≡ true =
      all_tells (λ u. not (bytes_eq v.0 u.0) || type_eq v.1 u.1) (fixed_variables [] (p ∷ terms)) each w (fixed_free (p ∷ terms) w ∙ other) in
      (type_cmp_decides v.1 w.1).0 (sym (ap (λ b. not b || type_eq v.1 w.1) ((bytes_eq-Decides v.0 w.0).1 same)) ∙ one)

-- the variables of a part
pub apart_part : (terms : List Nameless) (p q : Nameless) → ((v : Variable) → binds (free_occurrences q) v ≡ true → binds (free_occurrences p) v ≡ true) → is_apart terms p ≡ true → is_apart terms q ≡ true
apart_part terms p q within h = apart_is terms q (λ v w mine none other same. apart_tells terms p h v w (within v mine) none (more w (binds (free_occurrences q) w) refl other) same)
  where
    more : (w : Variable) (b : Bool) → binds (free_occurrences q) w ≡ b → (b || is_free_in terms w) ≡ true → (binds (free_occurrences p) w || is_free_in terms w) ≡ true
    more w true e g = or_left (binds (free_occurrences p) w) (is_free_in terms w) (within w e)
    more w false e g = or_right (binds (free_occurrences p) w) (is_free_in terms w) g

-- beside hypotheses, as the program lists them
module _ (hs : Hyps) (ps : List Named) (is : hyps_of ps ≡ hs) where
  pub free_listed : (v : Variable) → is_free_in (set.items hs) v ≡ is_free_in (map (nameless []) ps) v
  free_listed v = sym (fixed_free (set.items hs) v) ∙ same_variables hs ps is v ∙ fixed_free (map (nameless []) ps) v

  pub apart_listed : (p : Nameless) → is_apart (set.items hs) p ≡ true → is_apart (map (nameless []) ps) p ≡ true
  apart_listed p h =
      apart_is (map (nameless []) ps) p
      (λ v w mine none other same.
      apart_tells (set.items hs) p h v w mine (free_listed v ∙ none) (ap (λ b. binds (free_occurrences p) w || b) (free_listed w) ∙ other) same)
