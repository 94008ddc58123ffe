-- The type variables of a term: its type has no others, and a closed term's value depends on those alone.
use Rattle.std.proofs.Common.{◌≡◌, ℕ, zero, suc, ◌<◌, ◌⊎◌, inl, inr, List, [], ◌∷◌, ◌++◌, map, length, refl, ap, sym, ◌∙◌, subst, Bool, true, false, ◌||◌, Some, slice_get, bytes_eq, arith}
use Rattle.std.specs.Prelude.{Contains, slice_index_or}
use Rattle.std.specs.Option.{option_map}
use mathlib.Core.Bool.{true≢false}
use Rattle.std.proofs.lemmas.Bool.{or_cases, or_right}
use Rattle.std.proofs.lemmas.Slice.Eq.{bytes_eq-Decides}
use Rattle.hol_types.specs.Tree.{TypeTree, TyVar, TyApp, type_list}
use Rattle.hol_types.specs.Names.{type_names, types_names, tyvars, insert_names, is_among}
use Rattle.hol_types.specs.Fun.{fun_type}
use Rattle.hol_types.proofs.Names.{tyvars_among}
use Rattle.hol_terms.specs.Nameless.{Nameless, free, bound, fixed, app, lam, nameless_type, free_occurrences}
use Rattle.hol_subst.specs.TermTyvars.{type_names_in, term_tyvars}
use Rattle.hol_subst.proofs.Typing.{mapped_part}
use Rattle.hol_kernel.specs.Legal.{IsClosed}
use Rattle.hol_kernel.proofs.Stands.{app_parts, some_is}
use Rattle.hol_model.proofs.Interpretations.{Assignment, Interpretation, Valuation, eval}
use Rattle.hol_model.proofs.Types.{among_append, among_left, among_right, have_same}
use Rattle.hol_model.proofs.Evaluation.{TermAgrees, eval_same}
use Rattle.hol_model.proofs.Universes.{Universe}

module _ (U : Universe) where
  -- ---- lists of names

  contains_among : (names : List (List ℕ)) (a : List ℕ) → is_among names a ≡ true → Contains names a
  contains_among [] a e = absurd (true≢false (sym e))
  contains_among (b ∷ names) a e = by (bytes_eq a b) refl e (contains_among names a)
    where
      by : (t : Bool) → bytes_eq a b ≡ t → (t || is_among names a) ≡ true → (is_among names a ≡ true → Contains names a) → Contains (b ∷ names) a
      by true p e more = (0, omega arith, sym ((bytes_eq-Decides a b).0 p))
      by false p e more = let h = more e in (suc h.0, omega (arith, h.1), h.2)

  among_contains : (names : List (List ℕ)) (a : List ℕ) → Contains names a → is_among names a ≡ true
  among_contains [] a h = absurd (omega (arith, h.1))
  among_contains (b ∷ names) a h = at h.0 h.1 h.2 (among_contains names a)
    where
      at : (k : ℕ) → k < length (b ∷ names) → slice_index_or (b ∷ names) k a ≡ a → (Contains names a → is_among names a ≡ true) → is_among (b ∷ names) a ≡ true
      at zero below is more = ap (λ t. t || is_among names a) ((bytes_eq-Decides a b).1 (sym is))
      at (suc k) below is more = ap (λ t. bytes_eq a b || t) (more (k, omega (arith, below), is)) ∙ or_right (bytes_eq a b) true refl

  -- the names of variables for these names
  pub variables_named : (names : List (List ℕ)) → types_names (type_list (map TyVar names)) ≡ names
  variables_named [] = refl
  variables_named (a ∷ names) = ap (λ more. a ∷ more) (variables_named names)

  -- a name is one of a term's type variables where a type of the term has it
  pub term_tyvars_among : (t : Nameless) (a : List ℕ) → is_among (term_tyvars t) a ≡ is_among (type_names_in t) a
  term_tyvars_among t a =
      subst (λ (names : List (List ℕ)). is_among (insert_names [] names) a ≡ is_among names a) (variables_named (type_names_in t))
      (tyvars_among (TyApp [] (type_list (map TyVar (type_names_in t)))) a)

  -- what a definition asks of the type variables of its right side
  pub reflected_among :
      (r : Nameless) (t : TypeTree) → ((a : List ℕ) → Contains (term_tyvars r) a → Contains (tyvars t) a) → (a : List ℕ) → is_among (type_names_in r) a ≡ true → is_among (type_names t) a ≡ true
  reflected_among r t reflected a h =
      sym (tyvars_among t a) ∙ among_contains (tyvars t) a (reflected a (contains_among (term_tyvars r) a (term_tyvars_among r a ∙ h)))

  -- ---- a term's type has the type variables of the term

  abbrev env_names : List TypeTree → List (List ℕ)
  env_names [] = []
  env_names (t ∷ ts) = type_names t ++ env_names ts

  env_within : (env : List TypeTree) (i : ℕ) (t : TypeTree) → slice_get env i ≡ Some t → (a : List ℕ) → is_among (type_names t) a ≡ true → is_among (env_names env) a ≡ true
  env_within [] i t e a h = absurd (cc)
  env_within (s ∷ env) zero t e a h = among_left U (type_names s) (env_names env) a (subst (λ (u : TypeTree). is_among (type_names u) a ≡ true) (sym (some_is s t e)) h)
  env_within (s ∷ env) (suc i) t e a h = among_right U (type_names s) (env_names env) a (env_within env i t e a h)

  -- where a type of functions has a name, its domain or its range has it
  fun_names : (s t : TypeTree) (a : List ℕ) → is_among (type_names (fun_type s t)) a ≡ true → (is_among (type_names s) a ≡ true) ⊎ (is_among (type_names t) a ≡ true)
  fun_names s t a h =
      elim (or_cases (is_among (type_names s) a) (is_among (type_names t ++ []) a) (sym (among_append U (type_names s) (type_names t ++ []) a) ∙ h)) [
        | inl i ↦ inl i
        | inr i ↦ elim (or_cases (is_among (type_names t) a) false (sym (among_append U (type_names t) [] a) ∙ i)) [ inl j ↦ inr j | inr j ↦ absurd (true≢false (sym j)) ]
      ]

  type_under : (env : List TypeTree) (n : Nameless) (t : TypeTree) → nameless_type env n ≡ Some t → (a : List ℕ) → is_among (type_names t) a ≡ true → (is_among (type_names_in n) a ≡ true) ⊎ (is_among (env_names env) a ≡ true)
  type_under env (free v) t e a h = inl (tyvars_among v.1 a ∙ subst (λ (u : TypeTree). is_among (type_names u) a ≡ true) (sym (some_is v.1 t e)) h)
  type_under env (bound i) t e a h = inr (env_within env i t e a h)
  type_under env (fixed c s) t e a h = inl (tyvars_among s a ∙ subst (λ (u : TypeTree). is_among (type_names u) a ≡ true) (sym (some_is s t e)) h)
  type_under env (app f x) t e a h =
      let p = app_parts env f x t e in
      let there : is_among (type_names (fun_type p.0 t)) a ≡ true = among_right U (type_names p.0) (type_names t ++ []) a (among_left U (type_names t) [] a h) in
      elim (type_under env f (fun_type p.0 t) p.1 a there) [ inl i ↦ inl (among_left U (type_names_in f) (type_names_in x) a i) | inr j ↦ inr j ]
  type_under env (lam b s n) t e a h =
      let q = mapped_part (λ u. fun_type s u) (nameless_type (s ∷ env) n) t e in
      let is : fun_type s q.0 ≡ t = some_is (fun_type s q.0) t (sym (ap (option_map (λ u. fun_type s u)) q.1) ∙ e) in
      let in_domain : is_among (type_names s) a ≡ true → is_among (tyvars s ++ type_names_in n) a ≡ true = λ i. among_left U (tyvars s) (type_names_in n) a (tyvars_among s a ∙ i) in
      elim (fun_names s q.0 a (subst (λ (u : TypeTree). is_among (type_names u) a ≡ true) (sym is) h)) [
        | inl i ↦ inl (in_domain i)
        | inr i ↦ elim (type_under (s ∷ env) n q.0 q.1 a i) [
          | inl j ↦ inl (among_right U (tyvars s) (type_names_in n) a j)
          | inr j ↦ elim (or_cases (is_among (type_names s) a) (is_among (env_names env) a) (sym (among_append U (type_names s) (env_names env) a) ∙ j)) [
            | inl k ↦ inl (in_domain k)
            | inr k ↦ inr k
          ]
        ]
      ]

  pub type_within : (n : Nameless) (t : TypeTree) → nameless_type [] n ≡ Some t → (a : List ℕ) → is_among (type_names t) a ≡ true → is_among (type_names_in n) a ≡ true
  type_within n t e a h = elim (type_under [] n t e a h) [ inl i ↦ i | inr j ↦ absurd (true≢false (sym j)) ]

  -- ---- values of closed terms

  none_left : (xs ys : List (List ℕ × TypeTree)) → xs ++ ys ≡ [] → (xs ≡ []) × (ys ≡ [])
  none_left [] ys e = (refl, e)
  none_left (x ∷ xs) ys e = absurd (cc)

  module _ (m : Interpretation U) (d e : Assignment U) (f g : Valuation U) where
    closed_same : (t : Nameless) → IsClosed t → ((a : List ℕ) → is_among (type_names_in t) a ≡ true → d a ≡ e a) → TermAgrees U m m d e f g t
    closed_same (free v) closed h = absurd (cc)
    closed_same (bound i) closed h = tt
    closed_same (fixed c s) closed h = (refl, λ b. refl, have_same U m.constructors d e s (λ a i. h a (tyvars_among s a ∙ i)))
    closed_same (app t x) closed h =
        let p = none_left (free_occurrences t) (free_occurrences x) closed in
        (closed_same t p.0 (λ a i. h a (among_left U (type_names_in t) (type_names_in x) a i)), closed_same x p.1 (λ a i. h a (among_right U (type_names_in t) (type_names_in x) a i)))
    closed_same (lam b s n) closed h =
        (have_same U m.constructors d e s (λ a i. h a (among_left U (tyvars s) (type_names_in n) a (tyvars_among s a ∙ i))), closed_same n closed (λ a i. h a (among_right U (tyvars s) (type_names_in n) a i)))

    pub closed_value : (t : Nameless) → IsClosed t → ((a : List ℕ) → is_among (type_names_in t) a ≡ true → d a ≡ e a) → eval U m d f [] t ≡ eval U m e g [] t
    closed_value t closed h = eval_same U m m d e f g [] t (closed_same t closed h)
