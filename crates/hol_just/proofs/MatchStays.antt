-- What a match leaves as it is by some terms: the variables of any of them, in whatever order they are listed. So a theorem's hypotheses may be listed as the program
-- lists them.
use Rattle.std.specs.Prelude.{◌≡◌, ℕ, Bool, true, false, cond, ◌||◌, bytes_eq, List, [], ◌∷◌, ◌++◌, map, Some, None, refl}
use Rattle.std.specs.List.{list_any}
use Rattle.std.specs.FinSet as set
use Rattle.std.proofs.Common.{ap, sym, ◌∙◌}
use Rattle.std.proofs.Math.Bool.{or-false, or_assoc}
use Rattle.std.proofs.lemmas.Slice.Eq.{bytes_eq-Decides}
use Rattle.hol_match.proofs.Keeping.{ordered_has}
use Rattle.hol_match.proofs.OrderedHyps.{strip_names}
use Rattle.hol_subst.proofs.Strip.{strip_free}
use Rattle.hol_types.specs.Tree.{TypeTree, TyVar}
use Rattle.hol_types.specs.Equal.{variable_eq}
use Rattle.hol_types.specs.Names.{is_among}
use Rattle.hol_types.proofs.Filters.{among_append}
use Rattle.hol_terms.specs.Named.{Named}
use Rattle.hol_terms.specs.Nameless.{Nameless, free, nameless, free_occurrences}
use Rattle.hol_terms.specs.Scoped.{binds, add_new, add_all}
use Rattle.hol_terms.proofs.Same.{variable_eq_decides}
use Rattle.hol_terms.proofs.Occurs.{binds_append}
use Rattle.hol_subst.specs.TermTyvars.{type_names_in, term_tyvars}
use Rattle.hol_subst.specs.Hypotheses.{Hyps, hyp_of, hyps_of}
use Rattle.hol_subst.proofs.HypothesisLists.{hyps_total, hyps_same}
use Rattle.hol_subst.proofs.SortedSets.{any_of_set}
use Rattle.hol_match.specs.Fixed.{add_name, add_names, fixed_names, fixed_variables, stays_of}
use Rattle.hol_match.proofs.Lookups.{own_type, own_term}
use Rattle.hol_just.proofs.MatchAlike.{Alike}

-- what is true is so with anything more
or_there : (a d : Bool) → (d ≡ true → a ≡ true) → a ≡ (a || d)
or_there true d h = refl
or_there false true h = h refl
or_there false false h = refl

-- ---- names

name_more : (names : List (List ℕ)) (b x : List ℕ) → is_among (add_name names b) x ≡ (is_among names x || bytes_eq x b)
name_more names b x = by (is_among names b) refl
  where
    by : (c : Bool) → is_among names b ≡ c → is_among (cond c names (names ++ b ∷ [])) x ≡ (is_among names x || bytes_eq x b)
    by true q = or_there (is_among names x) (bytes_eq x b) (λ e. ap (is_among names) ((bytes_eq-Decides x b).0 e) ∙ q)
    by false q = among_append names (b ∷ []) x ∙ ap (λ c. is_among names x || c) (or-false (bytes_eq x b))

names_more : (names more : List (List ℕ)) (x : List ℕ) → is_among (add_names names more) x ≡ (is_among names x || is_among more x)
names_more names [] x = sym (or-false (is_among names x))
names_more names (b ∷ more) x = names_more (add_name names b) more x ∙ ap (λ c. c || is_among more x) (name_more names b x) ∙ or_assoc (is_among names x) (bytes_eq x b) (is_among more x)

-- the name is that of a type variable of the term
abbrev has_type_name : List ℕ → Nameless → Bool
has_type_name x n = is_among (type_names_in n) x

all_names : (names : List (List ℕ)) (ns : List Nameless) (x : List ℕ) → is_among (fixed_names names ns) x ≡ (is_among names x || list_any (has_type_name x) ns)
all_names names [] x = sym (or-false (is_among names x))
all_names names (n ∷ ns) x =
    all_names (add_names names (term_tyvars n)) ns x
    ∙ ap (λ c. c || list_any (has_type_name x) ns) (names_more names (term_tyvars n) x ∙ ap (λ c. is_among names x || c) (ordered_has (type_names_in n) x))
    ∙ or_assoc (is_among names x) (has_type_name x n) (list_any (has_type_name x) ns)

-- a type variable stays where one of the terms has it
names_that_stay : (ns : List Nameless) (x : List ℕ) → is_among (fixed_names [] ns) x ≡ list_any (has_type_name x) ns
names_that_stay ns x = all_names [] ns x

-- ---- variables

variable_more : (vs : List (List ℕ × TypeTree)) (w v : List ℕ × TypeTree) → binds (add_new vs w) v ≡ (binds vs v || variable_eq w v)
variable_more vs w v = by (binds vs w) refl
  where
    by : (c : Bool) → binds vs w ≡ c → binds (cond c vs (vs ++ w ∷ [])) v ≡ (binds vs v || variable_eq w v)
    by true q = or_there (binds vs v) (variable_eq w v) (λ e. ap (binds vs) (sym ((variable_eq_decides w v).0 e)) ∙ q)
    by false q = binds_append vs (w ∷ []) v ∙ ap (λ c. binds vs v || c) (or-false (variable_eq w v))

pub variables_more : (vs ws : List (List ℕ × TypeTree)) (v : List ℕ × TypeTree) → binds (add_all vs ws) v ≡ (binds vs v || binds ws v)
variables_more vs [] v = sym (or-false (binds vs v))
variables_more vs (w ∷ ws) v = variables_more (add_new vs w) ws v ∙ ap (λ c. c || binds ws v) (variable_more vs w v) ∙ or_assoc (binds vs v) (variable_eq w v) (binds ws v)

-- the variable is free in the term
abbrev pub has_variable : List ℕ × TypeTree → Nameless → Bool
has_variable v n = binds (free_occurrences n) v

all_variables : (vs : List (List ℕ × TypeTree)) (ns : List Nameless) (v : List ℕ × TypeTree) → binds (fixed_variables vs ns) v ≡ (binds vs v || list_any (has_variable v) ns)
all_variables vs [] v = sym (or-false (binds vs v))
all_variables vs (n ∷ ns) v =
    all_variables (add_all vs (add_all [] (free_occurrences n))) ns v
    ∙ ap (λ c. c || list_any (has_variable v) ns) (variables_more vs (add_all [] (free_occurrences n)) v ∙ ap (λ c. binds vs v || c) (variables_more [] (free_occurrences n) v))
    ∙ or_assoc (binds vs v) (has_variable v n) (list_any (has_variable v) ns)

-- a variable stays where it is free in one of the terms
pub variables_that_stay : (ns : List Nameless) (v : List ℕ × TypeTree) → binds (fixed_variables [] ns) v ≡ list_any (has_variable v) ns
variables_that_stay ns v = all_variables [] ns v

-- ---- of hypotheses

name_keys : (ps : List Named) (x : List ℕ) → list_any (has_type_name x) (map hyp_of ps) ≡ list_any (has_type_name x) (map (nameless []) ps)
name_keys [] x = refl
name_keys (p ∷ ps) x = λ i. is_among (strip_names (nameless [] p) i) x || name_keys ps x i

variable_keys : (ps : List Named) (v : List ℕ × TypeTree) → list_any (has_variable v) (map hyp_of ps) ≡ list_any (has_variable v) (map (nameless []) ps)
variable_keys [] v = refl
variable_keys (p ∷ ps) v = λ i. binds (strip_free (nameless [] p) i) v || variable_keys ps v i

module _ (hs : Hyps) (ps : List Named) (is : hyps_of ps ≡ hs) where
  pub same_names : (x : List ℕ) → is_among (fixed_names [] (set.items hs)) x ≡ is_among (fixed_names [] (map (nameless []) ps)) x
  same_names x =
      ap (λ (s : Hyps). is_among (fixed_names [] (set.items s)) x) (sym is) ∙ names_that_stay (set.items (hyps_of ps)) x
      ∙ any_of_set hyps_total hyps_same (has_type_name x) (map hyp_of ps) ∙ name_keys ps x ∙ sym (names_that_stay (map (nameless []) ps) x)

  pub same_variables : (v : List ℕ × TypeTree) → binds (fixed_variables [] (set.items hs)) v ≡ binds (fixed_variables [] (map (nameless []) ps)) v
  same_variables v =
      ap (λ (s : Hyps). binds (fixed_variables [] (set.items s)) v) (sym is) ∙ variables_that_stay (set.items (hyps_of ps)) v
      ∙ any_of_set hyps_total hyps_same (has_variable v) (map hyp_of ps) ∙ variable_keys ps v ∙ sym (variables_that_stay (map (nameless []) ps) v)

  -- matching can't tell the lists from one another
  pub stays_alike : Alike (stays_of (set.items hs)) (stays_of (map (nameless []) ps))
  stays_alike = (
    λ x. own_type (fixed_names [] (set.items hs)) x ∙ ap (λ c. cond c (Some (TyVar x)) None) (same_names x) ∙ sym (own_type (fixed_names [] (map (nameless []) ps)) x),
    λ v. own_term (fixed_variables [] (set.items hs)) v ∙ ap (λ c. cond c (Some (free v)) None) (same_variables v) ∙ sym (own_term (fixed_variables [] (map (nameless []) ps)) v),
  )
