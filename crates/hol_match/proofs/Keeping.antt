-- What the hypotheses of a theorem have stays in its rules.
use Rattle.std.proofs.Common.{◌≡◌, ℕ, List, [], ◌∷◌, ◌++◌, map, refl, sym, ap, ◌∙◌, subst, Bool, true, false, cond, ◌||◌, bytes_eq}
use Rattle.std.specs.List.{AllByRecursion, list_any}
use Rattle.std.specs.FinSet as set
use Rattle.std.proofs.lemmas.Bool.{false≢true, or_left, or_right}
use Rattle.std.proofs.lemmas.Slice.Eq.{bytes_eq-Decides}
use Rattle.hol_types.specs.Tree.{TypeTree, TyVar, TyApp, TypeList, no_types, more_types}
use Rattle.hol_types.specs.Names.{is_among, type_names, types_names, insert_names, tyvars}
use Rattle.hol_types.proofs.Names.{tyvars_among}
use Rattle.hol_types.proofs.Filters.{among_append}
use Rattle.hol_terms.specs.Named.{Named}
use Rattle.hol_terms.specs.Nameless.{Nameless, free, bound, fixed, app, lam, nameless, free_occurrences}
use Rattle.hol_terms.specs.Alpha.{strip}
use Rattle.hol_terms.specs.Scoped.{binds, add_all}
use Rattle.hol_terms.proofs.Occurs.{binds_append}
use Rattle.hol_subst.specs.Hypotheses.{Hyps, hyp_of, hyps_of}
use Rattle.hol_subst.specs.TermTyvars.{type_names_in, term_tyvars}
use Rattle.hol_subst.specs.Variant.{is_free_in}
use Rattle.hol_subst.proofs.HypothesisLists.{hyps_total, hyps_same, free_in_hyps}
use Rattle.hol_subst.proofs.InstSteps.{all_there}
use Rattle.hol_subst.proofs.SortedSets.{any_of_set}
use Rattle.hol_kernel.specs.Given.{given_sequent}
use Rattle.hol_match.specs.Fixed.{AreFixed, add_name, add_names, fixed_names, fixed_variables}
use Rattle.hol_match.specs.declared.fixed.Fixed.{Fixed}
use Rattle.hol_match.specs.declared.source.Source.{Source}
use Rattle.hol_match.specs.Opening.{has_type_var, has_type_var_in}
use Rattle.hol_match.specs.Rules.{generalized}
use Rattle.hol_match.specs.Ways.{RuleWay, IsOnWay}
use Rattle.hol_match.specs.Sources.{IsFrom}

-- ---- type variables
abbrev vars : List (List ℕ) → TypeList
vars [] = no_types
vars (a ∷ names) = more_types (TyVar a) (vars names)

vars_names : (names : List (List ℕ)) → types_names (vars names) ≡ names
vars_names [] = refl
vars_names (a ∷ names) = ap (λ xs. a ∷ xs) (vars_names names)

-- each of the names is there once they are put in order
pub ordered_has : (names : List (List ℕ)) (a : List ℕ) → is_among (insert_names [] names) a ≡ is_among names a
ordered_has names a = ap (λ xs. is_among (insert_names [] xs) a) (sym (vars_names names)) ∙ tyvars_among (TyApp [] (vars names)) a ∙ ap (λ xs. is_among xs a) (vars_names names)

term_names : (a : List ℕ) (n : Nameless) → is_among (type_names_in n) a ≡ has_type_var a n
term_names a (free v) = tyvars_among v.1 a
term_names a (bound i) = refl
term_names a (fixed c s) = tyvars_among s a
term_names a (app f x) = among_append (type_names_in f) (type_names_in x) a ∙ (λ i. term_names a f i || term_names a x i)
term_names a (lam b s n) = among_append (tyvars s) (type_names_in n) a ∙ (λ i. tyvars_among s a i || term_names a n i)

pub term_has : (a : List ℕ) (n : Nameless) → is_among (term_tyvars n) a ≡ has_type_var a n
term_has a n = ordered_has (type_names_in n) a ∙ term_names a n

pub stripped : (a : List ℕ) (n : Nameless) → has_type_var a (strip n) ≡ has_type_var a n
stripped a (free v) = refl
stripped a (bound i) = refl
stripped a (fixed c s) = refl
stripped a (app f x) = λ i. stripped a f i || stripped a x i
stripped a (lam b s n) = ap (λ c. is_among (type_names s) a || c) (stripped a n)

-- ---- and those of terms, collected
name_stays : (names : List (List ℕ)) (b a : List ℕ) → is_among names a ≡ true → is_among (add_name names b) a ≡ true
name_stays names b a h = by (is_among names b)
  where
    by : (c : Bool) → is_among (cond c names (names ++ b ∷ [])) a ≡ true
    by true = h
    by false = among_append names (b ∷ []) a ∙ or_left (is_among names a) (is_among (b ∷ []) a) h

names_stay : (names more : List (List ℕ)) (a : List ℕ) → is_among names a ≡ true → is_among (add_names names more) a ≡ true
names_stay names [] a h = h
names_stay names (b ∷ more) a h = names_stay (add_name names b) more a (name_stays names b a h)

name_there : (names : List (List ℕ)) (b a : List ℕ) → is_among (b ∷ []) a ≡ true → is_among (add_name names b) a ≡ true
name_there names b a h = by (is_among names b) refl
  where
    by : (c : Bool) → is_among names b ≡ c → is_among (cond c names (names ++ b ∷ [])) a ≡ true
    by true e = ap (is_among names) (only b a h) ∙ e
      where
        only : (b a : List ℕ) → is_among (b ∷ []) a ≡ true → a ≡ b
        only b a g = by_test (bytes_eq a b) refl g
          where
            by_test : (c : Bool) → bytes_eq a b ≡ c → (c || false) ≡ true → a ≡ b
            by_test true q k = (bytes_eq-Decides a b).0 q
            by_test false q k = absurd (false≢true k)
    by false e = among_append names (b ∷ []) a ∙ or_right (is_among names a) (is_among (b ∷ []) a) h

names_there : (names more : List (List ℕ)) (a : List ℕ) → is_among more a ≡ true → is_among (add_names names more) a ≡ true
names_there names [] a h = absurd (cc)
names_there names (b ∷ more) a h = by (is_among (b ∷ []) a) refl (names_there (add_name names b) more a)
  where
    by : (c : Bool) → is_among (b ∷ []) a ≡ c → (is_among more a ≡ true → is_among (add_names (add_name names b) more) a ≡ true) → is_among (add_names (add_name names b) more) a ≡ true
    by true e r = names_stay (add_name names b) more a (name_there names b a e)
    by false e r = r (rest (bytes_eq a b) (is_among more a) e h)
      where
        rest : (c d : Bool) → (c || false) ≡ false → (c || d) ≡ true → d ≡ true
        rest true d f g = absurd (false≢true (sym f))
        rest false d f g = g

fixed_stay : (names : List (List ℕ)) (terms : List Nameless) (a : List ℕ) → is_among names a ≡ true → is_among (fixed_names names terms) a ≡ true
fixed_stay names [] a h = h
fixed_stay names (t ∷ terms) a h = fixed_stay (add_names names (term_tyvars t)) terms a (names_stay names (term_tyvars t) a h)

fixed_there : (names : List (List ℕ)) (ps : List Named) (a : List ℕ) → list_any (has_type_var a) (map hyp_of ps) ≡ true → is_among (fixed_names names (map (λ t. nameless [] t) ps)) a ≡ true
fixed_there names [] a h = absurd (cc)
fixed_there names (p ∷ ps) a h = by (has_type_var a (hyp_of p)) refl h (fixed_there (add_names names (term_tyvars (nameless [] p))) ps a)
  where
    by : (c : Bool) → has_type_var a (hyp_of p) ≡ c → (c || list_any (has_type_var a) (map hyp_of ps)) ≡ true → (list_any (has_type_var a) (map hyp_of ps) ≡ true → is_among (fixed_names (add_names names (term_tyvars (nameless [] p))) (map (λ t. nameless [] t) ps)) a ≡ true) → is_among (fixed_names (add_names names (term_tyvars (nameless [] p))) (map (λ t. nameless [] t) ps)) a ≡ true
    by true e k r =
        fixed_stay (add_names names (term_tyvars (nameless [] p))) (map (λ t. nameless [] t) ps) a
        (names_there names (term_tyvars (nameless [] p)) a (term_has a (nameless [] p) ∙ sym (stripped a (nameless [] p)) ∙ e))
    by false e k r = r k

-- ---- variables
pub variables_stay : (vs : List (List ℕ × TypeTree)) (ws : List (List ℕ × TypeTree)) (w : List ℕ × TypeTree) → binds vs w ≡ true → binds (add_all vs ws) w ≡ true
variables_stay vs [] w h = h
variables_stay vs (x ∷ ws) w h = by (binds vs x) (variables_stay vs ws w h) (variables_stay (vs ++ x ∷ []) ws w (binds_append vs (x ∷ []) w ∙ or_left (binds vs w) (binds (x ∷ []) w) h))
  where
    by : (b : Bool) → binds (add_all vs ws) w ≡ true → binds (add_all (vs ++ x ∷ []) ws) w ≡ true → binds (add_all (cond b vs (vs ++ x ∷ [])) ws) w ≡ true
    by true p q = p
    by false p q = q

free_stay : (vs : List (List ℕ × TypeTree)) (terms : List Nameless) (w : List ℕ × TypeTree) → binds vs w ≡ true → binds (fixed_variables vs terms) w ≡ true
free_stay vs [] w h = h
free_stay vs (t ∷ terms) w h = free_stay (add_all vs (add_all [] (free_occurrences t))) terms w (variables_stay vs (add_all [] (free_occurrences t)) w h)

free_there : (vs : List (List ℕ × TypeTree)) (ps : List Named) (w : List ℕ × TypeTree) → list_any (λ p. binds (free_occurrences (nameless [] p)) w) ps ≡ true → binds (fixed_variables vs (map (λ t. nameless [] t) ps)) w ≡ true
free_there vs [] w h = absurd (cc)
free_there vs (p ∷ ps) w h = by (binds (free_occurrences (nameless [] p)) w) refl h (free_there (add_all vs (add_all [] (free_occurrences (nameless [] p)))) ps w)
  where
    by : (c : Bool) → binds (free_occurrences (nameless [] p)) w ≡ c → (c || list_any (λ q. binds (free_occurrences (nameless [] q)) w) ps) ≡ true → (list_any (λ q. binds (free_occurrences (nameless [] q)) w) ps ≡ true → binds (fixed_variables (add_all vs (add_all [] (free_occurrences (nameless [] p)))) (map (λ t. nameless [] t) ps)) w ≡ true) → binds (fixed_variables (add_all vs (add_all [] (free_occurrences (nameless [] p)))) (map (λ t. nameless [] t) ps)) w ≡ true
    by true e k r =
        free_stay (add_all vs (add_all [] (free_occurrences (nameless [] p)))) (map (λ t. nameless [] t) ps) w
        (all_there vs (add_all [] (free_occurrences (nameless [] p))) w (all_there [] (free_occurrences (nameless [] p)) w e))
    by false e k r = r k

-- ---- of hypotheses
pub names_fixed : (hs : Hyps) (ps : List Named) → hyps_of ps ≡ hs → (a : List ℕ) → has_type_var_in (set.items hs) a ≡ true → is_among (fixed_names [] (map (λ t. nameless [] t) ps)) a ≡ true
names_fixed hs ps is a h = fixed_there [] ps a (sym (any_of_set hyps_total hyps_same (has_type_var a) (map hyp_of ps)) ∙ ap (λ (s : Hyps). has_type_var_in (set.items s) a) is ∙ h)

pub variables_fixed : (hs : Hyps) (ps : List Named) → hyps_of ps ≡ hs → (v : List ℕ × TypeTree) → is_free_in (set.items hs) v ≡ true → binds (fixed_variables [] (map (λ t. nameless [] t) ps)) v ≡ true
variables_fixed hs ps is v h = free_there [] ps v (sym (free_in_hyps hs ps v is) ∙ h)

pub names_kept : (hs : Hyps) (ps : List Named) (f : Fixed) → hyps_of ps ≡ hs → AreFixed (map (λ t. nameless [] t) ps) f → (a : List ℕ) → has_type_var_in (set.items hs) a ≡ true → is_among f.names.items a ≡ true
names_kept hs ps f is own a h = ap (λ ns. is_among ns a) own.0 ∙ names_fixed hs ps is a h

pub variables_kept : (hs : Hyps) (ps : List Named) (f : Fixed) → hyps_of ps ≡ hs → AreFixed (map (λ t. nameless [] t) ps) f → (v : List ℕ × TypeTree) → is_free_in (set.items hs) v ≡ true → binds f.variables.items v ≡ true
variables_kept hs ps f is own v h = ap (λ vs. binds vs v) own.1 ∙ variables_fixed hs ps is v h

pub ruleset staying = (names_kept, variables_kept)

pub rules_from : (s : Source) (ways : List RuleWay) (n : Nameless) → n ≡ (given_sequent s.given).concl → AllByRecursion (IsOnWay s.fixed.names.items s.fixed.variables.items (generalized s.variables.items n)) ways → AllByRecursion (IsFrom s) ways
rules_from s ways n e h = subst (λ m. AllByRecursion (IsOnWay s.fixed.names.items s.fixed.variables.items (generalized s.variables.items m)) ways) e h
