-- What a bound variable must not be called, and that a name is found.
use Rattle.std.proofs.Common.{◌≡◌, ℕ, ◌≤◌, List, [], ◌∷◌, length, max, refl, ap, sym, ◌∙◌, Bool, true, false, cond, not, ◌&&◌, ◌||◌, Some, unwrap_or, arith}
use Rattle.std.proofs.lemmas.Bool.{or_parts, and_parts}
use Rattle.hol_types.specs.Tree.{TypeTree}
use Rattle.hol_types.specs.Equal.{variable_eq}
use Rattle.hol_terms.specs.Named.{Named, var, abs}
use Rattle.hol_terms.specs.Nameless.{free, lam, base_of, nameless, free_occurrences}
use Rattle.hol_terms.specs.Scoped.{binds, occurs_in}
use Rattle.hol_terms.proofs.Same.{variable_eq_decides}
use Rattle.hol_terms.proofs.Occurs.{occurs_is}
use Rattle.hol_terms.proofs.Primes.{base_with_primes}
use Rattle.hol_subst.specs.Closing.{close}
use Rattle.hol_subst.specs.Substitution.{term_lookup, term_for, term_subst}
use Rattle.hol_subst.specs.Capture.{named_pairs, given, has_pair, comes_in, is_taken, IsRest, IsRenaming}
use Rattle.hol_subst.proofs.Closing.{IsClosed, closed_named, nameless_abs, eq_same, eq_flip}
use Rattle.hol_subst.proofs.Commute.{AllClosed, Renames, commute}
use Rattle.hol_subst.proofs.Binders.{none_given}
use Rattle.hol_subst.proofs.Longest.{longest, binds_short}

abbrev Var : Type 0
Var = List ℕ × TypeTree

abbrev NamedPairs : Type 0
NamedPairs = List (Named × (List ℕ × TypeTree))

-- ---- names are found
longest_named : Named → ℕ
longest_named t = longest (free_occurrences (nameless [] t))

occurs_short : (t : Named) (u : Var) → occurs_in u t ≡ true → length u.0 ≤ longest_named t
unfolding longest_named
occurs_short t u e = binds_short (free_occurrences (nameless [] t)) u (sym (occurs_is u t) ∙ e)

longest_coming : NamedPairs → ℕ
longest_coming [] = 0
longest_coming (p ∷ ps) = max (longest_named p.0) (longest_coming ps)

comes_short : (ps : NamedPairs) (b : Named) (u : Var) → comes_in ps u b ≡ true → length u.0 ≤ longest_coming ps
unfolding longest_coming
comes_short [] b u e = absurd (cc)
comes_short (p ∷ ps) b u e = by (occurs_in u p.0 && occurs_in p.1 b) refl e (comes_short ps b u)
  where
    by : (t : Bool) → (occurs_in u p.0 && occurs_in p.1 b) ≡ t → (t || comes_in ps u b) ≡ true → (comes_in ps u b ≡ true → length u.0 ≤ longest_coming ps) → length u.0 ≤ max (longest_named p.0) (longest_coming ps)
    by true q g r = let h : length u.0 ≤ longest_named p.0 = occurs_short p.0 u (and_parts (occurs_in u p.0) (occurs_in p.1 b) q).0 in omega arith
    by false q g r = let h : length u.0 ≤ longest_coming ps = r g in omega arith

pub longest_taken : List (Named × (List ℕ × TypeTree)) → Named → ℕ
longest_taken ps b = max (longest_named b) (longest_coming ps)

pub taken_short : (ps : List (Named × (List ℕ × TypeTree))) (b : Named) (u : List ℕ × TypeTree) → is_taken ps b u ≡ true → length u.0 ≤ longest_taken ps b
unfolding longest_taken
taken_short ps b u e = by (occurs_in u b && not (has_pair ps u)) refl e
  where
    by : (t : Bool) → (occurs_in u b && not (has_pair ps u)) ≡ t → (t || comes_in ps u b) ≡ true → length u.0 ≤ max (longest_named b) (longest_coming ps)
    by true q g = let h : length u.0 ≤ longest_named b = occurs_short b u (and_parts (occurs_in u b) (not (has_pair ps u)) q).0 in omega arith
    by false q g = let h : length u.0 ≤ longest_coming ps = comes_short ps b u g in omega arith

untaken : (ps : NamedPairs) (b : Named) (v u : Var) → IsRenaming ps b v u → is_taken ps b u ≡ false
untaken ps b v u i = by (is_taken ps b u) refl
  where
    by : (t : Bool) → is_taken ps b u ≡ t → is_taken ps b u ≡ false
    by true e = absurd (i.name.fresh (ap (λ s. is_taken ps b (u.0, s)) (sym i.same_type) ∙ e))
    by false e = e

-- ---- what isn't taken is free in nothing that stands for a variable of the body
and_false : (a b : Bool) → (a && b) ≡ false → b ≡ true → a ≡ false
and_false true b e f = sym f ∙ e
and_false false b e f = refl

stands_fresh : (ps : NamedPairs) (w u : Var) (b : Named) → comes_in ps u b ≡ false → occurs_in w b ≡ true → (has_pair ps w ≡ false → variable_eq w u ≡ false) → binds (free_occurrences (term_for (named_pairs ps) w)) u ≡ false
stands_fresh [] w u b e o h = rw (h refl) refl
stands_fresh (p ∷ ps) w u b e o h = by (variable_eq p.1 w) refl (λ g. stands_fresh ps w u b (or_parts _ _ e).1 o g) h
  where
    by : (t : Bool) → variable_eq p.1 w ≡ t → ((has_pair ps w ≡ false → variable_eq w u ≡ false) → binds (free_occurrences (term_for (named_pairs ps) w)) u ≡ false) → ((t || has_pair ps w) ≡ false → variable_eq w u ≡ false) → binds (free_occurrences (unwrap_or (cond t (Some (nameless [] p.0)) (term_lookup (named_pairs ps) w)) (free w))) u ≡ false
    by true q r g = sym (occurs_is u p.0) ∙ and_false (occurs_in u p.0) (occurs_in p.1 b) (or_parts _ _ e).0 (ap (λ x. occurs_in x b) ((variable_eq_decides p.1 w).0 q) ∙ o)
    by false q r g = r g

pub closed_pairs : (ps : List (Named × (List ℕ × TypeTree))) → AllClosed (named_pairs ps)
closed_pairs [] w = tt
closed_pairs (p ∷ ps) w = by (variable_eq p.1 w) (closed_pairs ps w)
  where
    by : (b : Bool) → IsClosed 0 (term_for (named_pairs ps) w) → IsClosed 0 (unwrap_or (cond b (Some (nameless [] p.0)) (term_lookup (named_pairs ps) w)) (free w))
    by true c = closed_named p.0
    by false c = c

-- what stands for a variable, as a nameless term
pub nameless_given : (ps : List (Named × (List ℕ × TypeTree))) (w : List ℕ × TypeTree) → term_for (named_pairs ps) w ≡ nameless [] (given ps w)
nameless_given [] w = refl
nameless_given (p ∷ ps) w = by (variable_eq p.1 w) (nameless_given ps w)
  where
    by : (b : Bool) → term_for (named_pairs ps) w ≡ nameless [] (given ps w) → unwrap_or (cond b (Some (nameless [] p.0)) (term_lookup (named_pairs ps) w)) (free w) ≡ nameless [] (cond b p.0 (given ps w))
    by true e = refl
    by false e = e

others : (v : Var) (b : Named) (ps rest : NamedPairs) → IsRest v b ps rest → (w : Var) → variable_eq v w ≡ false → binds (free_occurrences (nameless [] b)) w ≡ true → term_for (named_pairs rest) w ≡ term_for (named_pairs ps) w
others v b ps rest g w d f = nameless_given rest w ∙ ap (nameless []) (g.others w d (occurs_is w b ∙ f)) ∙ sym (nameless_given ps w)

-- the bound variable is kept
pub kept : (v : List ℕ × TypeTree) (b r : Named) (ps rest : List (Named × (List ℕ × TypeTree))) → IsRest v b ps rest → comes_in rest v b ≡ false → nameless [] r ≡ term_subst (named_pairs rest) 0 (nameless [] b) → nameless [] (abs v r) ≡ term_subst (named_pairs ps) 0 (nameless [] (abs v b))
kept v b r ps rest g e h =
    let names : Renames v v (named_pairs ps) (named_pairs rest) (nameless [] b) = record {
      own = nameless_given rest v ∙ ap (nameless []) (none_given rest v (var v) g.own);
      others = others v b ps rest g;
      fresh = λ w d f. ap (λ x. binds (free_occurrences x) v) (sym (others v b ps rest g w d f)) ∙ stands_fresh rest w v b e (occurs_is w b ∙ f) (λ n. eq_flip w v ∙ d);
    } in
    nameless_abs v r ∙ ap (lam (base_of v.0) v.1) (ap (close v 0) h ∙ commute v v (named_pairs ps) (named_pairs rest) 0 (nameless [] b) (closed_pairs ps) (closed_named b) names)
    ∙ ap (term_subst (named_pairs ps) 0) (sym (nameless_abs v b))

-- the bound variable is renamed to u
pub renamed : (v u : List ℕ × TypeTree) (b r : Named) (ps rest : List (Named × (List ℕ × TypeTree)))
    → IsRest v b ps rest → IsRenaming rest b v u
    → nameless [] r ≡ term_subst (named_pairs ((var u, v) ∷ rest)) 0 (nameless [] b)
    → nameless [] (abs u r) ≡ term_subst (named_pairs ps) 0 (nameless [] (abs v b))
renamed v u b r ps rest g i h =
    let free_name : is_taken rest b u ≡ false = untaken rest b v u i in
    let names : Renames v u (named_pairs ps) (named_pairs ((var u, v) ∷ rest)) (nameless [] b) = record {
      own = rw (eq_same v) refl;
      others = λ w d f. rw d (others v b ps rest g w d f);
      fresh = λ w d f. ap (λ x. binds (free_occurrences x) u) (sym (others v b ps rest g w d f)) ∙ stands_fresh rest w u b (or_parts _ _ free_name).1 (occurs_is w b ∙ f) (λ n. differs w (occurs_is w b ∙ f) n (variable_eq w u) refl);
    } in
    let same_base : base_of u.0 ≡ base_of v.0 = ap base_of i.name.is ∙ base_with_primes i.name.primes v.0 in
    let same_type : u.1 ≡ v.1 = i.same_type in
    nameless_abs u r ∙ (λ j. lam (same_base j) (same_type j) (close u 0 (h j)))
    ∙ ap (lam (base_of v.0) v.1) (commute v u (named_pairs ps) (named_pairs ((var u, v) ∷ rest)) 0 (nameless [] b) (closed_pairs ps) (closed_named b) names)
    ∙ ap (term_subst (named_pairs ps) 0) (sym (nameless_abs v b))
  where
    differs : (w : Var) → occurs_in w b ≡ true → has_pair rest w ≡ false → (t : Bool) → variable_eq w u ≡ t → variable_eq w u ≡ false
    differs w o n true q =
        let same : w ≡ u = (variable_eq_decides w u).0 q in
        let z : (occurs_in w b && not (has_pair rest w)) ≡ false = ap (λ x. occurs_in x b && not (has_pair rest x)) same ∙ (or_parts _ _ (untaken rest b v u i)).0 in
        let y : true ≡ false = sym (rw (o, n) refl) ∙ z in
        absurd (cc)
    differs w o n false q = q
