-- Looking up in pairs that come after those of what stays, and one step of matching types.
use Rattle.std.proofs.Common.{◌≡◌, ℕ, zero, suc, ◌<◌, ◌≤◌, List, [], ◌∷◌, ◌++◌, map, length, get_or, refl, ap, sym, ◌∙◌, Bool, true, false, cond, ◌||◌, if◌then◌else◌, bytes_eq, Some, None, subst, inl, inr, arith}
use Rattle.std.specs.Bool.{IsTrue}
use Rattle.std.specs.Option.{option_and_then}
use Rattle.std.proofs.lemmas.List.{append_assoc}
use Rattle.std.proofs.lemmas.Slice.Eq.{bytes_eq-Decides}
use Rattle.hol_types.specs.Tree.{TypeTree, TyVar}
use Rattle.hol_types.specs.Names.{is_among}
use Rattle.hol_types.specs.Subst.{type_lookup}
use Rattle.hol_types.specs.Equal.{variable_eq}
use Rattle.hol_types.specs.Filter.{name_bit}
use Rattle.hol_types.proofs.Lookups.{type_first, type_second}
use Rattle.hol_types.proofs.Steps.{match_ends_some, match_ends_none, match_more_none, part_size, arguments_smaller}
use Rattle.hol_types.proofs.Filters.{closed_match}
use Rattle.hol_terms.specs.Named.{Named, var, constant, comb, abs, named_type}
use Rattle.hol_terms.specs.Nameless.{Nameless, free, nameless, nameless_type}
use Rattle.hol_terms.specs.Alpha.{alpha_eq}
use Rattle.hol_terms.specs.Scoped.{binds, occurs_in}
use Rattle.hol_terms.proofs.Same.{variable_eq_decides}
use Rattle.hol_subst.specs.Substitution.{term_lookup}
use Rattle.hol_subst.specs.Pairs.{nameless_pairs, HasBadPair}
use Rattle.hol_subst.proofs.Closing.{eq_flip}
use Rattle.hol_match.specs.Instance.{InstanceValue, instance_of, both, staying}
use Rattle.hol_match.specs.Fixed.{stays}
use Rattle.hol_match.specs.declared.fixed.Fixed.{Fixed}
use Rattle.hol_match.specs.Matching.{taken, with_type, variable_takes, variable_meets}
use Rattle.hol_match.specs.Places.{is_variable}

pub term_first : (xs ys : List (Nameless × (List ℕ × TypeTree))) (v : List ℕ × TypeTree) (s : Nameless) → term_lookup xs v ≡ Some s → term_lookup (xs ++ ys) v ≡ Some s
term_first [] ys v s e = absurd (cc)
term_first (x ∷ xs) ys v s e = by (variable_eq x.1 v) (term_first xs ys v s) e
  where
    by : (b : Bool) → (term_lookup xs v ≡ Some s → term_lookup (xs ++ ys) v ≡ Some s) → cond b (Some x.0) (term_lookup xs v) ≡ Some s → cond b (Some x.0) (term_lookup (xs ++ ys) v) ≡ Some s
    by true r f = f
    by false r f = r f

pub term_second : (xs ys : List (Nameless × (List ℕ × TypeTree))) (v : List ℕ × TypeTree) → term_lookup xs v ≡ None → term_lookup (xs ++ ys) v ≡ term_lookup ys v
term_second [] ys v e = refl
term_second (x ∷ xs) ys v e = by (variable_eq x.1 v) (term_second xs ys v) e
  where
    by : (b : Bool) → (term_lookup xs v ≡ None → term_lookup (xs ++ ys) v ≡ term_lookup ys v) → cond b (Some x.0) (term_lookup xs v) ≡ None → cond b (Some x.0) (term_lookup (xs ++ ys) v) ≡ term_lookup ys v
    by true r f = absurd (cc)
    by false r f = r f

-- a pair of a term and a variable at the end
pairs_more : (ps : List (Named × Named)) (t : Named) (v : List ℕ × TypeTree) → nameless_pairs (ps ++ (t, var v) ∷ []) ≡ nameless_pairs ps ++ (nameless [] t, v) ∷ []
pairs_more [] t v = refl
pairs_more (p ∷ ps) t v = by p.1 (pairs_more ps t v)
  where
    by : (u : Named) → nameless_pairs (ps ++ (t, var v) ∷ []) ≡ nameless_pairs ps ++ (nameless [] t, v) ∷ [] → nameless_pairs ((p.0, u) ∷ (ps ++ (t, var v) ∷ [])) ≡ nameless_pairs ((p.0, u) ∷ ps) ++ (nameless [] t, v) ∷ []
    by (var w) r = λ i. (nameless [] p.0, w) ∷ r i
    by (constant c s) r = r
    by (comb f x) r = r
    by (abs w b) r = r

pub pairs_added : (ps qs : List (Named × Named)) (s t u : Named) (v : List ℕ × TypeTree) → qs ≡ ps ++ (s, u) ∷ [] → s ≡ t → u ≡ var v → nameless_pairs qs ≡ nameless_pairs ps ++ (nameless [] t, v) ∷ []
pairs_added ps qs s t u v e f g = ap nameless_pairs (e ∙ (λ i. ps ++ (f i, g i) ∷ [])) ∙ pairs_more ps t v

good_more : (ps : List (Named × Named)) (s u : Named) (v : List ℕ × TypeTree) → u ≡ var v → named_type s ≡ Some v.1 → (HasBadPair ps → ⊥) → HasBadPair (ps ++ (s, u) ∷ []) → ⊥
good_more [] s u v e h g (inl bad) = bad (v, e, h)
good_more [] s u v e h g (inr z) = z
good_more (p ∷ ps) s u v e h g (inl bad) = g (inl bad)
good_more (p ∷ ps) s u v e h g (inr more) = good_more ps s u v e h (λ b. g (inr b)) more

pub good_added : (ps qs : List (Named × Named)) (s t u : Named) (v : List ℕ × TypeTree) → qs ≡ ps ++ (s, u) ∷ [] → s ≡ t → u ≡ var v → named_type t ≡ Some v.1 → (HasBadPair ps → ⊥) → HasBadPair qs → ⊥
good_added ps qs s t u v e f g h k b = good_more ps s u v g (ap named_type f ∙ h) k (subst HasBadPair e b)

-- ---- what stays is given itself

pub own_type : (names : List (List ℕ)) (a : List ℕ) → type_lookup (map (λ a. (TyVar a, a)) names) a ≡ cond (is_among names a) (Some (TyVar a)) None
own_type [] a = refl
own_type (b ∷ names) a = by (bytes_eq b a) refl (bytes_eq a b) refl (own_type names a)
  where
    by : (p : Bool) → bytes_eq b a ≡ p → (q : Bool) → bytes_eq a b ≡ q → type_lookup (map (λ a. (TyVar a, a)) names) a ≡ cond (is_among names a) (Some (TyVar a)) None → cond p (Some (TyVar b)) (type_lookup (map (λ a. (TyVar a, a)) names) a) ≡ cond (q || is_among names a) (Some (TyVar a)) None
    by true e true f r = ap (λ x. Some (TyVar x)) ((bytes_eq-Decides b a).0 e)
    by true e false f r = let z : true ≡ false = sym ((bytes_eq-Decides a b).1 (sym ((bytes_eq-Decides b a).0 e))) ∙ f in absurd (cc)
    by false e true f r = let z : true ≡ false = sym ((bytes_eq-Decides b a).1 (sym ((bytes_eq-Decides a b).0 f))) ∙ e in absurd (cc)
    by false e false f r = r

pub own_term : (vs : List (List ℕ × TypeTree)) (v : List ℕ × TypeTree) → term_lookup (map (λ v. (free v, v)) vs) v ≡ cond (binds vs v) (Some (free v)) None
own_term [] v = refl
own_term (u ∷ vs) v = by (variable_eq u v) refl (own_term vs v)
  where
    by : (p : Bool) → variable_eq u v ≡ p → term_lookup (map (λ v. (free v, v)) vs) v ≡ cond (binds vs v) (Some (free v)) None → cond p (Some (free u)) (term_lookup (map (λ v. (free v, v)) vs) v) ≡ cond (p || binds vs v) (Some (free v)) None
    by true e r = ap (λ x. Some (free x)) ((variable_eq_decides u v).0 e)
    by false e r = r

-- the variables that are given themselves
pub own_variables : (vs : List (List ℕ × TypeTree)) → map (λ (p : Nameless × (List ℕ × TypeTree)). p.1) (map (λ v. (free v, v)) vs) ≡ vs
own_variables [] = refl
own_variables (v ∷ vs) = λ i. v ∷ own_variables vs i

-- ---- a variable meets a term

variable_alpha : (t : Named) (u : List ℕ × TypeTree) → alpha_eq (free u) (nameless [] t) ≡ is_variable t u
variable_alpha (var w) u = eq_flip u w
variable_alpha (constant c s) u = refl
variable_alpha (comb f x) u = refl
variable_alpha (abs w b) u = refl

as_if : {A : Type 0} (b : Bool) (x y : A) → cond b x y ≡ (if b then x else y)
as_if true x y = refl
as_if false x y = refl

pub taken_fixed : (f : Fixed) (found : InstanceValue) (u : List ℕ × TypeTree) (t : Named) (b : Bool) → term_lookup (stays f).terms u ≡ Some (free u) → b ≡ is_variable t u → taken (term_lookup (both (stays f) found).terms u) (both (stays f) found) u (nameless [] t) ≡ (if b then Some (both (stays f) found) else None)
taken_fixed f found u t b e g =
    ap (λ o. taken o (both (stays f) found) u (nameless [] t)) (term_first (stays f).terms found.terms u (free u) e)
    ∙ ap (λ c. cond c (Some (both (stays f) found)) None) (variable_alpha t u ∙ sym g)
    ∙ as_if b (Some (both (stays f) found)) None

pub taken_earlier : (f : Fixed) (found : InstanceValue) (u : List ℕ × TypeTree) (s n : Nameless) (b : Bool) → term_lookup (stays f).terms u ≡ None → term_lookup found.terms u ≡ Some s → b ≡ alpha_eq s n → taken (term_lookup (both (stays f) found).terms u) (both (stays f) found) u n ≡ (if b then Some (both (stays f) found) else None)
taken_earlier f found u s n b e g h =
    ap (λ o. taken o (both (stays f) found) u n) (term_second (stays f).terms found.terms u e ∙ g)
    ∙ ap (λ c. cond c (Some (both (stays f) found)) None) (sym h)
    ∙ as_if b (Some (both (stays f) found)) None

pub taken_new : (f : Fixed) (found new : InstanceValue) (u : List ℕ × TypeTree) (n : Nameless) → term_lookup (stays f).terms u ≡ None → term_lookup found.terms u ≡ None → new ≡ instance_of found.types (found.terms ++ (n, u) ∷ []) → taken (term_lookup (both (stays f) found).terms u) (both (stays f) found) u n ≡ Some (both (stays f) new)
taken_new f found new u n e g h =
    ap (λ o. taken o (both (stays f) found) u n) (term_second (stays f).terms found.terms u e ∙ g)
    ∙ ap (λ ts. Some (instance_of ((stays f).types ++ found.types) ts)) (append_assoc (stays f).terms found.terms ((n, u) ∷ []))
    ∙ ap (λ q. Some (both (stays f) q)) (sym h)

pub meets_by : (v u : List ℕ × TypeTree) (n : Nameless) (s : TypeTree) (found q : InstanceValue) → nameless_type [] n ≡ Some s → with_type v.1 found s ≡ Some q → u ≡ (v.0, s) → variable_meets v found n ≡ taken (term_lookup q.terms u) q u n
meets_by v u n s found q e f g =
    ap (λ o. option_and_then (λ s. variable_takes v found n s) o) e
    ∙ ap (λ o. option_and_then (λ more. taken (term_lookup more.terms (v.0, s)) more (v.0, s) n) o) f
    ∙ ap (λ w. taken (term_lookup q.terms w) q w n) (sym g)

pub meets_none : (v : List ℕ × TypeTree) (n : Nameless) (s : TypeTree) (found : InstanceValue) → nameless_type [] n ≡ Some s → with_type v.1 found s ≡ None → variable_meets v found n ≡ None
meets_none v n s found e f =
    ap (λ o. option_and_then (λ s. variable_takes v found n s) o) e
    ∙ ap (λ o. option_and_then (λ more. taken (term_lookup more.terms (v.0, s)) more (v.0, s) n) o) f

pub other_variable : (t : Named) (v : List ℕ × TypeTree) (b : Bool) → (occurs_in v t ≡ true → b ≡ true) → b ≡ false → is_variable t v ≡ false
other_variable (var w) v b f e = by (variable_eq w v) f
  where
    by : (c : Bool) → (c ≡ true → b ≡ true) → c ≡ false
    by true g = let z : true ≡ false = sym (g refl) ∙ e in absurd (cc)
    by false g = refl
other_variable (constant c s) v b f e = refl
other_variable (comb g x) v b f e = refl
other_variable (abs w t) v b f e = refl

-- variables whose names have other bits are two
pub other_bits : (u v : List ℕ × TypeTree) (p q : ℕ) (b : Bool) → p ≡ name_bit u.0 → q ≡ name_bit v.0 → (p ≡ q → IsTrue b) → b ≡ false → b ≡ variable_eq u v
other_bits u v p q true e f h k = absurd (cc)
other_bits u v p q false e f h k = by (variable_eq u v) refl
  where
    by : (c : Bool) → variable_eq u v ≡ c → false ≡ c
    by true g = h (e ∙ ap (λ (w : List ℕ × TypeTree). name_bit w.0) ((variable_eq_decides u v).0 g) ∙ sym f)
    by false g = refl

-- ---- types

pub ruleset type_steps = (closed_match, arguments_smaller)

pub ruleset argument_steps = (match_ends_some, match_ends_none, match_more_none, part_size)

pub ruleset lookups = (type_first, type_second, append_assoc)

pub ruleset meeting = (meets_by, meets_none)

pub same_stays : (names others : List (List ℕ)) (vs ws : List (List ℕ × TypeTree)) → names ≡ others → vs ≡ ws → staying names vs ≡ staying others ws
same_stays names others vs ws e f = λ i. staying (e i) (f i)

pub equal_variables : (v w : List ℕ × TypeTree) → variable_eq v w ≡ true → v ≡ w
equal_variables v w h = (variable_eq_decides v w).0 h
