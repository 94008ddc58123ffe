-- What a match finds beside what stays is a match by itself, and the most general one.
use Rattle.std.proofs.Common.{◌≡◌, ℕ, List, [], ◌∷◌, ◌++◌, map, refl, sym, ap, ◌∙◌, subst, Bool, true, false, cond, bytes_eq, Option, Some, None, unwrap_or}
use Rattle.std.proofs.lemmas.List.{append_assoc}
use Rattle.std.proofs.lemmas.Slice.Eq.{bytes_eq-Decides}
use Rattle.hol_types.specs.Tree.{TypeTree, TypeList, TyVar, TyApp, no_types, more_types}
use Rattle.hol_types.specs.Subst.{type_lookup, type_for, type_subst, types_subst}
use Rattle.hol_types.specs.Equal.{variable_eq}
use Rattle.hol_terms.specs.Nameless.{Nameless, free, bound, fixed, app, lam}
use Rattle.hol_terms.specs.Alpha.{strip}
use Rattle.hol_terms.proofs.Same.{variable_eq_decides}
use Rattle.hol_subst.specs.Substitution.{term_lookup, term_for, term_subst, types_inst}
use Rattle.hol_subst.proofs.Commute.{subst_agree}
use Rattle.hol_subst.proofs.Closing.{eq_same}
use Rattle.hol_match.specs.Instance.{InstanceValue, instantiated, both, staying}
use Rattle.hol_match.specs.Matching.{matched}
use Rattle.hol_match.specs.Fixed.{fixed_names, fixed_variables, stays_of}
use Rattle.hol_match.specs.Matches.{GivesTypes, GivesTerms, Says, IsMatch, IsMostGeneral, HasNoMatch}
use Rattle.hol_types.proofs.Lookups.{type_first, type_second}
use Rattle.hol_match.proofs.Lookups.{term_first, term_second}
use Rattle.hol_match.proofs.TypeMatches as types
use Rattle.hol_match.proofs.TypeMatches.{TypesHold}
use Rattle.hol_match.proofs.MatchLaws.{Tells, Makes, matched_tells, gives_before}
use Rattle.hol_match.proofs.Holding.{TermsHold, Holds, HoldsIn, matched_holds, hold_after, holding_says, holding_typed}

abbrev Pairs : Type 0
Pairs = List (TypeTree × List ℕ)

abbrev Terms : Type 0
Terms = List (Nameless × (List ℕ × TypeTree))

-- ---- types

only_type : (names : List (List ℕ)) (x : List ℕ) (s : TypeTree) → type_lookup (map (λ a. (TyVar a, a)) names) x ≡ Some s → s ≡ TyVar x
only_type [] x s e = absurd (cc)
only_type (a ∷ names) x s e = by (bytes_eq a x) refl (only_type names x s) e
  where
    by : (b : Bool) → bytes_eq a x ≡ b → (type_lookup (map (λ a. (TyVar a, a)) names) x ≡ Some s → s ≡ TyVar x) → cond b (Some (TyVar a)) (type_lookup (map (λ a. (TyVar a, a)) names) x) ≡ Some s → s ≡ TyVar x
    by true q r f = let g : TyVar a ≡ s = cc in sym g ∙ ap TyVar ((bytes_eq-Decides a x).0 q)
    by false q r f = r f

held_type : (found ys : Pairs) (x : List ℕ) → TypesHold found ys → type_lookup found x ≡ Some (TyVar x) → type_for ys x ≡ TyVar x
held_type found [] x h e = refl
held_type found (p ∷ ys) x h e = by (bytes_eq p.1 x) refl (held_type found ys x h.1 e)
  where
    by : (b : Bool) → bytes_eq p.1 x ≡ b → type_for ys x ≡ TyVar x → unwrap_or (cond b (Some p.0) (type_lookup ys x)) (TyVar x) ≡ TyVar x
    by true q r =
        let n : p.1 ≡ x = (bytes_eq-Decides p.1 x).0 q in
        let f : Some p.0 ≡ Some (TyVar x) = sym h.0 ∙ ap (type_lookup found) n ∙ e in
        let g : p.0 ≡ TyVar x = cc in
        g
    by false q r = r

types_after : (found xs ys : Pairs) → TypesHold found (xs ++ ys) → TypesHold found ys
types_after found [] ys h = h
types_after found (x ∷ xs) ys h = types_after found xs ys h.1

type_alone : (names : List (List ℕ)) (ys : Pairs) (x : List ℕ) → TypesHold (map (λ a. (TyVar a, a)) names ++ ys) ys → type_for (map (λ a. (TyVar a, a)) names ++ ys) x ≡ type_for ys x
type_alone names ys x h = by (type_lookup (map (λ a. (TyVar a, a)) names) x) refl
  where
    by : (o : Option TypeTree) → type_lookup (map (λ a. (TyVar a, a)) names) x ≡ o → type_for (map (λ a. (TyVar a, a)) names ++ ys) x ≡ type_for ys x
    by None e = ap (λ o. unwrap_or o (TyVar x)) (type_second (map (λ a. (TyVar a, a)) names) ys x e)
    by (Some s) e =
        let n : s ≡ TyVar x = only_type names x s e in
        let f : type_lookup (map (λ a. (TyVar a, a)) names ++ ys) x ≡ Some s = type_first (map (λ a. (TyVar a, a)) names) ys x s e in
        let g : type_lookup (map (λ a. (TyVar a, a)) names ++ ys) x ≡ Some (TyVar x) = f ∙ ap (λ t. Some t) n in
        ap (λ o. unwrap_or o (TyVar x)) g ∙ sym (held_type (map (λ a. (TyVar a, a)) names ++ ys) ys x h g)

gives_types_as : (σ τ : InstanceValue) (ps : Pairs) → ((x : List ℕ) → type_for τ.types x ≡ type_for σ.types x) → GivesTypes τ ps → GivesTypes σ ps
gives_types_as σ τ [] e h = tt
gives_types_as σ τ (p ∷ ps) e h = (sym (e p.1) ∙ h.0, gives_types_as σ τ ps e h.1)

mutual
  pub type_same : (ps qs : List (TypeTree × List ℕ)) (t : TypeTree) → ((x : List ℕ) → type_for ps x ≡ type_for qs x) → type_subst ps t ≡ type_subst qs t
  type_same ps qs (TyVar a) e = e a
  type_same ps qs (TyApp c ts) e = ap (TyApp c) (types_same ps qs ts e)

  pub types_same : (ps qs : List (TypeTree × List ℕ)) (ts : TypeList) → ((x : List ℕ) → type_for ps x ≡ type_for qs x) → types_subst ps ts ≡ types_subst qs ts
  types_same ps qs no_types e = refl
  types_same ps qs (more_types t ts) e = λ i. more_types (type_same ps qs t e i) (types_same ps qs ts e i)

pub inst_same : (ps qs : Pairs) (n : Nameless) → ((x : List ℕ) → type_for ps x ≡ type_for qs x) → types_inst ps n ≡ types_inst qs n
inst_same ps qs (free v) e = λ i. free (v.0, type_same ps qs v.1 e i)
inst_same ps qs (bound i) e = refl
inst_same ps qs (fixed c s) e = ap (fixed c) (type_same ps qs s e)
inst_same ps qs (app f x) e = λ i. app (inst_same ps qs f e i) (inst_same ps qs x e i)
inst_same ps qs (lam a s b) e = λ i. lam a (type_same ps qs s e i) (inst_same ps qs b e i)

-- ---- terms

only_term : (vs : List (List ℕ × TypeTree)) (x : List ℕ × TypeTree) (s : Nameless) → term_lookup (map (λ v. (free v, v)) vs) x ≡ Some s → s ≡ free x
only_term [] x s e = absurd (cc)
only_term (v ∷ vs) x s e = by (variable_eq v x) refl (only_term vs x s) e
  where
    by : (b : Bool) → variable_eq v x ≡ b → (term_lookup (map (λ v. (free v, v)) vs) x ≡ Some s → s ≡ free x) → cond b (Some (free v)) (term_lookup (map (λ v. (free v, v)) vs) x) ≡ Some s → s ≡ free x
    by true q r f = let g : free v ≡ s = cc in sym g ∙ ap free ((variable_eq_decides v x).0 q)
    by false q r f = r f

held_term : (found ys : Terms) (x : List ℕ × TypeTree) → TermsHold found ys → term_lookup found x ≡ Some (free x) → term_for ys x ≡ free x
held_term found [] x h e = refl
held_term found (p ∷ ys) x h e = by (variable_eq p.1 x) refl (held_term found ys x h.1 e)
  where
    by : (b : Bool) → variable_eq p.1 x ≡ b → term_for ys x ≡ free x → unwrap_or (cond b (Some p.0) (term_lookup ys x)) (free x) ≡ free x
    by true q r =
        let n : p.1 ≡ x = (variable_eq_decides p.1 x).0 q in
        let f : Some p.0 ≡ Some (free x) = sym h.0.0 ∙ ap (term_lookup found) n ∙ e in
        let g : p.0 ≡ free x = cc in
        g
    by false q r = r

term_alone : (vs : List (List ℕ × TypeTree)) (ys : Terms) (x : List ℕ × TypeTree) → TermsHold (map (λ v. (free v, v)) vs ++ ys) ys → term_for (map (λ v. (free v, v)) vs ++ ys) x ≡ term_for ys x
term_alone vs ys x h = by (term_lookup (map (λ v. (free v, v)) vs) x) refl
  where
    by : (o : Option Nameless) → term_lookup (map (λ v. (free v, v)) vs) x ≡ o → term_for (map (λ v. (free v, v)) vs ++ ys) x ≡ term_for ys x
    by None e = ap (λ o. unwrap_or o (free x)) (term_second (map (λ v. (free v, v)) vs) ys x e)
    by (Some s) e =
        let n : s ≡ free x = only_term vs x s e in
        let f : term_lookup (map (λ v. (free v, v)) vs ++ ys) x ≡ Some s = term_first (map (λ v. (free v, v)) vs) ys x s e in
        let g : term_lookup (map (λ v. (free v, v)) vs ++ ys) x ≡ Some (free x) = f ∙ ap (λ t. Some t) n in
        ap (λ o. unwrap_or o (free x)) g ∙ sym (held_term (map (λ v. (free v, v)) vs ++ ys) ys x h g)

gives_terms_as : (σ τ : InstanceValue) (ps : Terms) → ((x : List ℕ × TypeTree) → term_for τ.terms x ≡ term_for σ.terms x) → GivesTerms τ ps → GivesTerms σ ps
gives_terms_as σ τ [] e h = tt
gives_terms_as σ τ (p ∷ ps) e h = (ap strip (sym (e p.1)) ∙ h.0, gives_terms_as σ τ ps e h.1)

-- ---- the answer

pub type_among : (before : List (List ℕ)) (a : List ℕ) (names : List (List ℕ)) → type_lookup (map (λ a. (TyVar a, a)) (before ++ a ∷ names)) a ≡ Some (TyVar a)
type_among [] a names = rw ((bytes_eq-Decides a a).1 refl) refl
type_among (b ∷ before) a names = by (bytes_eq b a) refl (type_among before a names)
  where
    by : (c : Bool) → bytes_eq b a ≡ c → type_lookup (map (λ a. (TyVar a, a)) (before ++ a ∷ names)) a ≡ Some (TyVar a) → cond c (Some (TyVar b)) (type_lookup (map (λ a. (TyVar a, a)) (before ++ a ∷ names)) a) ≡ Some (TyVar a)
    by true q r = ap (λ x. Some (TyVar x)) ((bytes_eq-Decides b a).0 q)
    by false q r = r

pub own_types_hold : (before names : List (List ℕ)) → TypesHold (map (λ a. (TyVar a, a)) (before ++ names)) (map (λ a. (TyVar a, a)) names)
own_types_hold before [] = tt
own_types_hold before (a ∷ names) = (type_among before a names, subst (λ l. TypesHold (map (λ a. (TyVar a, a)) l) (map (λ a. (TyVar a, a)) names)) (append_assoc before (a ∷ []) names) (own_types_hold (before ++ a ∷ []) names))

pub term_among : (before : List (List ℕ × TypeTree)) (v : List ℕ × TypeTree) (vs : List (List ℕ × TypeTree)) → term_lookup (map (λ v. (free v, v)) (before ++ v ∷ vs)) v ≡ Some (free v)
term_among [] v vs = rw (eq_same v) refl
term_among (u ∷ before) v vs = by (variable_eq u v) refl (term_among before v vs)
  where
    by : (c : Bool) → variable_eq u v ≡ c → term_lookup (map (λ v. (free v, v)) (before ++ v ∷ vs)) v ≡ Some (free v) → cond c (Some (free u)) (term_lookup (map (λ v. (free v, v)) (before ++ v ∷ vs)) v) ≡ Some (free v)
    by true q r = ap (λ x. Some (free x)) ((variable_eq_decides u v).0 q)
    by false q r = r

pub own_terms_hold : (before vs : List (List ℕ × TypeTree)) → TermsHold (map (λ v. (free v, v)) (before ++ vs)) (map (λ v. (free v, v)) vs)
own_terms_hold before [] = tt
own_terms_hold before (v ∷ vs) = ((term_among before v vs, refl), subst (λ l. TermsHold (map (λ v. (free v, v)) l) (map (λ v. (free v, v)) vs)) (append_assoc before (v ∷ []) vs) (own_terms_hold (before ++ v ∷ []) vs))

stay_holds : (names : List (List ℕ)) (vs : List (List ℕ × TypeTree)) → Holds (staying names vs)
stay_holds names vs = (own_types_hold [] names, own_terms_hold [] vs)

-- what stays, and then what is found
abbrev joint : List (List ℕ) → List (List ℕ × TypeTree) → InstanceValue → InstanceValue
joint names vs a = both (staying names vs) a

pub joint_holds : (names : List (List ℕ)) (vs : List (List ℕ × TypeTree)) (p t : Nameless) (a : InstanceValue) → matched 0 p (staying names vs) t ≡ Some (joint names vs a) → Holds (joint names vs a)
joint_holds names vs p t a e = subst HoldsIn e (matched_holds 0 p (staying names vs) t (stay_holds names vs))

joint_tells : (names : List (List ℕ)) (vs : List (List ℕ × TypeTree)) (p t : Nameless) (a : InstanceValue) → matched 0 p (staying names vs) t ≡ Some (joint names vs a) → Tells (λ σ. Makes σ 0 p t) (staying names vs) (Some (joint names vs a))
joint_tells names vs p t a e = subst (Tells (λ σ. Makes σ 0 p t) (staying names vs)) e (matched_tells 0 p (staying names vs) t)

types_as : (names : List (List ℕ)) (vs : List (List ℕ × TypeTree)) (a : InstanceValue) → Holds (joint names vs a) → (x : List ℕ) → type_for (joint names vs a).types x ≡ type_for a.types x
types_as names vs a h x = type_alone names a.types x (types_after (joint names vs a).types (staying names vs).types a.types h.0)

pub terms_after : (names : List (List ℕ)) (vs : List (List ℕ × TypeTree)) (a : InstanceValue) → Holds (joint names vs a) → TermsHold (joint names vs a).terms a.terms
terms_after names vs a h = hold_after (joint names vs a).terms (staying names vs).terms a.terms h.1

terms_as : (names : List (List ℕ)) (vs : List (List ℕ × TypeTree)) (a : InstanceValue) → Holds (joint names vs a) → (x : List ℕ × TypeTree) → term_for (joint names vs a).terms x ≡ term_for a.terms x
terms_as names vs a h x = term_alone vs a.terms x (terms_after names vs a h)

same_instance : (names : List (List ℕ)) (vs : List (List ℕ × TypeTree)) (a : InstanceValue) (p : Nameless) → Holds (joint names vs a) → instantiated (joint names vs a) 0 p ≡ instantiated a 0 p
same_instance names vs a p h =
    ap (term_subst (joint names vs a).terms 0) (inst_same (joint names vs a).types a.types p (types_as names vs a h))
    ∙ subst_agree (joint names vs a).terms a.terms 0 (types_inst a.types p) (λ w f. terms_as names vs a h w)

itself : (names : List (List ℕ)) (vs : List (List ℕ × TypeTree)) (p t : Nameless) (a : InstanceValue) → Holds (joint names vs a) → Tells (λ σ. Makes σ 0 p t) (staying names vs) (Some (joint names vs a)) → Says (joint names vs a) (staying names vs) × Makes (joint names vs a) 0 p t
itself names vs p t a h k = k.0 (joint names vs a) (holding_typed (joint names vs a).types (joint names vs a).terms (joint names vs a).terms h.1) (holding_says (joint names vs a) h)

fits : (names : List (List ℕ)) (vs : List (List ℕ × TypeTree)) (p t : Nameless) (a : InstanceValue) → Holds (joint names vs a) → Says (joint names vs a) (staying names vs) × Makes (joint names vs a) 0 p t → IsMatch (staying names vs) p t a
fits names vs p t a h k = record {
  typed = holding_typed a.types (joint names vs a).terms a.terms (terms_after names vs a h);
  left = (gives_types_as a (joint names vs a) (staying names vs).types (types_as names vs a h) k.0.0, gives_terms_as a (joint names vs a) (staying names vs).terms (terms_as names vs a h) k.0.1);
  gives = ap strip (sym (same_instance names vs a p h)) ∙ k.1;
}

pub most_general : (names : List (List ℕ)) (vs : List (List ℕ × TypeTree)) (p t : Nameless) (a : InstanceValue) → matched 0 p (staying names vs) t ≡ Some (joint names vs a) → IsMostGeneral (staying names vs) p t a
most_general names vs p t a e =
    let h : Holds (joint names vs a) = joint_holds names vs p t a e in
    let k : Tells (λ σ. Makes σ 0 p t) (staying names vs) (Some (joint names vs a)) = joint_tells names vs p t a e in
    record {
      fits = fits names vs p t a h (itself names vs p t a h k);
      least = λ b m.
          let s : Says b (joint names vs a) = k.1 b m.typed m.left m.gives in
          ((types.gives_before b (staying names vs).types a.types s.0).1, (gives_before b (staying names vs).terms a.terms s.1).1);
    }

pub found_is_general : (terms : List Nameless) (p t : Nameless) (a : InstanceValue) → matched 0 p (stays_of terms) t ≡ Some (both (stays_of terms) a) → IsMostGeneral (stays_of terms) p t a
found_is_general terms p t a m = most_general (fixed_names [] terms) (fixed_variables [] terms) p t a m

pub none_is_missing : (terms : List Nameless) (p t : Nameless) → matched 0 p (stays_of terms) t ≡ None → HasNoMatch (stays_of terms) p t
none_is_missing terms p t m = λ b h. subst (Tells (λ σ. Makes σ 0 p t) (stays_of terms)) m (matched_tells 0 p (stays_of terms) t) b h.typed h.left h.gives

pub ruleset answers = (found_is_general, none_is_missing)
