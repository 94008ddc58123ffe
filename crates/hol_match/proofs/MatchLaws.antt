-- What matching finds is a most general match, and where it finds nothing there is none.
use Rattle.std.proofs.Common.{◌≡◌, ℕ, ◌+◌, List, [], ◌∷◌, ◌++◌, refl, sym, ap, ◌∙◌, Bool, true, false, cond, bytes_eq, Option, Some, None}
use Rattle.std.specs.Option.{option_map, option_and_then}
use Rattle.std.proofs.lemmas.Slice.Eq.{bytes_eq-Decides}
use Rattle.hol_kernel.proofs.Sound.{strip_type}
use Rattle.hol_types.specs.Tree.{TypeTree}
use Rattle.hol_types.specs.Subst.{type_subst}
use Rattle.hol_types.specs.Match.{match_type}
use Rattle.hol_types.specs.Equal.{variable_eq}
use Rattle.hol_terms.specs.Nameless.{Nameless, free, bound, fixed, app, lam, nameless_type}
use Rattle.hol_terms.specs.Alpha.{strip, alpha_eq}
use Rattle.hol_terms.proofs.Alpha.{alpha_eq_decides}
use Rattle.hol_terms.proofs.Same.{variable_eq_decides}
use Rattle.hol_subst.specs.Substitution.{term_lookup, term_for, variable_inst}
use Rattle.hol_match.specs.Instance.{InstanceValue, instance_of, instantiated}
use Rattle.hol_match.specs.Lowering.{lowered}
use Rattle.hol_match.specs.Matching.{taken, with_type, variable_takes, variable_meets, constant_meets, matched}
use Rattle.hol_match.specs.Matches.{IsWellTyped, GivesTerms, Says}
use Rattle.hol_match.proofs.Lowering.{place_says, place_makes, place_none}
use Rattle.hol_match.proofs.TypeMatches.{IsTypeAnswer, type_answer}

-- the answer o says what the instances say that say what was found before and do P
abbrev pub Tells : (InstanceValue → Type 0) → InstanceValue → Option InstanceValue → Type 0
Tells P found None = (σ : InstanceValue) → IsWellTyped σ → Says σ found → P σ → ⊥
Tells P found (Some q) = ((σ : InstanceValue) → IsWellTyped σ → Says σ q → Says σ found × P σ) × ((σ : InstanceValue) → IsWellTyped σ → Says σ found → P σ → Says σ q)

tells_as : (P Q : InstanceValue → Type 0) (found : InstanceValue) (o : Option InstanceValue) → ((σ : InstanceValue) → IsWellTyped σ → P σ → Q σ) → ((σ : InstanceValue) → IsWellTyped σ → Q σ → P σ) → Tells P found o → Tells Q found o
tells_as P Q found None f g h = λ σ w s q. h σ w s (g σ w q)
tells_as P Q found (Some r) f g h = (λ σ w s. let u = h.0 σ w s in (u.0, f σ w u.1), λ σ w s q. h.1 σ w s (g σ w q))

tells_both : (P Q : InstanceValue → Type 0) (found : InstanceValue) (o : Option InstanceValue) (go : InstanceValue → Option InstanceValue) → Tells P found o → ((more : InstanceValue) → Tells Q more (go more)) → Tells (λ σ. P σ × Q σ) found (option_and_then go o)
tells_both P Q found None go h k = λ σ w s pq. h σ w s pq.0
tells_both P Q found (Some r) go h k = by (go r) (k r)
  where
    by : (o : Option InstanceValue) → Tells Q r o → Tells (λ σ. P σ × Q σ) found o
    by None l = λ σ w s pq. l σ w (h.1 σ w s pq.0) pq.1
    by (Some x) l = (
      λ σ w s. let u = l.0 σ w s in let t = h.0 σ w u.0 in (t.0, (t.1, u.1)),
      λ σ w s pq. l.1 σ w (h.1 σ w s pq.0) pq.1,
    )

-- ---- types

tells_type : (s t : TypeTree) (found : InstanceValue) → Tells (λ σ. type_subst σ.types s ≡ t) found (with_type s found t)
tells_type s t found = by (match_type s found.types t) (type_answer s found.types t)
  where
    by : (o : Option (List (TypeTree × List ℕ))) → IsTypeAnswer found.types s t o → Tells (λ σ. type_subst σ.types s ≡ t) found (option_map (λ types. instance_of types found.terms) o)
    by None h = λ σ w g e. h σ g.0 e
    by (Some qs) h = (
      λ σ w g. let r = h.0 σ g.0 in ((r.0, g.1), r.1),
      λ σ w g e. (h.1 σ g.0 e, g.1),
    )

-- ---- terms

lookup_gives : (σ : InstanceValue) (found : List (Nameless × (List ℕ × TypeTree))) (v : List ℕ × TypeTree) (s : Nameless) → term_lookup found v ≡ Some s → GivesTerms σ found → strip (term_for σ.terms v) ≡ strip s
lookup_gives σ [] v s e h = absurd (cc)
lookup_gives σ (p ∷ found) v s e h = by (variable_eq p.1 v) refl (λ f. lookup_gives σ found v s f h.1)
  where
    by : (b : Bool) → variable_eq p.1 v ≡ b → (term_lookup found v ≡ Some s → strip (term_for σ.terms v) ≡ strip s) → strip (term_for σ.terms v) ≡ strip s
    by true q r =
        let n : p.1 ≡ v = (variable_eq_decides p.1 v).0 q in
        let f : Some p.0 ≡ Some s = rw q at e in
        let g : p.0 ≡ s = cc in
        sym (ap (λ w. strip (term_for σ.terms w)) n) ∙ h.0 ∙ ap strip g
    by false q r = r (rw q at e)

pub gives_before : (σ : InstanceValue) (xs ys : List (Nameless × (List ℕ × TypeTree))) → GivesTerms σ (xs ++ ys) → GivesTerms σ xs × GivesTerms σ ys
gives_before σ [] ys h = (tt, h)
gives_before σ (x ∷ xs) ys h = let r = gives_before σ xs ys h.1 in ((h.0, r.0), r.1)

gives_both : (σ : InstanceValue) (xs ys : List (Nameless × (List ℕ × TypeTree))) → GivesTerms σ xs → GivesTerms σ ys → GivesTerms σ (xs ++ ys)
gives_both σ [] ys h k = k
gives_both σ (x ∷ xs) ys h k = (h.0, gives_both σ xs ys h.1 k)

-- the variable v takes u
tells_taken : (v : List ℕ × TypeTree) (u : Nameless) (found : InstanceValue) (o : Option Nameless) → term_lookup found.terms v ≡ o → Tells (λ σ. strip (term_for σ.terms v) ≡ strip u) found (taken o found v u)
tells_taken v u found None e = (
  λ σ w g. let r = gives_before σ found.terms ((u, v) ∷ []) g.1 in ((g.0, r.0), r.1.0),
  λ σ w g q. (g.0, gives_both σ found.terms ((u, v) ∷ []) g.1 (q, tt)),
)
tells_taken v u found (Some s) e = by (alpha_eq s u) refl
  where
    by : (b : Bool) → alpha_eq s u ≡ b → Tells (λ σ. strip (term_for σ.terms v) ≡ strip u) found (cond b (Some found) None)
    by true f = (λ σ w g. (g, lookup_gives σ found.terms v s e g.1 ∙ (alpha_eq_decides s u).0 f), λ σ w g q. g)
    by false f = λ σ w g q. let z : true ≡ false = sym ((alpha_eq_decides s u).1 (sym (lookup_gives σ found.terms v s e g.1) ∙ q)) ∙ f in cc

tells_takes : (v : List ℕ × TypeTree) (u : Nameless) (s : TypeTree) (found : InstanceValue) → Tells (λ σ. (type_subst σ.types v.1 ≡ s) × (strip (term_for σ.terms (v.0, s)) ≡ strip u)) found (variable_takes v found u s)
tells_takes v u s found =
    tells_both (λ σ. type_subst σ.types v.1 ≡ s) (λ σ. strip (term_for σ.terms (v.0, s)) ≡ strip u) found (with_type v.1 found s)
    (λ more. taken (term_lookup more.terms (v.0, s)) more (v.0, s) u) (tells_type v.1 s found)
    (λ more. tells_taken (v.0, s) u more (term_lookup more.terms (v.0, s)) refl)

-- what a well typed instance gives for v has v's type
same_type : (σ : InstanceValue) (v : List ℕ × TypeTree) (u : Nameless) → IsWellTyped σ → strip (term_for σ.terms (variable_inst σ.types v)) ≡ strip u → nameless_type [] u ≡ Some (type_subst σ.types v.1)
same_type σ v u w e = sym (strip_type [] u) ∙ ap (nameless_type []) (sym e) ∙ strip_type [] (term_for σ.terms (variable_inst σ.types v)) ∙ w (variable_inst σ.types v)

tells_meets : (v : List ℕ × TypeTree) (u : Nameless) (found : InstanceValue) → Tells (λ σ. strip (term_for σ.terms (variable_inst σ.types v)) ≡ strip u) found (variable_meets v found u)
tells_meets v u found = by (nameless_type [] u) refl
  where
    by : (o : Option TypeTree) → nameless_type [] u ≡ o → Tells (λ σ. strip (term_for σ.terms (variable_inst σ.types v)) ≡ strip u) found (option_and_then (λ s. variable_takes v found u s) o)
    by None e = λ σ w g q. let z : Some (type_subst σ.types v.1) ≡ None = sym (same_type σ v u w q) ∙ e in absurd (cc)
    by (Some s) e =
        tells_as (λ σ. (type_subst σ.types v.1 ≡ s) × (strip (term_for σ.terms (v.0, s)) ≡ strip u)) (λ σ. strip (term_for σ.terms (variable_inst σ.types v)) ≡ strip u) found (variable_takes v found u s)
        (λ σ w p. ap (λ t. strip (term_for σ.terms (v.0, t))) p.0 ∙ p.1)
        (λ σ w q.
        let z : Some (type_subst σ.types v.1) ≡ Some s = sym (same_type σ v u w q) ∙ e in
        let t : type_subst σ.types v.1 ≡ s = cc in
        (t, ap (λ x. strip (term_for σ.terms (v.0, x))) (sym t) ∙ q))
        (tells_takes v u s found)

-- ---- parts of the pattern

-- the instance makes the pattern's part, k binders down, the term's
abbrev pub Makes : InstanceValue → ℕ → Nameless → Nameless → Type 0
Makes σ k p t = strip (instantiated σ k p) ≡ strip t

tells_variable : (k : ℕ) (v : List ℕ × TypeTree) (t : Nameless) (found : InstanceValue) (o : Option Nameless) → lowered k 0 t ≡ o → Tells (λ σ. Makes σ k (free v) t) found (option_and_then (λ u. variable_meets v found u) o)
tells_variable k v t found None e = λ σ w g m. place_none (term_for σ.terms (variable_inst σ.types v)) k t e m
tells_variable k v t found (Some u) e =
    tells_as (λ σ. strip (term_for σ.terms (variable_inst σ.types v)) ≡ strip u) (λ σ. Makes σ k (free v) t) found (variable_meets v found u)
    (λ σ w q. place_makes (term_for σ.terms (variable_inst σ.types v)) k t u e q)
    (λ σ w m. place_says (term_for σ.terms (variable_inst σ.types v)) k t u e m)
    (tells_meets v u found)

tells_bound : (k i : ℕ) (t : Nameless) (found : InstanceValue) (b : Bool) → alpha_eq (bound i) t ≡ b → Tells (λ σ. Makes σ k (bound i) t) found (cond b (Some found) None)
tells_bound k i t found true e = (λ σ w g. (g, (alpha_eq_decides (bound i) t).0 e), λ σ w g m. g)
tells_bound k i t found false e = λ σ w g m. let z : true ≡ false = sym ((alpha_eq_decides (bound i) t).1 m) ∙ e in absurd (cc)

tells_fixed : (k : ℕ) (c d : List ℕ) (s t : TypeTree) (found : InstanceValue) (b : Bool) → bytes_eq c d ≡ b → Tells (λ σ. Makes σ k (fixed c s) (fixed d t)) found (cond b (with_type s found t) None)
tells_fixed k c d s t found true e =
    tells_as (λ σ. type_subst σ.types s ≡ t) (λ σ. Makes σ k (fixed c s) (fixed d t)) found (with_type s found t)
    (λ σ w q. λ i. fixed ((bytes_eq-Decides c d).0 e i) (q i))
    (λ σ w m. let q : type_subst σ.types s ≡ t = cc in q)
    (tells_type s t found)
tells_fixed k c d s t found false e = λ σ w g m. let n : c ≡ d = cc in let z : true ≡ false = sym ((bytes_eq-Decides c d).1 n) ∙ e in absurd (cc)

tells_constant : (k : ℕ) (c : List ℕ) (s : TypeTree) (found : InstanceValue) (t : Nameless) → Tells (λ σ. Makes σ k (fixed c s) t) found (constant_meets c s found t)
tells_constant k c s found (free v) = λ σ w g m. absurd (cc)
tells_constant k c s found (bound i) = λ σ w g m. absurd (cc)
tells_constant k c s found (fixed d t) = tells_fixed k c d s t found (bytes_eq c d) refl
tells_constant k c s found (app f x) = λ σ w g m. absurd (cc)
tells_constant k c s found (lam a t b) = λ σ w g m. absurd (cc)

tells_app : (k : ℕ) (p q f x : Nameless) (found : InstanceValue) (o : Option InstanceValue) (go : InstanceValue → Option InstanceValue) → Tells (λ σ. Makes σ k p f) found o → ((more : InstanceValue) → Tells (λ σ. Makes σ k q x) more (go more)) → Tells (λ σ. Makes σ k (app p q) (app f x)) found (option_and_then go o)
tells_app k p q f x found o go h l =
    tells_as (λ σ. Makes σ k p f × Makes σ k q x) (λ σ. Makes σ k (app p q) (app f x)) found (option_and_then go o)
    (λ σ w m. λ i. app (m.0 i) (m.1 i))
    (λ σ w m.
    let a : strip (instantiated σ k p) ≡ strip f = cc in
    let b : strip (instantiated σ k q) ≡ strip x = cc in
    (a, b))
    (tells_both (λ σ. Makes σ k p f) (λ σ. Makes σ k q x) found o go h l)

tells_lam : (k : ℕ) (a c : List ℕ) (s t : TypeTree) (p b : Nameless) (found : InstanceValue) → ((more : InstanceValue) → Tells (λ σ. Makes σ (k + 1) p b) more (matched (k + 1) p more b)) → Tells (λ σ. Makes σ k (lam a s p) (lam c t b)) found (option_and_then (λ more. matched (k + 1) p more b) (with_type s found t))
tells_lam k a c s t p b found l =
    tells_as (λ σ. (type_subst σ.types s ≡ t) × Makes σ (k + 1) p b) (λ σ. Makes σ k (lam a s p) (lam c t b)) found (option_and_then (λ more. matched (k + 1) p more b) (with_type s found t))
    (λ σ w m. λ i. lam [] (m.0 i) (m.1 i))
    (λ σ w m.
    let q : type_subst σ.types s ≡ t = cc in
    let r : strip (instantiated σ (k + 1) p) ≡ strip b = cc in
    (q, r))
    (tells_both (λ σ. type_subst σ.types s ≡ t) (λ σ. Makes σ (k + 1) p b) found (with_type s found t) (λ more. matched (k + 1) p more b) (tells_type s t found) l)

pub matched_tells : (k : ℕ) (p : Nameless) (found : InstanceValue) (t : Nameless) → Tells (λ σ. Makes σ k p t) found (matched k p found t)
matched_tells k (free v) found t = tells_variable k v t found (lowered k 0 t) refl
matched_tells k (bound i) found t = tells_bound k i t found (alpha_eq (bound i) t) refl
matched_tells k (fixed c s) found t = tells_constant k c s found t
matched_tells k (app p q) found (app f x) = tells_app k p q f x found (matched k p found f) (λ more. matched k q more x) (matched_tells k p found f) (λ more. matched_tells k q more x)
matched_tells k (app p q) found (free v) = λ σ w g m. absurd (cc)
matched_tells k (app p q) found (bound i) = λ σ w g m. absurd (cc)
matched_tells k (app p q) found (fixed c s) = λ σ w g m. absurd (cc)
matched_tells k (app p q) found (lam a s b) = λ σ w g m. absurd (cc)
matched_tells k (lam a s p) found (lam c t b) = tells_lam k a c s t p b found (λ more. matched_tells (k + 1) p more b)
matched_tells k (lam a s p) found (free v) = λ σ w g m. absurd (cc)
matched_tells k (lam a s p) found (bound i) = λ σ w g m. absurd (cc)
matched_tells k (lam a s p) found (fixed c t) = λ σ w g m. absurd (cc)
matched_tells k (lam a s p) found (app f x) = λ σ w g m. absurd (cc)
