-- Matching under one binder more: where a free variable of a term is bound outside, a match of the closed term is the closed match.
use Rattle.std.proofs.Common.{◌≡◌, ℕ, zero, suc, ◌+◌, ◌-◌, ◌<◌, ◌≤◌, List, [], ◌∷◌, ◌++◌, map, length, refl, ap, sym, ◌∙◌, Bool, true, false, cond, ◌==◌, nat_lt, bytes_eq, Option, Some, None, slice_get, arith}
use Rattle.std.specs.Option.{option_map, option_and_then}
use Rattle.std.proofs.lemmas.Bool.Decides.{nat_tests}
use Rattle.std.proofs.lemmas.List.{map-append}
use Rattle.hol_subst.proofs.TypeLaws.{get_front, get_end}
use Rattle.hol_types.specs.Tree.{TypeTree}
use Rattle.hol_types.specs.Fun.{fun_type}
use Rattle.hol_types.specs.Match.{match_type}
use Rattle.hol_types.specs.Equal.{variable_eq}
use Rattle.hol_terms.specs.Nameless.{Nameless, free, bound, fixed, app, lam, nameless_type}
use Rattle.hol_terms.specs.Alpha.{strip, alpha_eq}
use Rattle.hol_terms.proofs.Alpha.{alpha_eq_decides}
use Rattle.hol_terms.proofs.Same.{variable_eq_decides}
use Rattle.hol_subst.specs.Closing.{close, open_with}
use Rattle.hol_subst.specs.Substitution.{term_lookup}
use Rattle.hol_subst.proofs.Closing.{IsClosed, below, not_below, below_is, not_below_is, open_close}
use Rattle.hol_subst.proofs.Strip.{strip_close}
use Rattle.hol_formulas.specs.Equation.{dest_comb}
use Rattle.hol_formulas.specs.Formula.{dest_abs}
use Rattle.hol_match.specs.Instance.{InstanceValue, instance_of}
use Rattle.hol_match.specs.Lowering.{lowered, lowered_index}
use Rattle.hol_match.specs.Matching.{taken, with_type, variable_takes, variable_meets_under, constant_meets, matched_under}

abbrev Var : Type 0
Var = List ℕ × TypeTree

abbrev pub closed_terms : List ℕ × TypeTree → ℕ → List (Nameless × (List ℕ × TypeTree)) → List (Nameless × (List ℕ × TypeTree))
closed_terms v j ps = map (λ (p : Nameless × (List ℕ × TypeTree)). (close v j p.0, p.1)) ps

-- v bound in all terms of the instance
abbrev pub closed : List ℕ × TypeTree → ℕ → InstanceValue → InstanceValue
closed v j a = instance_of a.types (closed_terms v j a.terms)

-- ---- parts of the term
pub lookup_closed : (v : List ℕ × TypeTree) (j : ℕ) (ps : List (Nameless × (List ℕ × TypeTree))) (w : List ℕ × TypeTree) → term_lookup (closed_terms v j ps) w ≡ option_map (close v j) (term_lookup ps w)
lookup_closed v j [] w = refl
lookup_closed v j (p ∷ ps) w = by (variable_eq p.1 w) (lookup_closed v j ps w)
  where
    by : (b : Bool) → term_lookup (closed_terms v j ps) w ≡ option_map (close v j) (term_lookup ps w) → cond b (Some (close v j p.0)) (term_lookup (closed_terms v j ps) w) ≡ option_map (close v j) (cond b (Some p.0) (term_lookup ps w))
    by true e = refl
    by false e = e

index_lowered : (v : Var) (n k j i : ℕ) → k ≤ j → lowered n k (close v (j + n) (bound i)) ≡ option_map (close v j) (lowered n k (bound i))
index_lowered v n k j i h = by (nat_lt i k) refl (nat_lt i (k + n)) refl (nat_lt i (j + n)) refl
  where
    by : (a : Bool) → nat_lt i k ≡ a → (b : Bool) → nat_lt i (k + n) ≡ b → (c : Bool) → nat_lt i (j + n) ≡ c → lowered_index n k (cond c i (i + 1)) ≡ option_map (close v j) (cond a (Some (bound i)) (cond b None (Some (bound (i - n)))))
    by true p b q true r = let low : i < k = below_is i k p in rw (p, below i j (omega arith)) refl
    by true p b q false r = let low : i < k = below_is i k p in let high : j + n ≤ i = not_below_is i (j + n) r in absurd (omega arith)
    by false p true q true r = rw (p, q) refl
    by false p true q false r = let low : i < k + n = below_is i (k + n) q in let high : j + n ≤ i = not_below_is i (j + n) r in absurd (omega arith)
    by false p false q true r =
        let low : i < j + n = below_is i (j + n) r in
        let high : k + n ≤ i = not_below_is i (k + n) q in
        rw (p, q, below (i - n) j (omega arith)) refl
    by false p false q false r =
        let high : k + n ≤ i = not_below_is i (k + n) q in
        let above : j + n ≤ i = not_below_is i (j + n) r in
        rw (not_below (i + 1) k (omega arith), not_below (i + 1) (k + n) (omega arith), not_below (i - n) j (omega arith)) (ap (λ m. Some (bound m)) (omega arith))

app_lowered : (c : Nameless → Nameless) (d : Nameless → Nameless) → ((g y : Nameless) → c (app g y) ≡ app (d g) (d y)) → (o p : Option Nameless) → option_and_then (λ g. option_map (λ y. app g y) (option_map d p)) (option_map d o) ≡ option_map c (option_and_then (λ g. option_map (λ y. app g y) p) o)
app_lowered c d e None p = refl
app_lowered c d e (Some g) None = refl
app_lowered c d e (Some g) (Some y) = ap Some (sym (e g y))

lam_lowered : (c : Nameless → Nameless) (d : Nameless → Nameless) (a : List ℕ) (s : TypeTree) → ((b : Nameless) → c (lam a s b) ≡ lam a s (d b)) → (o : Option Nameless) → option_map (λ b. lam a s b) (option_map d o) ≡ option_map c (option_map (λ b. lam a s b) o)
lam_lowered c d a s e None = refl
lam_lowered c d a s e (Some b) = ap Some (sym (e b))

pub lowered_close : (v : List ℕ × TypeTree) (n k j : ℕ) (t : Nameless) → k ≤ j → lowered n k (close v (j + n) t) ≡ option_map (close v j) (lowered n k t)
lowered_close v n k j (free w) h = by (variable_eq v w)
  where
    by : (c : Bool) → lowered n k (cond c (bound (j + n)) (free w)) ≡ Some (cond c (bound j) (free w))
    by true = rw (not_below (j + n) k (omega arith), not_below (j + n) (k + n) (omega arith)) (ap (λ m. Some (bound m)) (omega arith))
    by false = refl
lowered_close v n k j (bound i) h = index_lowered v n k j i h
lowered_close v n k j (fixed c s) h = refl
lowered_close v n k j (app f x) h =
    (λ i. option_and_then (λ g. option_map (λ y. app g y) (lowered_close v n k j x h i)) (lowered_close v n k j f h i))
    ∙ app_lowered (close v j) (close v j) (λ g y. refl) (lowered n k f) (lowered n k x)
lowered_close v n k j (lam a s b) h =
    let m : j + n + 1 ≡ j + 1 + n = omega arith in
    ap (λ z. option_map (λ d. lam a s d) (lowered n (k + 1) (close v z b))) m
    ∙ ap (option_map (λ d. lam a s d)) (lowered_close v n (k + 1) (j + 1) b (omega arith))
    ∙ lam_lowered (close v j) (close v (j + 1)) a s (λ d. refl) (lowered n (k + 1) b)

unclose : (v : Var) (k : ℕ) (m n : Nameless) → close v k m ≡ close v k n → m ≡ n
unclose v k m n e = sym (open_close v k m) ∙ ap (open_with (free v) k) e ∙ open_close v k n

pub alpha_close : (v : List ℕ × TypeTree) (k : ℕ) (m n : Nameless) → alpha_eq (close v k m) (close v k n) ≡ alpha_eq m n
alpha_close v k m n = by (alpha_eq (close v k m) (close v k n)) refl (alpha_eq m n) refl
  where
    inner : strip (close v k m) ≡ strip (close v k n) → strip m ≡ strip n
    inner e = unclose v k (strip m) (strip n) (sym (strip_close v k m) ∙ e ∙ strip_close v k n)

    outer : strip m ≡ strip n → strip (close v k m) ≡ strip (close v k n)
    outer e = strip_close v k m ∙ ap (close v k) e ∙ sym (strip_close v k n)

    by : (a : Bool) → alpha_eq (close v k m) (close v k n) ≡ a → (b : Bool) → alpha_eq m n ≡ b → a ≡ b
    by true p true q = refl
    by false p false q = refl
    by true p false q = sym ((alpha_eq_decides m n).1 (inner ((alpha_eq_decides (close v k m) (close v k n)).0 p))) ∙ q
    by false p true q = sym p ∙ (alpha_eq_decides (close v k m) (close v k n)).1 (outer ((alpha_eq_decides m n).0 q))

pub get_past : (env : List TypeTree) (s : TypeTree) (i : ℕ) → length env ≤ i → slice_get (env ++ s ∷ []) (suc i) ≡ slice_get env i
get_past [] s zero l = refl
get_past [] s (suc i) l = refl
get_past (t ∷ env) s zero l = absurd (omega arith)
get_past (t ∷ env) s (suc i) l = get_past env s i (omega arith)

pub type_close : (v : List ℕ × TypeTree) (env : List TypeTree) (n : Nameless) → nameless_type (env ++ v.1 ∷ []) (close v (length env) n) ≡ nameless_type env n
type_close v env (free w) = by (variable_eq v w) refl
  where
    by : (b : Bool) → variable_eq v w ≡ b → nameless_type (env ++ v.1 ∷ []) (cond b (bound (length env)) (free w)) ≡ Some w.1
    by true e = get_end env v.1 ∙ ap (λ x. Some x.1) ((variable_eq_decides v w).0 e)
    by false e = refl
type_close v env (bound i) = by (nat_lt i (length env)) refl
  where
    by : (b : Bool) → nat_lt i (length env) ≡ b → slice_get (env ++ v.1 ∷ []) (cond b i (i + 1)) ≡ slice_get env i
    by true e = get_front env v.1 i (below_is i (length env) e)
    by false e =
        let m : i + 1 ≡ suc i = omega arith in
        ap (slice_get (env ++ v.1 ∷ [])) m ∙ get_past env v.1 i (not_below_is i (length env) e)
type_close v env (fixed d t) = refl
type_close v env (app f x) = rw (type_close v env f, type_close v env x) refl
type_close v env (lam a t b) =
    let e : length env + 1 ≡ length (t ∷ env) = omega arith in
    ap (option_map (λ r. fun_type t r)) (ap (λ k. nameless_type (t ∷ (env ++ v.1 ∷ [])) (close v k b)) e ∙ type_close v (t ∷ env) b)

-- ---- parts of the pattern
type_closed : (v : Var) (j : ℕ) (s t : TypeTree) (found : InstanceValue) → with_type s (closed v j found) t ≡ option_map (closed v j) (with_type s found t)
type_closed v j s t found = by (match_type s found.types t)
  where
    by : (o : Option (List (TypeTree × List ℕ))) → option_map (λ types. instance_of types (closed_terms v j found.terms)) o ≡ option_map (closed v j) (option_map (λ types. instance_of types found.terms) o)
    by None = refl
    by (Some types) = refl

taken_closed : (v : Var) (j : ℕ) (found : InstanceValue) (w : Var) (u : Nameless) (o : Option Nameless) → taken (option_map (close v j) o) (closed v j found) w (close v j u) ≡ option_map (closed v j) (taken o found w u)
taken_closed v j found w u None = ap (λ ps. Some (instance_of found.types ps)) (sym (map-append (λ (p : Nameless × Var). (close v j p.0, p.1)) found.terms ((u, w) ∷ [])))
taken_closed v j found w u (Some s) = ap (λ b. cond b (Some (closed v j found)) None) (alpha_close v j s u) ∙ by (alpha_eq s u)
  where
    by : (b : Bool) → cond b (Some (closed v j found)) None ≡ option_map (closed v j) (cond b (Some found) None)
    by true = refl
    by false = refl

takes_closed : (v : Var) (j : ℕ) (w : Var) (u : Nameless) (s : TypeTree) (found : InstanceValue) → variable_takes w (closed v j found) (close v j u) s ≡ option_map (closed v j) (variable_takes w found u s)
takes_closed v j w u s found = by (match_type w.1 found.types s)
  where
    take : InstanceValue → Nameless → Option InstanceValue
    take more z = taken (term_lookup more.terms (w.0, s)) more (w.0, s) z

    by : (o : Option (List (TypeTree × List ℕ))) → option_and_then (λ more. taken (term_lookup more.terms (w.0, s)) more (w.0, s) (close v j u)) (option_map (λ types. instance_of types (closed_terms v j found.terms)) o) ≡ option_map (closed v j) (option_and_then (λ more. taken (term_lookup more.terms (w.0, s)) more (w.0, s) u) (option_map (λ types. instance_of types found.terms) o))
    by None = refl
    by (Some types) =
        let more : InstanceValue = instance_of types found.terms in
        ap (λ o. taken o (closed v j more) (w.0, s) (close v j u)) (lookup_closed v j found.terms (w.0, s)) ∙ taken_closed v j more (w.0, s) u (term_lookup found.terms (w.0, s))

meets_closed : (v : Var) (env : List TypeTree) (w : Var) (u : Nameless) (found : InstanceValue) → variable_meets_under (env ++ v.1 ∷ []) w (closed v (length env) found) (close v (length env) u) ≡ option_map (closed v (length env)) (variable_meets_under env w found u)
meets_closed v env w u found = ap (option_and_then (λ s. variable_takes w (closed v (length env) found) (close v (length env) u) s)) (type_close v env u) ∙ by (nameless_type env u)
  where
    by : (o : Option TypeTree) → option_and_then (λ s. variable_takes w (closed v (length env) found) (close v (length env) u) s) o ≡ option_map (closed v (length env)) (option_and_then (λ s. variable_takes w found u s) o)
    by None = refl
    by (Some s) = takes_closed v (length env) w u s found

variable_closed : (v : Var) (env : List TypeTree) (w : Var) (found : InstanceValue) (o : Option Nameless) → option_and_then (λ u. variable_meets_under (env ++ v.1 ∷ []) w (closed v (length env) found) u) (option_map (close v (length env)) o) ≡ option_map (closed v (length env)) (option_and_then (λ u. variable_meets_under env w found u) o)
variable_closed v env w found None = refl
variable_closed v env w found (Some u) = meets_closed v env w u found

test_closed : (v : Var) (j : ℕ) (found : InstanceValue) (b : Bool) → cond b (Some (closed v j found)) None ≡ option_map (closed v j) (cond b (Some found) None)
test_closed v j found true = refl
test_closed v j found false = refl

bound_closed : (v : Var) (i m : ℕ) (t : Nameless) → i < m → alpha_eq (bound i) (close v m t) ≡ alpha_eq (bound i) t
bound_closed v i m (free w) h = by (variable_eq v w)
  where
    by : (c : Bool) → alpha_eq (bound i) (cond c (bound m) (free w)) ≡ false
    by true = grind (arith, nat_tests)
    by false = refl
bound_closed v i m (bound l) h = by (nat_lt l m) refl
  where
    by : (c : Bool) → nat_lt l m ≡ c → (i == cond c l (l + 1)) ≡ (i == l)
    by true e = refl
    by false e =
        let high : m ≤ l = not_below_is l m e in
        let p : (i == l + 1) ≡ false = grind (arith, nat_tests) in
        let q : (i == l) ≡ false = grind (arith, nat_tests) in
        p ∙ sym q
bound_closed v i m (fixed c s) h = refl
bound_closed v i m (app f x) h = refl
bound_closed v i m (lam a s b) h = refl

constant_closed : (v : Var) (j m : ℕ) (c : List ℕ) (s : TypeTree) (found : InstanceValue) (t : Nameless) → constant_meets c s (closed v j found) (close v m t) ≡ option_map (closed v j) (constant_meets c s found t)
constant_closed v j m c s found (free w) = by (variable_eq v w)
  where
    by : (b : Bool) → constant_meets c s (closed v j found) (cond b (bound m) (free w)) ≡ None
    by true = refl
    by false = refl
constant_closed v j m c s found (bound i) = refl
constant_closed v j m c s found (fixed d t) = by (bytes_eq c d)
  where
    by : (b : Bool) → cond b (with_type s (closed v j found) t) None ≡ option_map (closed v j) (cond b (with_type s found t) None)
    by true = type_closed v j s t found
    by false = refl
constant_closed v j m c s found (app f x) = refl
constant_closed v j m c s found (lam a t b) = refl

then_closed : (v : Var) (j : ℕ) (o : Option InstanceValue) (go more : InstanceValue → Option InstanceValue) → ((a : InstanceValue) → go (closed v j a) ≡ option_map (closed v j) (more a)) → option_and_then go (option_map (closed v j) o) ≡ option_map (closed v j) (option_and_then more o)
then_closed v j None go more h = refl
then_closed v j (Some a) go more h = h a

-- a variable is no application and no abstraction, closed or not
no_comb : (v w : Var) (m : ℕ) → dest_comb (close v m (free w)) ≡ None
no_comb v w m = by (variable_eq v w)
  where
    by : (c : Bool) → dest_comb (cond c (bound m) (free w)) ≡ None
    by true = refl
    by false = refl

no_abs : (v w : Var) (m : ℕ) → dest_abs (close v m (free w)) ≡ None
no_abs v w m = by (variable_eq v w)
  where
    by : (c : Bool) → dest_abs (cond c (bound m) (free w)) ≡ None
    by true = refl
    by false = refl

-- ---- all of it
pub matched_closed : (v : List ℕ × TypeTree) (env : List TypeTree) (k : ℕ) (p : Nameless) (found : InstanceValue) (t : Nameless) → IsClosed k p → matched_under (env ++ v.1 ∷ []) k p (closed v (length env) found) (close v (length env + k) t) ≡ option_map (closed v (length env)) (matched_under env k p found t)
matched_closed v env k (free w) found t c =
    ap (option_and_then (λ u. variable_meets_under (env ++ v.1 ∷ []) w (closed v (length env) found) u)) (lowered_close v k 0 (length env) t (omega arith))
    ∙ variable_closed v env w found (lowered k 0 t)
matched_closed v env k (bound i) found t c =
    ap (λ b. cond b (Some (closed v (length env) found)) None) (bound_closed v i (length env + k) t (omega (arith, c))) ∙ test_closed v (length env) found (alpha_eq (bound i) t)
matched_closed v env k (fixed d s) found t c = constant_closed v (length env) (length env + k) d s found t
matched_closed v env k (app f x) found (app g y) c =
    ap (option_and_then (λ more. matched_under (env ++ v.1 ∷ []) k x more (close v (length env + k) y))) (matched_closed v env k f found g c.0)
    ∙ then_closed v (length env) (matched_under env k f found g) (λ more. matched_under (env ++ v.1 ∷ []) k x more (close v (length env + k) y)) (λ more. matched_under env k x more y)
    (λ a. matched_closed v env k x a y c.1)
matched_closed v env k (app f x) found (free w) c =
    ap (option_and_then (λ q. option_and_then (λ more. matched_under (env ++ v.1 ∷ []) k x more q.1) (matched_under (env ++ v.1 ∷ []) k f (closed v (length env) found) q.0))) (no_comb v w (length env + k))
matched_closed v env k (app f x) found (bound i) c = refl
matched_closed v env k (app f x) found (fixed d s) c = refl
matched_closed v env k (app f x) found (lam a s b) c = refl
matched_closed v env k (lam a s p) found (lam d u b) c =
    let m : length env + k + 1 ≡ length env + (k + 1) = omega arith in
    ap (option_and_then (λ more. matched_under (env ++ v.1 ∷ []) (k + 1) p more (close v (length env + k + 1) b))) (type_closed v (length env) s u found)
    ∙ then_closed v (length env) (with_type s found u) (λ more. matched_under (env ++ v.1 ∷ []) (k + 1) p more (close v (length env + k + 1) b)) (λ more. matched_under env (k + 1) p more b)
    (λ a. ap (λ z. matched_under (env ++ v.1 ∷ []) (k + 1) p (closed v (length env) a) (close v z b)) m ∙ matched_closed v env (k + 1) p a b c)
matched_closed v env k (lam a s p) found (free w) c =
    ap (option_and_then (λ q. option_and_then (λ more. matched_under (env ++ v.1 ∷ []) (k + 1) p more q.body) (with_type s (closed v (length env) found) q.domain))) (no_abs v w (length env + k))
matched_closed v env k (lam a s p) found (bound i) c = refl
matched_closed v env k (lam a s p) found (fixed d u) c = refl
matched_closed v env k (lam a s p) found (app f x) c = refl
