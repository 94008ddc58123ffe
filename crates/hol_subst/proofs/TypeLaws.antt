-- Types of terms that were closed, or in which terms or types were substituted.
use Rattle.std.proofs.Common.{◌≡◌, ℕ, zero, suc, ◌+◌, ◌-◌, ◌<◌, ◌≤◌, List, [], ◌∷◌, ◌++◌, length, refl, ap, sym, ◌∙◌, Bool, true, false, cond, nat_lt, ◌==◌, Some, unwrap_or, inl, inr, slice_get, arith}
use Rattle.std.specs.Option.{option_map}
use Rattle.hol_types.specs.Tree.{TypeTree}
use Rattle.hol_types.specs.Fun.{fun_type}
use Rattle.hol_types.specs.Equal.{variable_eq}
use Rattle.hol_terms.specs.Named.{Named, var, constant, comb, abs}
use Rattle.hol_terms.specs.Nameless.{Nameless, free, bound, fixed, app, lam, nameless, nameless_type}
use Rattle.hol_terms.proofs.Same.{variable_eq_decides}
use Rattle.hol_terms.proofs.Typing.{type_outside}
use Rattle.hol_subst.specs.Pairs.{nameless_pairs, HasBadPair, pair_before}
use Rattle.hol_subst.proofs.Rest.{not_bad}
use Rattle.hol_subst.specs.Shift.{shift}
use Rattle.hol_subst.specs.Closing.{close, open_with, bind}
use Rattle.hol_subst.specs.Substitution.{term_lookup, term_for}
use Rattle.hol_subst.proofs.Closing.{IsClosed, closed_more, shift_whole, below, below_is, not_below_is, equal_test}
use Rattle.hol_subst.proofs.Typing.{typed_closed, type_whole, AllTyped}
-- cited beside these laws
pub use Rattle.hol_subst.proofs.TypesInst.{inst_type}

-- pairs of which each term has its variable's type
abbrev pub PairsFit : List (Nameless × (List ℕ × TypeTree)) → Type 0
PairsFit [] = Unit {0}
PairsFit (p ∷ pairs) = (nameless_type [] p.0 ≡ Some p.1.1) × PairsFit pairs

pub pairs_typed : (pairs : List (Nameless × (List ℕ × TypeTree))) → PairsFit pairs → AllTyped pairs
pairs_typed [] h w = refl
pairs_typed (p ∷ pairs) h w = by (variable_eq p.1 w) refl (pairs_typed pairs h.1 w)
  where
    by : (b : Bool) → variable_eq p.1 w ≡ b → nameless_type [] (term_for pairs w) ≡ Some w.1 → nameless_type [] (unwrap_or (cond b (Some p.0) (term_lookup pairs w)) (free w)) ≡ Some w.1
    by true q r = h.0 ∙ ap (λ x. Some x.1) ((variable_eq_decides p.1 w).0 q)
    by false q r = r

-- ---- closing and opening
pub get_front : (env : List TypeTree) (s : TypeTree) (i : ℕ) → i < length env → slice_get (env ++ s ∷ []) i ≡ slice_get env i
get_front [] s i l = absurd (omega arith)
get_front (t ∷ env) s zero l = refl
get_front (t ∷ env) s (suc i) l = get_front env s i (omega arith)

pub get_end : (env : List TypeTree) (s : TypeTree) → slice_get (env ++ s ∷ []) (length env) ≡ Some s
get_end [] s = refl
get_end (t ∷ env) s = get_end env s

-- the type under the binders env and one more outside them
pub close_type : (v : List ℕ × TypeTree) (env : List TypeTree) (n : Nameless) → IsClosed (length env) n → nameless_type (env ++ v.1 ∷ []) (close v (length env) n) ≡ nameless_type env n
close_type v env (free w) c = by (variable_eq v w) refl
  where
    by : (b : Bool) → variable_eq v w ≡ b → nameless_type (env ++ v.1 ∷ []) (cond b (bound (length env)) (free w)) ≡ Some w.1
    by true e = get_end env v.1 ∙ ap (λ x. Some x.1) ((variable_eq_decides v w).0 e)
    by false e = refl
close_type v env (bound i) c = rw (below i (length env) c) (get_front env v.1 i c)
close_type v env (fixed d t) c = refl
close_type v env (app f x) c = rw (close_type v env f c.0, close_type v env x c.1) refl
close_type v env (lam a t b) c =
    let e : length env + 1 ≡ length (t ∷ env) = omega arith in
    ap (option_map (λ r. fun_type t r)) (ap (λ k. nameless_type (t ∷ (env ++ v.1 ∷ [])) (close v k b)) e ∙ close_type v (t ∷ env) b (closed_more (length env + 1) (length (t ∷ env)) b (omega arith) c))

-- the abstraction of v in n is a function of v's type
pub bind_type : (v : List ℕ × TypeTree) (n : Nameless) (s : TypeTree) → nameless_type [] n ≡ Some s → nameless_type [] (bind v n) ≡ Some (fun_type v.1 s)
bind_type v n s e = ap (option_map (λ r. fun_type v.1 r)) (close_type v [] n (typed_closed [] n s e) ∙ e)

-- a body opened with a term of the binder's type keeps its type
pub open_type : (r : Nameless) (s : TypeTree) (env : List TypeTree) (n : Nameless) → nameless_type [] r ≡ Some s → IsClosed (length env + 1) n → nameless_type env (open_with r (length env) n) ≡ nameless_type (env ++ s ∷ []) n
open_type r s env (free w) h c = refl
open_type r s env (bound i) h c = by (nat_lt i (length env)) refl
  where
    by : (b : Bool) → nat_lt i (length env) ≡ b → nameless_type env (cond b (bound i) (cond (i == length env) (shift (length env) 0 r) (bound (i - 1)))) ≡ slice_get (env ++ s ∷ []) i
    by true e = sym (get_front env s i (below_is i (length env) e))
    by false e =
        let l : length env ≤ i = not_below_is i (length env) e in
        let same : i ≡ length env = omega arith in
        let whole : IsClosed 0 r = typed_closed [] r s h in
        let at_end : slice_get (env ++ s ∷ []) i ≡ Some s = ap (slice_get (env ++ s ∷ [])) same ∙ get_end env s in
        rw (equal_test i (length env) same) (ap (nameless_type env) (shift_whole (length env) 0 r whole) ∙ type_whole env r whole ∙ h ∙ sym at_end)
open_type r s env (fixed d t) h c = refl
open_type r s env (app f x) h c = rw (open_type r s env f h c.0, open_type r s env x h c.1) refl
open_type r s env (lam a t b) h c =
    let e : length env + 1 ≡ length (t ∷ env) = omega arith in
    ap (option_map (λ u. fun_type t u)) (ap (λ k. nameless_type (t ∷ env) (open_with r k b)) e ∙ open_type r s (t ∷ env) b h (closed_more (length env + 1 + 1) (length (t ∷ env) + 1) b (omega arith) c))

-- pairs that are good as a caller hands them in fit as nameless terms
pub good_pairs_fit : (pairs : List (Named × Named)) → (HasBadPair pairs → ⊥) → PairsFit (nameless_pairs pairs)
good_pairs_fit [] h = tt
good_pairs_fit (p ∷ pairs) h = by p.1 refl (good_pairs_fit pairs (λ b. h (inr b)))
  where
    by : (u : Named) → p.1 ≡ u → PairsFit (nameless_pairs pairs) → PairsFit (pair_before (nameless [] p.0) u (nameless_pairs pairs))
    by (var v) q r = (type_outside p.0 ∙ not_bad p v q (λ b. h (inl b)), r)
    by (constant c s) q r = r
    by (comb f x) q r = r
    by (abs v b) q r = r
