-- Closing, opening and substitution keep types.
use Rattle.std.proofs.Common.{◌≡◌, ℕ, zero, suc, ◌+◌, ◌<◌, List, [], ◌∷◌, length, refl, ap, ◌∙◌, Option, Some, None, slice_get, arith}
use Rattle.std.specs.Option.{option_map, option_and_then}
use Rattle.hol_types.specs.Tree.{TypeTree}
use Rattle.hol_types.specs.Fun.{fun_type}
use Rattle.hol_terms.specs.Named.{applied_type}
use Rattle.hol_terms.specs.Nameless.{Nameless, free, bound, fixed, app, lam, nameless_type}
use Rattle.hol_subst.specs.Substitution.{term_for, term_subst}
use Rattle.hol_subst.proofs.Closing.{IsClosed, closed_more, shift_whole}

-- a term that has a type under binders has no index that reaches out of them
get_below : (env : List TypeTree) (i : ℕ) (s : TypeTree) → slice_get env i ≡ Some s → i < length env
get_below [] i s e = absurd (cc)
get_below (t ∷ env) zero s e = omega arith
get_below (t ∷ env) (suc i) s e = let h : i < length env = get_below env i s e in omega arith

pub both_parts : (o p : Option TypeTree) (s : TypeTree) → option_and_then (λ a. option_and_then (λ b. applied_type a b) p) o ≡ Some s → (a : TypeTree) × (b : TypeTree) × (o ≡ Some a) × (p ≡ Some b)
both_parts None p s e = absurd (cc)
both_parts (Some a) None s e = absurd (cc)
both_parts (Some a) (Some b) s e = (a, b, refl, refl)

pub mapped_part : (f : TypeTree → TypeTree) (o : Option TypeTree) (s : TypeTree) → option_map f o ≡ Some s → (a : TypeTree) × (o ≡ Some a)
mapped_part f None s e = absurd (cc)
mapped_part f (Some a) s e = (a, refl)

pub typed_closed : (env : List TypeTree) (n : Nameless) (s : TypeTree) → nameless_type env n ≡ Some s → IsClosed (length env) n
typed_closed env (free v) s e = tt
typed_closed env (bound i) s e = get_below env i s e
typed_closed env (fixed c t) s e = tt
typed_closed env (app f x) s e =
    let p = both_parts (nameless_type env f) (nameless_type env x) s e in
    (typed_closed env f p.0 p.2, typed_closed env x p.1 p.3)
typed_closed env (lam a t b) s e =
    let p = mapped_part (λ r. fun_type t r) (nameless_type (t ∷ env) b) s e in
    closed_more (length (t ∷ env)) (length env + 1) b (omega arith) (typed_closed (t ∷ env) b p.0 p.1)

-- the binders of the same types as far as a term's indices go give it the same type
pub type_agree : (env more : List TypeTree) (k : ℕ) (n : Nameless) → IsClosed k n → ((i : ℕ) → i < k → slice_get env i ≡ slice_get more i) → nameless_type env n ≡ nameless_type more n
type_agree env more k (free v) c h = refl
type_agree env more k (bound i) c h = h i c
type_agree env more k (fixed d t) c h = refl
type_agree env more k (app f x) c h = rw (type_agree env more k f c.0 h, type_agree env more k x c.1 h) refl
type_agree env more k (lam a t b) c h = ap (option_map (λ r. fun_type t r)) (type_agree (t ∷ env) (t ∷ more) (k + 1) b c (further t))
  where
    further : (t : TypeTree) (i : ℕ) → i < k + 1 → slice_get (t ∷ env) i ≡ slice_get (t ∷ more) i
    further t zero l = refl
    further t (suc i) l = h i (omega arith)

pub type_whole : (env : List TypeTree) (n : Nameless) → IsClosed 0 n → nameless_type env n ≡ nameless_type [] n
type_whole env n c = type_agree env [] 0 n c (λ i l. absurd (omega arith))

-- what stands for each variable has the variable's type
abbrev pub AllTyped : List (Nameless × (List ℕ × TypeTree)) → Type 0
AllTyped pairs = (w : List ℕ × TypeTree) → nameless_type [] (term_for pairs w) ≡ Some w.1

-- substitution of such pairs keeps the type
pub subst_type : (pairs : List (Nameless × (List ℕ × TypeTree))) (env : List TypeTree) (k : ℕ) (n : Nameless) → AllTyped pairs → nameless_type env (term_subst pairs k n) ≡ nameless_type env n
subst_type pairs env k (free v) h =
    let c : IsClosed 0 (term_for pairs v) = typed_closed [] (term_for pairs v) v.1 (h v) in
    ap (nameless_type env) (shift_whole k 0 (term_for pairs v) c) ∙ type_whole env (term_for pairs v) c ∙ h v
subst_type pairs env k (bound i) h = refl
subst_type pairs env k (fixed d t) h = refl
subst_type pairs env k (app f x) h = rw (subst_type pairs env k f h, subst_type pairs env k x h) refl
subst_type pairs env k (lam a t b) h = ap (option_map (λ r. fun_type t r)) (subst_type pairs (t ∷ env) (k + 1) b h)
