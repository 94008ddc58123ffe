-- The shapes of applications.
use Rattle.std.proofs.Common.{◌≡◌, ℕ, List, ◌∷◌, refl, Bool, true, false, Some, None}
use Rattle.hol_types.specs.Tree.{TypeTree}
use Rattle.hol_terms.specs.Nameless.{Nameless, free, bound, fixed, app, lam}
use Rattle.hol_print.specs.ShowTerm.{Binder, Infix, Apply, syntax, prefixed, shown_name, symbol, infix_number, is_quantifier}

pub quantified : (env : List (List ℕ)) (f x b d : Nameless) (k c : List ℕ) (s : TypeTree) (a : List ℕ) (t : TypeTree) → f ≡ fixed c s → x ≡ lam a t d → k ≡ c → b ≡ d → is_quantifier c ≡ true → syntax env (app f x) ≡ Binder k (shown_name env a b) (syntax (shown_name env a b ∷ env) b)
quantified env f x b d k c s a t p q r z e = rw (p, q, r, z, e) refl

pub unquantified : (env : List (List ℕ)) (f x d : Nameless) (c : List ℕ) (s : TypeTree) (a : List ℕ) (t : TypeTree) → f ≡ fixed c s → x ≡ lam a t d → is_quantifier c ≡ false → syntax env (app f x) ≡ prefixed c (syntax env f) (syntax env x)
unquantified env f x d c s a t p q e = rw (p, q, e) refl

abbrev pub is_lam : Nameless → Bool
is_lam (lam a s b) = true
is_lam _ = false

pub plain : (env : List (List ℕ)) (f x : Nameless) (c : List ℕ) (s : TypeTree) → f ≡ fixed c s → is_lam x ≡ false → syntax env (app f x) ≡ prefixed c (syntax env f) (syntax env x)
plain env f (free v) c s p e = rw p refl
plain env f (bound i) c s p e = rw p refl
plain env f (fixed d t) c s p e = rw p refl
plain env f (app g y) c s p e = rw p refl
plain env f (lam a t b) c s p e = absurd (cc)

pub written_infix : (env : List (List ℕ)) (f g l m x : Nameless) (k c : List ℕ) (s : TypeTree) (n : ℕ) → f ≡ app g l → g ≡ fixed c s → k ≡ symbol c s → infix_number k ≡ Some n → m ≡ l → syntax env (app f x) ≡ Infix n k (syntax env m) (syntax env x)
written_infix env f g l m x k c s n p q r e z = let h : infix_number (symbol c s) ≡ Some n = rw r at e in rw (p, q, z, r, h) refl

pub no_infix : (env : List (List ℕ)) (f g l x : Nameless) (k c : List ℕ) (s : TypeTree) → f ≡ app g l → g ≡ fixed c s → k ≡ symbol c s → infix_number k ≡ None → syntax env (app f x) ≡ Apply (syntax env f) (syntax env x)
no_infix env f g l x k c s p q r e = let h : infix_number (symbol c s) ≡ None = rw r at e in rw (p, q, h) refl

abbrev pub is_fixed : Nameless → Bool
is_fixed (fixed c s) = true
is_fixed _ = false

pub other_head : (env : List (List ℕ)) (f g l x : Nameless) → f ≡ app g l → is_fixed g ≡ false → syntax env (app f x) ≡ Apply (syntax env f) (syntax env x)
other_head env f (free v) l x p e = rw p refl
other_head env f (bound i) l x p e = rw p refl
other_head env f (fixed d t) l x p e = absurd (cc)
other_head env f (app g y) l x p e = rw p refl
other_head env f (lam a t b) l x p e = rw p refl
