-- The comparison under binders decides equality of nameless terms.
use Rattle.std.proofs.Common.{◌≡◌, ℕ, ◌+◌, ◌<◌, List, [], ◌∷◌, length, refl, ap, sym, Bool, true, false, cond, bytes_eq, arith, subst}
use Rattle.std.specs.Bool.{Decides}
use Rattle.std.proofs.lemmas.Bool.Decides.{Decides-and, Decides-like}
use Rattle.std.proofs.lemmas.Slice.Eq.{bytes_eq-Decides}
use Rattle.hol_types.specs.Tree.{TypeTree}
use Rattle.hol_types.specs.Equal.{type_eq, variable_eq}
use Rattle.hol_types.proofs.OrderLaws.{type_cmp_decides}
use Rattle.hol_terms.specs.Named.{Named, var, constant, comb, abs}
use Rattle.hol_terms.specs.Nameless.{Nameless, free, bound, fixed, app, lam, base_of, place, nameless}
use Rattle.hol_terms.specs.Scoped.{same_place, same_named}

abbrev Variables : Type 0
Variables = List (List ℕ × TypeTree)

pub variable_eq_decides : (v w : List ℕ × TypeTree) → Decides (variable_eq v w) (v ≡ w)
variable_eq_decides v w =
    Decides-like (variable_eq v w) (λ p i. (p.0 i, p.1 i)) (λ e. (ap (λ u. u.0) e, ap (λ u. u.1) e))
    (Decides-and (bytes_eq v.0 w.0) (type_eq v.1 w.1) (bytes_eq-Decides v.0 w.0) (type_cmp_decides v.1 w.1))

-- a place under j binders or more is not the index of one of the first
pub place_above : (env : Variables) (i j : ℕ) (v : List ℕ × TypeTree) → i < j → place env j v ≡ bound i → ⊥
place_above [] i j v h e = absurd (cc)
place_above (u ∷ env) i j v h e = by (variable_eq u v) (place_above env i (j + 1) v (omega arith)) refl e
  where
    by : (b : Bool) → (place env (j + 1) v ≡ bound i → ⊥) → variable_eq u v ≡ b → place (u ∷ env) j v ≡ bound i → ⊥
    by true r p e = let f : bound j ≡ bound i = rw p at e in let g : j ≡ i = cc in omega arith
    by false r p e = r (rw p at e)

-- false decides what is not
pub never : {P : Type 0} → (P → ⊥) → Decides false P
never f = (λ e. absurd (cc), λ p. absurd (f p))

pub always : {P : Type 0} → P → Decides true P
always p = (λ e. p, λ q. refl)

pub same_place_decides : (left : Variables) (v : List ℕ × TypeTree) (right : Variables) (w : List ℕ × TypeTree) (i : ℕ) → length left ≡ length right → Decides (same_place left v right w) (place left i v ≡ place right i w)
same_place_decides [] v [] w i h = Decides-like (variable_eq v w) (λ e. ap free e) (λ e. let f : v ≡ w = cc in f) (variable_eq_decides v w)
same_place_decides [] v (r ∷ right) w i h = absurd (omega arith)
same_place_decides (l ∷ left) v [] w i h = absurd (omega arith)
same_place_decides (l ∷ left) v (r ∷ right) w i h = by (variable_eq l v) (variable_eq r w) (same_place_decides left v right w (i + 1) (omega arith)) refl refl
  where
    by : (a b : Bool) → Decides (same_place left v right w) (place left (i + 1) v ≡ place right (i + 1) w) → variable_eq l v ≡ a → variable_eq r w ≡ b → Decides (same_place (l ∷ left) v (r ∷ right) w) (place (l ∷ left) i v ≡ place (r ∷ right) i w)
    by true true d p q = rw (p, q) (always refl)
    by true false d p q = rw (p, q) (never (λ e. place_above right i (i + 1) w (omega arith) (sym e)))
    by false true d p q = rw (p, q) (never (λ e. place_above left i (i + 1) v (omega arith) e))
    by false false d p q = rw (p, q) d

-- a place is a free variable or an index
abbrev pub IsPlace : Nameless → Type 0
IsPlace (free v) = Unit {0}
IsPlace (bound i) = Unit {0}
IsPlace (fixed c s) = ⊥
IsPlace (app f x) = ⊥
IsPlace (lam a s b) = ⊥

pub place_is : (env : Variables) (i : ℕ) (v : List ℕ × TypeTree) → IsPlace (place env i v)
place_is [] i v = tt
place_is (u ∷ env) i v = by (variable_eq u v) (place_is env (i + 1) v)
  where
    by : (b : Bool) → IsPlace (place env (i + 1) v) → IsPlace (cond b (bound i) (place env (i + 1) v))
    by true p = tt
    by false p = p

not_fixed : (n : Nameless) (c : List ℕ) (s : TypeTree) → IsPlace n → n ≡ fixed c s → ⊥
not_fixed n c s p e = subst IsPlace e p

not_app : (n f x : Nameless) → IsPlace n → n ≡ app f x → ⊥
not_app n f x p e = subst IsPlace e p

not_lam : (n : Nameless) (a : List ℕ) (s : TypeTree) (b : Nameless) → IsPlace n → n ≡ lam a s b → ⊥
not_lam n a s b p e = subst IsPlace e p

pub same_named_decides : (left : Variables) (s : Named) (right : Variables) (t : Named) → length left ≡ length right → Decides (same_named true left s right t) (nameless left s ≡ nameless right t)
same_named_decides left (var v) right (var w) h = same_place_decides left v right w 0 h
same_named_decides left (var v) right (constant d t) h = never (not_fixed (place left 0 v) d t (place_is left 0 v))
same_named_decides left (var v) right (comb g y) h = never (not_app (place left 0 v) (nameless right g) (nameless right y) (place_is left 0 v))
same_named_decides left (var v) right (abs w c) h = never (not_lam (place left 0 v) (base_of w.0) w.1 (nameless (w ∷ right) c) (place_is left 0 v))
same_named_decides left (constant c s) right (var w) h = never (λ e. not_fixed _ _ _ (place_is right 0 w) (sym e))
same_named_decides left (constant c s) right (constant d t) h =
    Decides-like _ (λ p i. fixed (p.0 i) (p.1 i)) (λ e. let p : c ≡ d = cc in let q : s ≡ t = cc in (p, q))
    (Decides-and (bytes_eq c d) (type_eq s t) (bytes_eq-Decides c d) (type_cmp_decides s t))
same_named_decides left (constant c s) right (comb g y) h = never (λ e. absurd (cc))
same_named_decides left (constant c s) right (abs w b) h = never (λ e. absurd (cc))
same_named_decides left (comb f x) right (var w) h = never (λ e. not_app _ _ _ (place_is right 0 w) (sym e))
same_named_decides left (comb f x) right (constant d t) h = never (λ e. absurd (cc))
same_named_decides left (comb f x) right (comb g y) h =
    Decides-like _ (λ p i. app (p.0 i) (p.1 i)) (λ e. let p : nameless left f ≡ nameless right g = cc in let q : nameless left x ≡ nameless right y = cc in (p, q))
    (Decides-and (same_named true left f right g) (same_named true left x right y) (same_named_decides left f right g h) (same_named_decides left x right y h))
same_named_decides left (comb f x) right (abs w c) h = never (λ e. absurd (cc))
same_named_decides left (abs v b) right (var w) h = never (λ e. not_lam _ _ _ _ (place_is right 0 w) (sym e))
same_named_decides left (abs v b) right (constant d t) h = never (λ e. absurd (cc))
same_named_decides left (abs v b) right (comb g y) h = never (λ e. absurd (cc))
same_named_decides left (abs v b) right (abs w c) h =
    Decides-like _ (λ p i. lam (p.0 i) (p.1.0 i) (p.1.1 i))
    (λ e. let p : base_of v.0 ≡ base_of w.0 = cc in let q : v.1 ≡ w.1 = cc in let r : nameless (v ∷ left) b ≡ nameless (w ∷ right) c = cc in (p, (q, r)))
    (Decides-and _ _ (bytes_eq-Decides (base_of v.0) (base_of w.0))
    (Decides-and _ _ (type_cmp_decides v.1 w.1) (same_named_decides (v ∷ left) b (w ∷ right) c (omega arith))))

pub same_terms_decides : (s t : Named) → Decides (same_named true [] s [] t) (nameless [] s ≡ nameless [] t)
same_terms_decides s t = same_named_decides [] s [] t refl
