-- The comparison under binders that leaves out base names is the test of alpha equivalence, and this decides equality of stripped terms.
use Rattle.std.proofs.Common.{◌≡◌, ℕ, List, [], ◌∷◌, length, refl, ap, sym, ◌∙◌, false, ◌&&◌, bytes_eq, arith}
use Rattle.std.specs.Bool.{Decides, one_answer}
use Rattle.std.proofs.lemmas.Bool.Decides.{Decides-and, Decides-eqb, Decides-like}
use Rattle.std.proofs.lemmas.Slice.Eq.{bytes_eq-Decides}
use Rattle.hol_types.specs.Tree.{TypeTree}
use Rattle.hol_types.specs.Equal.{type_eq}
use Rattle.hol_types.proofs.OrderLaws.{type_cmp_decides}
use Rattle.hol_terms.specs.Named.{Named, var, constant, comb, abs}
use Rattle.hol_terms.specs.Nameless.{Nameless, free, bound, fixed, app, lam, base_of, place, nameless}
use Rattle.hol_terms.specs.Alpha.{strip, alpha_eq}
use Rattle.hol_terms.specs.Scoped.{same_place, same_named}
use Rattle.hol_terms.proofs.Same.{never, variable_eq_decides, same_place_decides, IsPlace, place_is}

abbrev Variables : Type 0
Variables = List (List ℕ × TypeTree)

pub alpha_eq_decides : (m n : Nameless) → Decides (alpha_eq m n) (strip m ≡ strip n)
alpha_eq_decides (free v) (free w) = Decides-like _ (λ e. ap free e) (λ e. let f : v ≡ w = cc in f) (variable_eq_decides v w)
alpha_eq_decides (free v) (bound j) = never (λ e. absurd (cc))
alpha_eq_decides (free v) (fixed d t) = never (λ e. absurd (cc))
alpha_eq_decides (free v) (app g y) = never (λ e. absurd (cc))
alpha_eq_decides (free v) (lam c t d) = never (λ e. absurd (cc))
alpha_eq_decides (bound i) (free w) = never (λ e. absurd (cc))
alpha_eq_decides (bound i) (bound j) = Decides-like _ (λ e. ap bound e) (λ e. let f : i ≡ j = cc in f) (Decides-eqb i j)
alpha_eq_decides (bound i) (fixed d t) = never (λ e. absurd (cc))
alpha_eq_decides (bound i) (app g y) = never (λ e. absurd (cc))
alpha_eq_decides (bound i) (lam c t d) = never (λ e. absurd (cc))
alpha_eq_decides (fixed c s) (free w) = never (λ e. absurd (cc))
alpha_eq_decides (fixed c s) (bound j) = never (λ e. absurd (cc))
alpha_eq_decides (fixed c s) (fixed d t) =
    Decides-like _ (λ p i. fixed (p.0 i) (p.1 i)) (λ e. let p : c ≡ d = cc in let q : s ≡ t = cc in (p, q))
    (Decides-and (bytes_eq c d) (type_eq s t) (bytes_eq-Decides c d) (type_cmp_decides s t))
alpha_eq_decides (fixed c s) (app g y) = never (λ e. absurd (cc))
alpha_eq_decides (fixed c s) (lam a t d) = never (λ e. absurd (cc))
alpha_eq_decides (app f x) (free w) = never (λ e. absurd (cc))
alpha_eq_decides (app f x) (bound j) = never (λ e. absurd (cc))
alpha_eq_decides (app f x) (fixed d t) = never (λ e. absurd (cc))
alpha_eq_decides (app f x) (app g y) =
    Decides-like _ (λ p i. app (p.0 i) (p.1 i)) (λ e. let p : strip f ≡ strip g = cc in let q : strip x ≡ strip y = cc in (p, q))
    (Decides-and _ _ (alpha_eq_decides f g) (alpha_eq_decides x y))
alpha_eq_decides (app f x) (lam c t d) = never (λ e. absurd (cc))
alpha_eq_decides (lam a s b) (free w) = never (λ e. absurd (cc))
alpha_eq_decides (lam a s b) (bound j) = never (λ e. absurd (cc))
alpha_eq_decides (lam a s b) (fixed d t) = never (λ e. absurd (cc))
alpha_eq_decides (lam a s b) (app g y) = never (λ e. absurd (cc))
alpha_eq_decides (lam a s b) (lam c t d) =
    Decides-like _ (λ p i. lam [] (p.0 i) (p.1 i)) (λ e. let p : s ≡ t = cc in let q : strip b ≡ strip d = cc in (p, q))
    (Decides-and _ _ (type_cmp_decides s t) (alpha_eq_decides b d))

strip_place : (n : Nameless) → IsPlace n → strip n ≡ n
strip_place (free v) p = refl
strip_place (bound i) p = refl
strip_place (fixed c s) p = absurd p
strip_place (app f x) p = absurd p
strip_place (lam a s b) p = absurd p

-- a place is alpha equivalent to a place alone
place_other : (n : Nameless) → IsPlace n → (m : Nameless) → (IsPlace m → ⊥) → (alpha_eq n m ≡ false) × (alpha_eq m n ≡ false)
place_other n p (free v) q = absurd (q tt)
place_other n p (bound i) q = absurd (q tt)
place_other (free v) p (fixed c s) q = (refl, refl)
place_other (free v) p (app f x) q = (refl, refl)
place_other (free v) p (lam a s b) q = (refl, refl)
place_other (bound i) p (fixed c s) q = (refl, refl)
place_other (bound i) p (app f x) q = (refl, refl)
place_other (bound i) p (lam a s b) q = (refl, refl)
place_other (fixed d t) p m q = absurd p
place_other (app g y) p m q = absurd p
place_other (lam c t d) p m q = absurd p

at_places : (left : Variables) (v : List ℕ × TypeTree) (right : Variables) (w : List ℕ × TypeTree) → length left ≡ length right → same_place left v right w ≡ alpha_eq (place left 0 v) (place right 0 w)
at_places left v right w h =
    let l : strip (place left 0 v) ≡ place left 0 v = strip_place _ (place_is left 0 v) in
    let r : strip (place right 0 w) ≡ place right 0 w = strip_place _ (place_is right 0 w) in
    one_answer _ _ (same_place_decides left v right w 0 h)
    (Decides-like _ (λ e. sym l ∙ e ∙ r) (λ e. l ∙ e ∙ sym r) (alpha_eq_decides (place left 0 v) (place right 0 w)))

pub alpha_under : (left : Variables) (s : Named) (right : Variables) (t : Named) → length left ≡ length right → same_named false left s right t ≡ alpha_eq (nameless left s) (nameless right t)
alpha_under left (var v) right (var w) h = at_places left v right w h
alpha_under left (var v) right (constant d t) h = sym (place_other _ (place_is left 0 v) (fixed d t) (λ p. p)).0
alpha_under left (var v) right (comb g y) h = sym (place_other _ (place_is left 0 v) (app (nameless right g) (nameless right y)) (λ p. p)).0
alpha_under left (var v) right (abs w c) h = sym (place_other _ (place_is left 0 v) (lam (base_of w.0) w.1 (nameless (w ∷ right) c)) (λ p. p)).0
alpha_under left (constant c s) right (var w) h = sym (place_other _ (place_is right 0 w) (fixed c s) (λ p. p)).1
alpha_under left (constant c s) right (constant d t) h = refl
alpha_under left (constant c s) right (comb g y) h = refl
alpha_under left (constant c s) right (abs w b) h = refl
alpha_under left (comb f x) right (var w) h = sym (place_other _ (place_is right 0 w) (app (nameless left f) (nameless left x)) (λ p. p)).1
alpha_under left (comb f x) right (constant d t) h = refl
alpha_under left (comb f x) right (comb g y) h = rw (alpha_under left f right g h, alpha_under left x right y h) refl
alpha_under left (comb f x) right (abs w c) h = refl
alpha_under left (abs v b) right (var w) h = sym (place_other _ (place_is right 0 w) (lam (base_of v.0) v.1 (nameless (v ∷ left) b)) (λ p. p)).1
alpha_under left (abs v b) right (constant d t) h = refl
alpha_under left (abs v b) right (comb g y) h = refl
alpha_under left (abs v b) right (abs w c) h = ap (λ e. type_eq v.1 w.1 && e) (alpha_under (v ∷ left) b (w ∷ right) c (omega arith))

pub alpha_is : (s t : Named) → same_named false [] s [] t ≡ alpha_eq (nameless [] s) (nameless [] t)
alpha_is s t = alpha_under [] s [] t refl

pub ruleset alpha_equivalence = (alpha_is, alpha_eq_decides)
