-- With base names left out the order of terms is total and ties just at alpha equivalence, and the code finds it under binders.
use Rattle.std.proofs.Common.{◌≡◌, ℕ, ◌+◌, ◌<◌, List, [], ◌∷◌, length, refl, sym, ap, ◌∙◌, arith, Bool, true, false, cond}
use Rattle.std.specs.Prelude.{◌↔◌}
use Rattle.std.specs.Ordering.{ordering_then, ordering_reverse}
use Rattle.std.specs.Cmp.{IsTotalOrder, on_total, nat_cmp_is, nat_cmp_total}
use Rattle.std.proofs.lemmas.Cmp.{tied_itself}
use Rattle.std.specs.declared.cmp.Ordering.TheVariants.{Less, Equal, Greater}
use Rattle.hol_types.specs.Tree.{TypeTree}
use Rattle.hol_types.specs.Equal.{variable_eq}
use Rattle.hol_types.specs.Order.{type_cmp}
use Rattle.hol_terms.specs.Named.{Named, var, constant, comb, abs}
use Rattle.hol_terms.specs.Nameless.{Nameless, free, bound, fixed, app, lam, place, nameless}
use Rattle.hol_terms.specs.Alpha.{strip}
use Rattle.hol_terms.proofs.Same.{IsPlace, place_is}
use Rattle.hol_subst.specs.AlphaOrder.{nameless_cmp, alpha_cmp}
use Rattle.hol_subst.specs.Ordered.{place_cmp, named_cmp}
use Rattle.hol_types.proofs.OrderLaws.{then_equal_right}
use Rattle.hol_subst.proofs.CodeOrder.{nameless_total, nameless_same}

abbrev Variables : Type 0
Variables = List (List ℕ × TypeTree)

pub alpha_total : IsTotalOrder alpha_cmp
alpha_total = on_total strip nameless_total

pub alpha_ties : (m n : Nameless) → (alpha_cmp m n ≡ Equal) ↔ (strip m ≡ strip n)
alpha_ties m n = (nameless_same (strip m) (strip n), λ e. ap (nameless_cmp (strip m)) (sym e) ∙ tied_itself nameless_total (strip m))

-- under binders
place_after : (env : Variables) (i j : ℕ) (w : List ℕ × TypeTree) → i < j → nameless_cmp (bound i) (strip (place env j w)) ≡ Less
place_after [] i j w h = refl
place_after (u ∷ env) i j w h = by (variable_eq u w) (place_after env i (j + 1) w (omega arith))
  where
    by : (b : Bool) → nameless_cmp (bound i) (strip (place env (j + 1) w)) ≡ Less → nameless_cmp (bound i) (strip (cond b (bound j) (place env (j + 1) w))) ≡ Less
    by true r = sym (nat_cmp_is i j Less h)
    by false r = r

-- the other way round
turned : (m n : Nameless) → nameless_cmp m n ≡ Less → nameless_cmp n m ≡ Greater
turned m n e = nameless_total.antisymm n m ∙ ap ordering_reverse e

place_order : (left : Variables) (v : List ℕ × TypeTree) (right : Variables) (w : List ℕ × TypeTree) (i : ℕ) → length left ≡ length right → place_cmp left v right w ≡ alpha_cmp (place left i v) (place right i w)
place_order [] v [] w i h = refl
place_order [] v (r ∷ right) w i h = absurd (omega arith)
place_order (l ∷ left) v [] w i h = absurd (omega arith)
place_order (l ∷ left) v (r ∷ right) w i h = by (variable_eq l v) (variable_eq r w) (place_order left v right w (i + 1) (omega arith))
  where
    by : (a b : Bool) → place_cmp left v right w ≡ alpha_cmp (place left (i + 1) v) (place right (i + 1) w) → cond a (cond b Equal Less) (cond b Greater (place_cmp left v right w)) ≡ alpha_cmp (cond a (bound i) (place left (i + 1) v)) (cond b (bound i) (place right (i + 1) w))
    by true true e = sym (tied_itself nat_cmp_total i)
    by true false e = sym (place_after right i (i + 1) w (omega arith))
    by false true e = sym (turned (bound i) (strip (place left (i + 1) v)) (place_after left i (i + 1) v (omega arith)))
    by false false e = e

-- a place comes after constants, and before applications and abstractions
after_fixed : (n : Nameless) (d : List ℕ) (t : TypeTree) → IsPlace n → nameless_cmp (fixed d t) (strip n) ≡ Less
after_fixed (free v) d t p = refl
after_fixed (bound i) d t p = refl
after_fixed (fixed c s) d t p = absurd p
after_fixed (app f x) d t p = absurd p
after_fixed (lam a s b) d t p = absurd p

before_app : (n g y : Nameless) → IsPlace n → nameless_cmp (strip n) (app g y) ≡ Less
before_app (free v) g y p = refl
before_app (bound i) g y p = refl
before_app (fixed c s) g y p = absurd p
before_app (app f x) g y p = absurd p
before_app (lam a s b) g y p = absurd p

before_lam : (n : Nameless) (a : List ℕ) (t : TypeTree) (d : Nameless) → IsPlace n → nameless_cmp (strip n) (lam a t d) ≡ Less
before_lam (free v) a t d p = refl
before_lam (bound i) a t d p = refl
before_lam (fixed c s) a t d p = absurd p
before_lam (app f x) a t d p = absurd p
before_lam (lam c s b) a t d p = absurd p

pub order_under : (left : Variables) (s : Named) (right : Variables) (t : Named) → length left ≡ length right → named_cmp left s right t ≡ alpha_cmp (nameless left s) (nameless right t)
order_under left (constant c s) right (constant d t) h = refl
order_under left (constant c s) right (var w) h = sym (after_fixed (place right 0 w) c s (place_is right 0 w))
order_under left (constant c s) right (comb g y) h = refl
order_under left (constant c s) right (abs w d) h = refl
order_under left (var v) right (constant d t) h = sym (turned (fixed d t) (strip (place left 0 v)) (after_fixed (place left 0 v) d t (place_is left 0 v)))
order_under left (var v) right (var w) h = place_order left v right w 0 h
order_under left (var v) right (comb g y) h = sym (before_app (place left 0 v) (strip (nameless right g)) (strip (nameless right y)) (place_is left 0 v))
order_under left (var v) right (abs w d) h = sym (before_lam (place left 0 v) [] w.1 (strip (nameless (w ∷ right) d)) (place_is left 0 v))
order_under left (comb f x) right (constant d t) h = refl
order_under left (comb f x) right (var w) h = sym (turned (strip (place right 0 w)) (app (strip (nameless left f)) (strip (nameless left x))) (before_app (place right 0 w) (strip (nameless left f)) (strip (nameless left x)) (place_is right 0 w)))
order_under left (comb f x) right (comb g y) h = rw (order_under left f right g h, order_under left x right y h) refl
order_under left (comb f x) right (abs w d) h = refl
order_under left (abs v b) right (constant d t) h = refl
order_under left (abs v b) right (var w) h = sym (turned (strip (place right 0 w)) (lam [] v.1 (strip (nameless (v ∷ left) b))) (before_lam (place right 0 w) [] v.1 (strip (nameless (v ∷ left) b)) (place_is right 0 w)))
order_under left (abs v b) right (comb g y) h = refl
order_under left (abs v b) right (abs w d) h =
    ap (ordering_then (type_cmp v.1 w.1)) (order_under (v ∷ left) b (w ∷ right) d (omega arith) ∙ sym (then_equal_right _))

pub order_is : (s t : Named) → named_cmp [] s [] t ≡ alpha_cmp (nameless [] s) (nameless [] t)
order_is s t = order_under [] s [] t refl

pub ruleset alpha_orders = (order_is, alpha_ties)
