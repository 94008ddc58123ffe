-- A term ties with itself under binders that give its free variables one meaning.
use Rattle.std.proofs.Common.{◌≡◌, ℕ, List, [], ◌∷◌, refl, sym, ap, ◌∙◌, Bool, true, false, cond}
use Rattle.std.specs.Ordering.{ordering_then}
use Rattle.std.specs.declared.cmp.Ordering.TheVariants.{Less, Equal, Greater}
use lib.Bits.{bit_and}
use Rattle.hol_types.specs.Tree.{TypeTree}
use Rattle.hol_types.specs.Equal.{variable_eq}
use Rattle.hol_types.specs.Filter.{name_place}
use Rattle.hol_types.specs.Order.{type_cmp}
use Rattle.hol_types.proofs.Filters.{Apart, apart_bits, own_bit, or_has_left, or_has_right}
use Rattle.hol_types.proofs.OrderLaws.{name_same, type_same}
use Rattle.hol_terms.specs.Named.{Named, var, constant, comb, abs}
use Rattle.hol_terms.specs.Filter.{filter_of}
use Rattle.hol_terms.specs.Scoped.{same_place, AgreeBut}
use Rattle.hol_terms.proofs.Same.{variable_eq_decides}
use Rattle.hol_terms.proofs.SameNode.{agree_both}
use Rattle.hol_subst.specs.Ordered.{variable_cmp, place_cmp, named_cmp}

abbrev Variables : Type 0
Variables = List (List ℕ × TypeTree)

variable_tied : (v : List ℕ × TypeTree) → variable_cmp v v ≡ Equal
variable_tied v = rw (name_same v.0) (type_same v.1)

place_tied : (left : Variables) (v : List ℕ × TypeTree) (right : Variables) (w : List ℕ × TypeTree) → same_place left v right w ≡ true → place_cmp left v right w ≡ Equal
place_tied [] v [] w e = ap (variable_cmp v) (sym ((variable_eq_decides v w).0 e)) ∙ variable_tied v
place_tied [] v (r ∷ right) w e = absurd (cc)
place_tied (l ∷ left) v [] w e = absurd (cc)
place_tied (l ∷ left) v (r ∷ right) w e = by (variable_eq l v) (variable_eq r w) (place_tied left v right w) e
  where
    by : (a b : Bool) → (same_place left v right w ≡ true → place_cmp left v right w ≡ Equal) → cond a b (cond b false (same_place left v right w)) ≡ true → cond a (cond b Equal Less) (cond b Greater (place_cmp left v right w)) ≡ Equal
    by true true f e = refl
    by true false f e = absurd (cc)
    by false true f e = absurd (cc)
    by false false f e = f e

order_itself : (left : Variables) (s : Named) (right : Variables) (bits : ℕ) → AgreeBut bits left right → Apart (filter_of s) bits → named_cmp left s right s ≡ Equal
order_itself left (var v) right bits h apart = place_tied left v right v (h.same v (λ e. apart (name_place 0 v.0) (own_bit v.0) e))
order_itself left (constant c s) right bits h apart = rw (name_same c) (type_same s)
order_itself left (comb f x) right bits h apart =
    let first : named_cmp left f right f ≡ Equal = order_itself left f right bits h (λ k p q. apart k (or_has_left (filter_of f) (filter_of x) k p) q) in
    let second : named_cmp left x right x ≡ Equal = order_itself left x right bits h (λ k p q. apart k (or_has_right (filter_of f) (filter_of x) k p) q) in
    ap (λ o. ordering_then o (named_cmp left x right x)) first ∙ second
order_itself left (abs v b) right bits h apart =
    ap (λ o. ordering_then o (named_cmp (v ∷ left) b (v ∷ right) b)) (type_same v.1)
    ∙ order_itself (v ∷ left) b (v ∷ right) bits (agree_both bits v left right h) apart

pub order_alike : (left : Variables) (s : Named) (right : Variables) (t : Named) (bits : ℕ) → AgreeBut bits left right → bit_and (filter_of s) bits ≡ 0 → s ≡ t → Equal ≡ named_cmp left s right t
order_alike left s right t bits h e is = sym (order_itself left s right bits h (apart_bits (filter_of s) bits e)) ∙ ap (λ u. named_cmp left s right u) is
