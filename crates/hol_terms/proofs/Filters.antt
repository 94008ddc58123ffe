-- A variable that occurs free has its bit in the filter.
use Rattle.std.proofs.Common.{◌≡◌, ◌≢◌, ℕ, List, refl, subst, Bool, true, false, ◌||◌, cond}
use Rattle.std.specs.Int.{bit_at}
use lib.Bits.{bit_and}
use Rattle.hol_types.specs.Tree.{TypeTree}
use Rattle.hol_types.specs.Equal.{variable_eq}
use Rattle.hol_types.specs.Filter.{name_place, name_bit}
use Rattle.hol_types.proofs.Filters.{own_bit, or_has_left, or_has_right, meeting}
use Rattle.hol_terms.specs.Named.{Named, var, constant, comb, abs}
use Rattle.hol_terms.specs.Scoped.{occurs_in}
use Rattle.hol_terms.specs.Filter.{filter_of}
use Rattle.hol_terms.proofs.Same.{variable_eq_decides}

pub has_bit : (v : List ℕ × TypeTree) (t : Named) → occurs_in v t ≡ true → bit_at (filter_of t) (name_place 0 v.0) ≡ 1
has_bit v (var w) e = subst (λ (u : List ℕ × TypeTree). bit_at (name_bit w.0) (name_place 0 u.0) ≡ 1) ((variable_eq_decides w v).0 e) (own_bit w.0)
has_bit v (constant c s) e = absurd (cc)
has_bit v (comb f x) e = by (occurs_in v f) (occurs_in v x) (has_bit v f) (has_bit v x) e
  where
    by : (a b : Bool) → (a ≡ true → bit_at (filter_of f) (name_place 0 v.0) ≡ 1) → (b ≡ true → bit_at (filter_of x) (name_place 0 v.0) ≡ 1) → (a || b) ≡ true → bit_at (filter_of (comb f x)) (name_place 0 v.0) ≡ 1
    by true b p q r = or_has_left (filter_of f) (filter_of x) (name_place 0 v.0) (p refl)
    by false true p q r = or_has_right (filter_of f) (filter_of x) (name_place 0 v.0) (q refl)
    by false false p q r = absurd (cc)
has_bit v (abs w b) e = by (variable_eq w v) (has_bit v b) e
  where
    by : (a : Bool) → (occurs_in v b ≡ true → bit_at (filter_of b) (name_place 0 v.0) ≡ 1) → cond a false (occurs_in v b) ≡ true → bit_at (filter_of b) (name_place 0 v.0) ≡ 1
    by true p q = absurd (cc)
    by false p q = p q

pub occurs_filter : (v : List ℕ × TypeTree) (t : Named) → occurs_in v t ≡ true → bit_and (filter_of t) (name_bit v.0) ≢ 0
occurs_filter v t e = meeting (filter_of t) (name_bit v.0) (name_place 0 v.0) (has_bit v t e) (own_bit v.0)
