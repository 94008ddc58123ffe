-- One order for every type that has a code, for finite sets of its values: the lexicographic order of the codes' numbers.
use Rattle.std.specs.Prelude.{◌≡◌, ℕ, List, [], ◌∷◌, refl}
use Rattle.std.specs.declared.cmp.Ordering.{Ordering}
use Rattle.std.specs.Ordering.{nat_cmp}
use Rattle.std.specs.Cmp.{IsTotalOrder, on_total}
use Rattle.std.specs.Cmp.Lexicographic.{slice_cmp, nat_list_cmp_total}
use Rattle.std.specs.FinSet.{IsAntisymmetric, nat_cmp-IsAntisymmetric, slice_cmp-IsAntisymmetric}
use base.Stored.{Coded, Gv, gnil, gnum, gcons}

-- the numbers of a code in a row, before those of what follows
abbrev pub flat : Gv → List ℕ → List ℕ
flat gnil rest = 0 ∷ rest
flat (gnum n) rest = 1 ∷ n ∷ rest
flat (gcons a b) rest = 2 ∷ flat a (flat b rest)

pub flat_same : (g h : Gv) (r s : List ℕ) → flat g r ≡ flat h s → (g ≡ h) × (r ≡ s)
flat_same gnil gnil r s e = (refl, cc)
flat_same (gnum m) (gnum n) r s e = (cc, cc)
flat_same (gcons a b) (gcons c d) r s e =
    let tails : flat a (flat b r) ≡ flat c (flat d s) = cc in
    let one = flat_same a c (flat b r) (flat d s) tails in
    let two = flat_same b d r s one.1 in
    (λ i. gcons (one.0 i) (two.0 i), two.1)
flat_same gnil (gnum n) r s e = cc
flat_same gnil (gcons c d) r s e = cc
flat_same (gnum m) gnil r s e = cc
flat_same (gnum m) (gcons c d) r s e = cc
flat_same (gcons a b) gnil r s e = cc
flat_same (gcons a b) (gnum n) r s e = cc

module _ {K : Type 0} (c : Coded K) where
  abbrev pub row : K → List ℕ
  row x = flat (c.code x) []

  abbrev pub coded_cmp : K → K → Ordering
  coded_cmp x y = slice_cmp nat_cmp (row x) (row y)

  pub coded_total : IsTotalOrder coded_cmp
  coded_total = on_total row nat_list_cmp_total

  pub coded_same : IsAntisymmetric coded_cmp
  coded_same x y e =
      c.inj x y (flat_same (c.code x) (c.code y) [] [] (slice_cmp-IsAntisymmetric nat_cmp-IsAntisymmetric (row x) (row y) e)).0
