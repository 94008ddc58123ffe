-- Hypotheses that are assumptions or extra ones.
use Rattle.std.specs.Prelude.{◌≡◌, true, not, List, [], ◌∷◌, ◌++◌}
use Rattle.std.proofs.Common.{ap, sym, ◌∙◌, subst, inl, inr}
use mathlib.Core.Bool.{true≢false}
use Rattle.std.specs.Ordering.{eq_by_cmp}
use Rattle.hol_subst.specs.AlphaOrder.{nameless_cmp}
use Rattle.hol_kernel.proofs.Stands.{both}
use Rattle.std.specs.FinSet as set
use Rattle.hol_terms.specs.Nameless.{Nameless}
use Rattle.hol_terms.specs.Alpha.{strip}
use Rattle.hol_kernel.specs.Sequent.{Hyps, no_hyps, only_hyp}
use Rattle.hol_kernel.proofs.HypothesisLists.{hyps_total, hyps_same}
use Rattle.hol_kernel.proofs.Members.{itself, in_insert_here, in_insert_old, in_insert_cases, in_union_cases, in_union_left, in_union_right, not_in_empty}
use Rattle.hol_goal.specs.Achieves.{assumed, AreAllowed}

-- ---- an assumption among newer and older ones

pub assumed_there : (newer older : List Nameless) (p : Nameless) → set.contains (assumed (newer ++ (p ∷ older))) (strip p) ≡ true
assumed_there [] older p = in_insert_here hyps_total hyps_same (assumed older) (strip p)
assumed_there (a ∷ newer) older p = in_insert_old hyps_total hyps_same (assumed (newer ++ (p ∷ older))) (strip a) (strip p) (assumed_there newer older p)

pub assumed_still : (newer older : List Nameless) (p r : Nameless) → set.contains (assumed (newer ++ older)) r ≡ true → set.contains (assumed (newer ++ (p ∷ older))) r ≡ true
assumed_still [] older p r h = in_insert_old hyps_total hyps_same (assumed older) (strip p) r h
assumed_still (a ∷ newer) older p r h =
    elim (in_insert_cases hyps_total hyps_same (assumed (newer ++ older)) (strip a) r h) [
      | inl e ↦ subst (λ (z : Nameless). set.contains (assumed (a ∷ (newer ++ (p ∷ older)))) z ≡ true) (sym e) (in_insert_here hyps_total hyps_same (assumed (newer ++ (p ∷ older))) (strip a))
      | inr i ↦ in_insert_old hyps_total hyps_same (assumed (newer ++ (p ∷ older))) (strip a) r (assumed_still newer older p r i)
    ]

-- ---- hypotheses

module _ (extra : Hyps) where
  pub allowed_none : (assumptions : List Nameless) → AreAllowed extra assumptions no_hyps
  allowed_none assumptions p h = absurd (not_in_empty hyps_total hyps_same p h)

  pub allowed_union : (assumptions : List Nameless) (hs ks : Hyps) → AreAllowed extra assumptions hs → AreAllowed extra assumptions ks → AreAllowed extra assumptions (set.union hs ks)
  allowed_union assumptions hs ks a b p h = elim (in_union_cases hyps_total hyps_same hs ks p h) [ inl i ↦ a p i | inr i ↦ b p i ]

  -- what is allowed with one more assumption is allowed without, where that one is taken out
  pub allowed_less : (assumptions : List Nameless) (q r : Nameless) (hs : Hyps) → strip r ≡ strip q → AreAllowed extra (q ∷ assumptions) hs → AreAllowed extra assumptions (set.remove hs (strip r))
  allowed_less assumptions q r hs same a p h =
      let m = removed p h in
      elim (in_union_cases hyps_total hyps_same extra (assumed (q ∷ assumptions)) p (a p m.1)) [
        | inl i ↦ in_union_left hyps_total hyps_same extra (assumed assumptions) p i
        | inr i ↦ elim (in_insert_cases hyps_total hyps_same (assumed assumptions) (strip q) p i) [
          | inl e ↦ absurd (m.0 (e ∙ sym same))
          | inr j ↦ in_union_right hyps_total hyps_same extra (assumed assumptions) p j
        ]
      ]
    where
      removed : (p : Nameless) → set.contains (set.remove hs (strip r)) p ≡ true → (p ≡ strip r → ⊥) × (set.contains hs p ≡ true)
      removed p h =
          let m = both (not (eq_by_cmp nameless_cmp p (strip r))) (set.contains hs p) (sym (set.contains-remove hyps_total hs (strip r) p) ∙ h) in
          (λ e. true≢false (sym m.0 ∙ ap not (ap (λ z. eq_by_cmp nameless_cmp z (strip r)) e ∙ itself hyps_total hyps_same (strip r))), m.1)

  -- more assumptions allow what fewer do
  pub allowed_more : (few many : List Nameless) (hs : Hyps) → ((p : Nameless) → set.contains (assumed few) p ≡ true → set.contains (assumed many) p ≡ true) → AreAllowed extra few hs → AreAllowed extra many hs
  allowed_more few many hs more a p h =
      elim (in_union_cases hyps_total hyps_same extra (assumed few) p (a p h)) [
        | inl i ↦ in_union_left hyps_total hyps_same extra (assumed many) p i
        | inr i ↦ in_union_right hyps_total hyps_same extra (assumed many) p (more p i)
      ]

  pub allowed_only : (assumptions : List Nameless) (q : Nameless) → set.contains (assumed assumptions) (strip q) ≡ true → AreAllowed extra assumptions (only_hyp q)
  allowed_only assumptions q there p h =
      elim (in_insert_cases hyps_total hyps_same no_hyps (strip q) p h) [
        | inl e ↦ in_union_right hyps_total hyps_same extra (assumed assumptions) p (subst (λ (z : Nameless). set.contains (assumed assumptions) z ≡ true) (sym e) there)
        | inr i ↦ absurd (not_in_empty hyps_total hyps_same p i)
      ]
