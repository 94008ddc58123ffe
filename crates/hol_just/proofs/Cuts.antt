-- Lists cut in two: what stays where the cut goes on by one, or is made elsewhere.
use Rattle.std.specs.Prelude.{◌≡◌, ℕ, ◌<◌, ◌≤◌, Bool, true, false, cond, List, [], ◌∷◌, ◌++◌, length, reverse}
use Rattle.std.proofs.Common.{ap, sym, ◌∙◌, subst, arith, length-append}
use Rattle.std.proofs.lemmas.List.{reverse-append}
use Rattle.hol_kernel.specs.Items.{Items}
use Rattle.hol_kernel.specs.Theorem.{Theorem}
use Rattle.hol_just.specs.Over.{AreOver, CutValue, IsSameCut}
use Rattle.hol_just.proofs.Validity.{all_left, all_right}

-- the last theorem before the cut is put after it, or nowhere
pub back_over : (basis : Items) (before less after more : List Theorem) (th : Theorem) (ok : Bool) → before ≡ less ++ (th ∷ []) → more ≡ cond ok (after ++ (th ∷ [])) after → AreOver basis before × AreOver basis (reverse after) → AreOver basis less × AreOver basis (reverse more)
back_over basis before less after more th ok taken put over =
    let all : AreOver basis (less ++ (th ∷ [])) = subst (AreOver basis) taken over.0 in
    (all_left (λ t. t.basis ≡ basis) less (th ∷ []) all, subst (λ (ts : List Theorem). AreOver basis (reverse ts)) (sym put) (by ok (all_right (λ t. t.basis ≡ basis) less (th ∷ []) all).0))
  where
    by : (b : Bool) → th.basis ≡ basis → AreOver basis (reverse (cond b (after ++ (th ∷ [])) after))
    by true e = subst (AreOver basis) (sym (reverse-append after (th ∷ []))) (e, over.1)
    by false e = over.1

pub same_then : (old mid new : CutValue) → IsSameCut old mid → IsSameCut mid new → IsSameCut old new
same_then old mid new p q = record { basis = q.basis ∙ p.basis; all = q.all ∙ p.all }

-- a place beyond those before the cut
pub more_after : (old new : CutValue) (place : ℕ) → IsSameCut old new → place ≤ length (old.before ++ old.after) → length new.before < place → 0 < length new.after
more_after old new place same within below =
    omega (arith, within, below, ap length same.all, length-append new.before new.after)
