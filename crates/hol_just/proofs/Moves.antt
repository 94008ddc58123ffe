-- Moves applied one after another, the last one first.
use Rattle.std.specs.Prelude.{◌≡◌, ℕ, zero, suc, ◌+◌, ◌<◌, ◌≤◌, List, [], ◌∷◌, ◌++◌, Option, Some, None, IsSome, length, drop, get_or, refl}
use Rattle.std.specs.Option.{option_map}
use Rattle.std.specs.List.{AllByRecursion}
use Rattle.std.proofs.Common.{ap, sym, ◌∙◌, subst, arith}
use Rattle.std.proofs.lemmas.List.{append-nil, drop_all}
use Rattle.hol_kernel.specs.Items.{Items}
use Rattle.hol_kernel.specs.Sequent.{Sequent}
use Rattle.hol_just.specs.Inference.{Inference, inferred}
use Rattle.hol_just.specs.Reasons.{inference}
use Rattle.hol_just.specs.Gives.{inferred_at, then_by, gives}
use Rattle.hol_just.specs.Over.{CutValue, IsSameCut, Infers}
use Rattle.hol_just.specs.Valid.{FitsAt}
use Rattle.hol_just.specs.declared.reason.Reason.{Reason}
use Rattle.hol_just.specs.declared.reason.Move.{Move}
use Rattle.hol_just.proofs.Frame.{at_pre}
use Rattle.hol_just.proofs.Applied.{some_mapped}

-- ---- one move

-- a rule that gives something stands at a place of the list
pub at_within : (n : ℕ) (rule : Inference) (ss : List Sequent) → IsSome (inferred_at n rule ss) → n ≤ length ss
at_within zero rule ss h = omega arith
at_within (suc n) rule [] h = absurd cc
at_within (suc n) rule (s ∷ ss) h = let r = at_within n rule ss (some_mapped _ (inferred_at n rule ss) h) in omega (arith, r)

gives_after : (pre : List Sequent) (n : ℕ) (rule : Inference) (ss : List Sequent) → length pre ≡ n → IsSome (inferred_at n rule (pre ++ ss)) → IsSome (inferred rule ss)
gives_after [] zero rule ss e h = h
gives_after [] (suc n) rule ss e h = absurd (omega (arith, e))
gives_after (s ∷ pre) zero rule ss e h = absurd (omega (arith, e))
gives_after (s ∷ pre) (suc n) rule ss e h = gives_after pre n rule ss (omega (arith, e)) (some_mapped _ (inferred_at n rule (pre ++ ss)) h)

pub infer_gives :
    (old new : CutValue) (n : ℕ) (reason : Reason) → IsSameCut old new → length new.before ≡ n →
    IsSome (inferred_at n (inference old.basis reason) (old.before ++ old.after)) → IsSome (inferred (inference new.basis reason) new.after)
infer_gives old new n reason same at h =
    gives_after new.before n (inference new.basis reason) new.after at
    (subst (λ (o : Option (List Sequent)). IsSome o) (λ i. inferred_at n (inference (sym same.basis i) reason) (sym same.all i)) h)

pub infer_at :
    (old mid new : CutValue) (n : ℕ) (reason : Reason) → IsSameCut old mid → length mid.before ≡ n → Infers (inference mid.basis reason) mid new →
    inferred_at n (inference old.basis reason) (old.before ++ old.after) ≡ Some (new.before ++ new.after)
infer_at old mid new n reason same at inf =
    (λ i. inferred_at n (inference (sym same.basis i) reason) (sym same.all i))
    ∙ at_pre mid.before 0 n (inference mid.basis reason) mid.after new.after (omega (arith, at)) inf.after
    ∙ ap (λ (ss : List Sequent). Some (ss ++ new.after)) (sym inf.before)

-- ---- all of them

pub gives_step :
    (basis : Items) (moves : List Move) (ss now : List Sequent) (i j : ℕ) (one : Move) → j ≡ i + 1 → i < length moves → one ≡ get_or moves i one →
    gives basis (drop j moves) ss ≡ Some now → gives basis (drop i moves) ss ≡ inferred_at one.place (inference basis one.reason) now
gives_step basis (x ∷ moves) ss now zero (suc zero) m at h e is = ap (then_by basis x) is ∙ (λ k. inferred_at (sym e k).place (inference basis (sym e k).reason) now)
gives_step basis (x ∷ moves) ss now (suc i) (suc j) m at h e is = gives_step basis moves ss now i j m (omega (arith, at)) (omega (arith, h)) e is
gives_step basis (x ∷ moves) ss now zero zero m at h e is = absurd (omega (arith, at))
gives_step basis (x ∷ moves) ss now zero (suc (suc j)) m at h e is = absurd (omega (arith, at))
gives_step basis (x ∷ moves) ss now (suc i) zero m at h e is = absurd (omega (arith, at))
gives_step basis [] ss now i j m at h e is = absurd (omega (arith, h))

pub fits_at : (basis : Items) (moves : List Move) (i : ℕ) (one : Move) → AllByRecursion (FitsAt basis) moves → i < length moves → one ≡ get_or moves i one → FitsAt basis one
fits_at basis (x ∷ moves) zero m a h e = subst (FitsAt basis) (sym e) a.0
fits_at basis (x ∷ moves) (suc i) m a h e = fits_at basis moves i m a.1 (omega (arith, h)) e
fits_at basis [] i m a h e = absurd (omega (arith, h))

-- moves that give something do so from each of them on
then_some : (basis : Items) (one : Move) (o : Option (List Sequent)) → IsSome (then_by basis one o) → IsSome o
then_some basis one (Some ss) h = refl
then_some basis one None h = h

gives_drop : (basis : Items) (moves : List Move) (ss : List Sequent) (i : ℕ) → IsSome (gives basis moves ss) → IsSome (gives basis (drop i moves) ss)
gives_drop basis moves ss zero h = h
gives_drop basis [] ss (suc i) h = h
gives_drop basis (x ∷ moves) ss (suc i) h = gives_drop basis moves ss i (then_some basis x (gives basis moves ss) h)

pub next_gives :
    (basis : Items) (moves : List Move) (ss now : List Sequent) (i j : ℕ) (one : Move) → j ≡ i + 1 → i < length moves → one ≡ get_or moves i one →
    gives basis (drop j moves) ss ≡ Some now → IsSome (gives basis moves ss) → IsSome (inferred_at one.place (inference basis one.reason) now)
next_gives basis moves ss now i j m at h e is g = subst (λ (o : Option (List Sequent)). IsSome o) (gives_step basis moves ss now i j m at h e is) (gives_drop basis moves ss i g)

-- no move was made yet
pub at_first : (basis : Items) (moves : List Move) (ss : List Sequent) (left : ℕ) → left ≡ length moves → gives basis (drop left moves) ss ≡ Some (ss ++ [])
at_first basis moves ss left e = ap (λ ms. gives basis ms ss) (drop_all left moves (omega (arith, e))) ∙ ap Some (sym (append-nil ss))
