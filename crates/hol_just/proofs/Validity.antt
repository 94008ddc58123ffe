-- The laws of valid justifications.
use Rattle.std.specs.Prelude.{◌≡◌, ℕ, Bool, IsTrue, List, [], ◌∷◌, ◌++◌, length}
use Rattle.std.specs.List.{AllByRecursion}
use Rattle.hol_kernel.specs.Items.{Items}
use Rattle.hol_kernel.specs.Sequent.{Hyps}
use Rattle.hol_goal.specs.Goal.{GoalValue}
use Rattle.hol_goal.specs.Achieves.{IsTyped}
use Rattle.hol_just.specs.Gives.{moved}
use Rattle.hol_just.specs.Valid.{FitsAt, IsValid}
use Rattle.hol_just.specs.declared.reason.Move.{Move}
use Rattle.hol_just.proofs.Frame.{through_append, through_framed}

pub all_both : {X : Type 0} (P : X → Type 0) (xs ys : List X) → AllByRecursion P xs → AllByRecursion P ys → AllByRecursion P (xs ++ ys)
all_both P [] ys a b = b
all_both P (x ∷ xs) ys a b = (a.0, all_both P xs ys a.1 b)

pub all_left : {X : Type 0} (P : X → Type 0) (xs ys : List X) → AllByRecursion P (xs ++ ys) → AllByRecursion P xs
all_left P [] ys a = tt
all_left P (x ∷ xs) ys a = (a.0, all_left P xs ys a.1)

pub all_right : {X : Type 0} (P : X → Type 0) (xs ys : List X) → AllByRecursion P (xs ++ ys) → AllByRecursion P ys
all_right P [] ys a = a
all_right P (x ∷ xs) ys a = all_right P xs ys a.1

fits_moved : (basis : Items) (k : ℕ) (moves : List Move) → AllByRecursion (FitsAt basis) moves → AllByRecursion (FitsAt basis) (moved k moves)
fits_moved basis k [] a = tt
fits_moved basis k (m ∷ moves) a = (a.0, fits_moved basis k moves a.1)

pub valid_none : (suits : Items → Bool) (extra : Hyps) (goals : List GoalValue) → IsValid suits extra [] goals goals
valid_none suits extra goals basis suit typed = record { typed = typed; fits = tt; answers = λ ss a. a }

pub valid_at : (suits : Items → Bool) (extra : Hyps) (moves more : List Move) (before pre goals new post : List GoalValue) (place : ℕ) → place ≡ length pre → IsValid suits extra moves before (pre ++ (goals ++ post)) → IsValid suits extra more goals new → IsValid suits extra (moves ++ moved place more) before (pre ++ (new ++ post))
valid_at suits extra moves more before pre gs new post k at v w basis suit typed =
    let a = v basis suit typed in
    let inner = all_right (IsTyped basis) pre (gs ++ post) a.typed in
    let b = w basis suit (all_left (IsTyped basis) gs post inner) in
    record {
      typed = all_both (IsTyped basis) pre (new ++ post) (all_left (IsTyped basis) pre (gs ++ post) a.typed) (all_both (IsTyped basis) new post b.typed (all_right (IsTyped basis) gs post inner));
      fits = all_both (FitsAt basis) moves (moved k more) a.fits (fits_moved basis k more b.fits);
      answers = through_append extra basis moves (moved k more) before (pre ++ (gs ++ post)) (pre ++ (new ++ post)) a.answers (through_framed extra basis more pre gs new post k at b.answers);
    }

pub valid_under : (suits narrower : Items → Bool) (extra : Hyps) (moves : List Move) (before after : List GoalValue) → ((basis : Items) → IsTrue (narrower basis) → IsTrue (suits basis)) → IsValid suits extra moves before after → IsValid narrower extra moves before after
valid_under suits narrower extra moves before after under v basis suit typed = v basis (under basis suit) typed

pub valid_then : (suits : Items → Bool) (extra : Hyps) (moves more : List Move) (before mid after : List GoalValue) → IsValid suits extra moves before mid → IsValid suits extra more mid after → IsValid suits extra (moves ++ more) before after
valid_then suits extra moves more before mid after v w basis suit typed =
    let a = v basis suit typed in
    let b = w basis suit a.typed in
    record { typed = b.typed; fits = all_both (FitsAt basis) moves more a.fits b.fits; answers = through_append extra basis moves more before mid after a.answers b.answers }
