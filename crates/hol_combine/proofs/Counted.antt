-- Rounds of REPLICATE_TAC, on the first of the goals that wait, each with the number of rounds that it has left.
use Rattle.std.specs.Prelude.{◌≡◌, ℕ, suc, List, [], ◌∷◌, ◌++◌, length, refl}
use Rattle.std.proofs.Common.{ap, sym, ◌∙◌}
use Rattle.hol_goal.specs.Goal.{GoalValue}
use Rattle.hol_goal.specs.Answer.{UsedValue}
use Rattle.hol_combine.specs.Runs.{RunValue, Leaves, Refuses, Stops, before_goals, then_on, each, replicate}
use Rattle.hol_combine.specs.Going.{copies}
use Rattle.hol_combine.specs.Pending.{counted}
use Rattle.hol_combine.proofs.After.{before_none, before_on}

module _ (f : GoalValue → UsedValue → RunValue) where
  -- goals that have the same number
  pub counted_append : (n : ℕ) (new : List GoalValue) (ns : List ℕ) (rest : List GoalValue) (used : UsedValue) → counted f (copies (length new) n ++ ns) (new ++ rest) used ≡ then_on (each (replicate f (suc n)) new used) (λ g l. before_goals g (counted f ns rest l))
  counted_append n [] ns rest used = sym (before_none (counted f ns rest used))
  counted_append n (x ∷ xs) ns rest used = go (replicate f (suc n) x used) (λ left. counted_append n xs ns rest left)
    where
      go : (a : RunValue) → ((left : UsedValue) → counted f (copies (length xs) n ++ ns) (xs ++ rest) left ≡ then_on (each (replicate f (suc n)) xs left) (λ g l. before_goals g (counted f ns rest l))) →
          then_on a (λ g l. before_goals g (counted f (copies (length xs) n ++ ns) (xs ++ rest) l)) ≡ then_on (then_on a (λ g l. before_goals g (each (replicate f (suc n)) xs l))) (λ g l. before_goals g (counted f ns rest l))
      go (Leaves new left) ih = ap (before_goals new) (ih left) ∙ before_on new (counted f ns rest) (each (replicate f (suc n)) xs left)
      go (Refuses why left) ih = refl
      go (Stops why tested) ih = refl
