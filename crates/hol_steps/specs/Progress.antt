-- What was stripped so far. Only private clauses speak of it.
use Rattle.std.specs.Prelude.{◌≡◌, ◌<◌, ℕ, Bool, List, [], ◌∷◌, ◌++◌, map, length, reverse, Option, Some, None}
use Rattle.hol_kernel.specs.Items.{Items}
use Rattle.hol_kernel.specs.Sequent.{Hyps}
use Rattle.hol_goal.specs.Goal.{GoalValue}
use Rattle.hol_just.specs.Gives.{moved}
use Rattle.hol_goal.specs.Answer.{UsedValue, starting}
use Rattle.hol_goal.specs.UsedView.{used_value}
use Rattle.hol_just.specs.Strip.{AvoidedValue, WaitingValue, Stripped, RunsOut, before_goals, strip_each, strip}
use Rattle.hol_just.specs.Valid.{IsValid}
use Rattle.hol_just.specs.declared.reason.Move.{Move}
use Rattle.hol_just.specs.Weights.{all_weights}
use Rattle.hol_steps.specs.Fresh.{AreApart}
use Rattle.hol_steps.specs.Parts.{with_pieces}
use Rattle.hol_steps.specs.declared.progress.Progress.{Progress}

pub record ProgressValue : Type 0 where
  pub done : List GoalValue
  pub waiting : List WaitingValue
  pub moves : List Move
  pub used : UsedValue

abbrev pub progress_value : Progress → ProgressValue
progress_value p = record { done = p.done.items; waiting = reverse p.waiting.items; moves = p.just; used = used_value p.used }

-- one waits
abbrev pub started : List Move → WaitingValue → ℕ → ProgressValue
started moves w turns = record { done = []; waiting = w ∷ []; moves = moves; used = starting turns }

-- the first that waits was taken, or none waits
abbrev pub with_next : WaitingValue → ProgressValue → ProgressValue
with_next w p = record p { waiting = w ∷ p.waiting }

abbrev pub IsNext : ProgressValue → ProgressValue → Option WaitingValue → Type 0
IsNext old new None = (old.waiting ≡ []) × (new ≡ old)
IsNext old new (Some w) = old ≡ with_next w new

-- what may still be used was taken
abbrev pub without_used : ProgressValue → ProgressValue
without_used p = record p { used = starting p.used.turns_left }

-- the goal that was taken is done
abbrev pub finished : ProgressValue → GoalValue → ProgressValue
finished p goal = record p { done = p.done ++ goal ∷ [] }

-- what the pieces that were taken became waits
abbrev pub again : ProgressValue → List WaitingValue → List Move → UsedValue → ProgressValue
again p ws moves used = record { done = p.done; waiting = ws ++ p.waiting; moves = p.moves ++ moved (length p.done) moves; used = used }

-- ---- what it comes to

abbrev pub comes_to : AvoidedValue → ProgressValue → Stripped
comes_to avoided p = before_goals p.done (strip_each (strip avoided) p.waiting p.used)

-- the goals, with the pieces as assumptions
abbrev pub all_goals : ProgressValue → List GoalValue
all_goals p = p.done ++ map with_pieces p.waiting

-- it comes to the same, is lighter, and its moves stay valid
pub record GoesOn (avoided : AvoidedValue) (old new : ProgressValue) : Type 0 where
  pub same : comes_to avoided new ≡ comes_to avoided old
  pub lighter : all_weights new.waiting < all_weights old.waiting
  pub valid : (suits : Items → Bool) (extra : Hyps) (start : List GoalValue) → AreApart avoided.terms extra → IsValid suits extra old.moves start (all_goals old) → IsValid suits extra new.moves start (all_goals new)

-- it goes on, or turns run out, where these names were tested
abbrev pub Goes : AvoidedValue → ProgressValue → ProgressValue → Option (List (List ℕ)) → Type 0
Goes avoided old new None = GoesOn avoided old new
Goes avoided old new (Some tested) = comes_to avoided old ≡ RunsOut tested
