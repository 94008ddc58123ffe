-- What the code says of goals whose conclusion was converted. Only its clauses speak of it.
use Rattle.std.specs.Prelude.{◌≡◌, Bool, List, [], ◌∷◌}
use Rattle.hol_terms.specs.Nameless.{Nameless, nameless}
use Rattle.hol_kernel.specs.Given.{Given}
use Rattle.hol_kernel.specs.Items.{Items}
use Rattle.hol_kernel.specs.Sequent.{Hyps}
use Rattle.hol_match.specs.Givens.{all_hyps}
use Rattle.hol_conv.specs.declared.rewritten.Rewritten.{Rewritten}
use Rattle.hol_goal.specs.Goal.{GoalValue}
use Rattle.hol_goal.specs.Achieves.{AreAllowed}
use Rattle.hol_just.specs.Valid.{IsValid}
use Rattle.hol_just.specs.Justifies.{AreHeld}
use Rattle.hol_just.specs.declared.tried.Step.{Step}

-- the trace is that of a term, and of what it became
pub record IsConversion (t : Nameless) (r : Rewritten) : Type 0 where
  pub old : r.trace.old ≡ t
  pub new : r.trace.new ≡ nameless [] r.term

-- the step is valid wherever all that was given can be read, and its hypotheses are assumptions or left over
abbrev pub LeadsBy : GoalValue → List Given → Step → Type 0
LeadsBy goal givens step =
    (suits : Items → Bool) (extra : Hyps) → AreHeld suits goal.assumptions givens → AreAllowed extra goal.assumptions (all_hyps givens) → IsValid suits extra step.just (goal ∷ []) step.goals.items
