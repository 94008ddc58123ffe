-- When a theorem achieves a goal (LNCS 78, Edinburgh LCF), and which goals are well typed.
use Rattle.std.specs.Prelude.{◌≡◌, true, List, map}
use Rattle.std.specs.List.{AllByRecursion}
use Rattle.std.specs.FinSet as set
use Rattle.hol_terms.specs.Nameless.{Nameless}
use Rattle.hol_terms.specs.Alpha.{strip}
use Rattle.hol_formulas.specs.Equation.{bool_type}
use Rattle.hol_kernel.specs.Items.{Items}
use Rattle.hol_kernel.specs.Sequent.{Hyps, Sequent}
use Rattle.hol_kernel.specs.Typing.{HasType}
use Rattle.hol_goal.specs.Goal.{GoalValue}

-- the assumptions as hypotheses, which are taken up to bound names
abbrev pub assumed : List Nameless → Hyps
assumed ps = set.from_list (map strip ps)

-- each hypothesis is an assumption or one of the extra ones
abbrev pub AreAllowed : Hyps → List Nameless → Hyps → Type 0
AreAllowed extra assumptions hyps = (p : Nameless) → set.contains hyps p ≡ true → set.contains (set.union extra (assumed assumptions)) p ≡ true

-- The sequent concludes what the goal does, up to bound names, from its assumptions and the extra hypotheses.
pub record Achieves (extra : Hyps) (s : Sequent) (g : GoalValue) : Type 0 where
  pub concludes : strip s.concl ≡ strip g.conclusion
  pub allowed : AreAllowed extra g.assumptions s.hyps

-- Each assumption and the conclusion is well typed over the prelude and the items, of type bool.
pub record IsTyped (basis : Items) (g : GoalValue) : Type 0 where
  pub assumptions : AllByRecursion (λ p. HasType basis p bool_type) g.assumptions
  pub conclusion : HasType basis g.conclusion bool_type
