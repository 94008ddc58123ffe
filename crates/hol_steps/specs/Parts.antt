-- What the code says of what pieces become. Only its clauses speak of it.
use Rattle.std.specs.Prelude.{◌≡◌, [], ◌∷◌, ◌++◌, map, reverse, Some, None}
use Rattle.hol_terms.specs.Nameless.{Nameless}
use Rattle.hol_kernel.specs.Sequent.{Hyps}
use Rattle.hol_goal.specs.Goal.{GoalValue}
use Rattle.hol_goal.specs.Answer.{UsedValue}
use Rattle.hol_goal.specs.UsedView.{used_value}
use Rattle.hol_just.specs.Strip.{AvoidedValue, WaitingValue, waiting, Piece, becomes}
use Rattle.hol_just.specs.Valid.{IsValid}
use Rattle.hol_just.specs.Justifies.{goal_at, always}
use Rattle.hol_steps.specs.Fresh.{AvoidAlike, AreApart}
use Rattle.hol_steps.specs.declared.pieces.Parts.{Parts}
use Rattle.hol_steps.specs.declared.pieces.Becoming.{Becoming}
use Rattle.hol_steps.specs.declared.pieces.Becoming.TheVariants as becoming

-- a goal with the pieces that wait on it as assumptions too
abbrev pub with_pieces : WaitingValue → GoalValue
with_pieces w = goal_at (w.pieces ++ w.goal.assumptions) w.goal.conclusion

-- The pieces p and then those of w become the parts, by what becomes of p, and the moves are valid where pieces are assumptions.
pub record AreParts (avoided : AvoidedValue) (p : Nameless) (w : WaitingValue) (used : UsedValue) (c : Piece) (parts : Parts) : Type 0 where
  pub is : becomes avoided p w.pieces w.goal c used ≡ Some (reverse parts.waiting.items, used_value parts.used)
  pub valid : (extra : Hyps) → AreApart avoided.terms extra → IsValid always extra parts.just (with_pieces (waiting (p ∷ w.pieces) w.goal) ∷ []) (map with_pieces (reverse parts.waiting.items))

-- the same for all terms of the names that those others have
abbrev pub ArePartsBy : AvoidedValue → Nameless → WaitingValue → UsedValue → Piece → Parts → Type 0
ArePartsBy others p w used c parts = (avoided : AvoidedValue) → AvoidAlike others avoided → AreParts avoided p w used c parts

-- or no turn is left
abbrev pub Becomes : AvoidedValue → Nameless → WaitingValue → UsedValue → Piece → Becoming → Type 0
Becomes others p w used c (becoming.Parts parts) = ArePartsBy others p w used c parts
Becomes others p w used c (becoming.RunsOut tested) = ((avoided : AvoidedValue) → becomes avoided p w.pieces w.goal c used ≡ None) × (tested.items ≡ used.tested)
