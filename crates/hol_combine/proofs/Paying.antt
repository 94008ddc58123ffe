-- A turn that is paid.
use Rattle.std.specs.Prelude.{◌≡◌, ◌+◌, ℕ, zero, suc, List, refl}
use Rattle.std.proofs.Common.{ap, sym, arith}
use Rattle.hol_goal.specs.Answer.{UsedValue}
use Rattle.hol_goal.specs.UsedView.{used_value}
use Rattle.hol_goal.specs.declared.used.Used.{Used}
use Rattle.hol_combine.specs.Runs.{RunValue, Stops, TurnLimit, paying_from, paying}

-- of the one a turn is paid, which leaves the other
pub record IsPaid (used paid : UsedValue) : Type 0 where
  pub turns : used.turns_left ≡ suc paid.turns_left
  pub tested : paid.tested ≡ used.tested

pub pays_for : (used paid : UsedValue) (next : UsedValue → RunValue) → IsPaid used paid → paying next used ≡ next paid
pays_for used paid next h = λ i. paying_from next (sym h.tested i) (h.turns i)

pub pays_not : (used : UsedValue) (next : UsedValue → RunValue) → used.turns_left ≡ 0 → paying next used ≡ Stops TurnLimit used.tested
pays_not used next none = ap (paying_from next used.tested) none

pub paid_is : (used : UsedValue) (u : Used) → used.turns_left ≡ u.left + 1 → u.tested.items ≡ used.tested → IsPaid used (used_value u)
paid_is used u turns same = record { turns = omega (arith, turns); tested = same }
