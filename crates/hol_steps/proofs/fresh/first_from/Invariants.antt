use Rattle.std.proofs.Common.{length, ◌-◌, ◌≡◌, ◌≤◌, ◌<◌, ℕ, get_or, true, false}
use Rattle.hol_steps.proofs.fresh.first_from.Given as goal

abbrev pub invariant-marked : goal.invariant-marked
invariant-marked l = record {
  later : l.place ≤ l.first;
  marked : (j : ℕ) → l.place ≤ j → j < l.first → get_or l.taken j false ≡ true;
}

abbrev pub decreases-marked : goal.decreases-marked
decreases-marked l = length l.taken - l.first
