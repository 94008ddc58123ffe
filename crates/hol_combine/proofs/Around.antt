-- What begins a tactical, or the next of goals that are gone through, comes to the same.
use Rattle.std.specs.Prelude.{◌≡◌, ◌<◌, ◌+◌, ℕ, zero, suc, List, [], ◌∷◌, ◌++◌, length, refl}
use Rattle.std.proofs.Common.{ap, sym, ◌∙◌, arith}
use Rattle.std.proofs.lemmas.List.{append-nil}
use Rattle.hol_goal.specs.Goal.{GoalValue}
use Rattle.hol_goal.specs.Answer.{UsedValue}
use Rattle.hol_combine.specs.ExprValue.{ExprValue, Then, no_exprs, more_exprs, exprs, then_all, or_else_all, used_through}
use Rattle.hol_combine.specs.Runs.{KnownValue, RunValue, Leaves, Refuses, Stops, TurnLimit, before_goals, then_on, otherwise, each, paying_from, repeated, replicate, run, run_every, run_first}
use Rattle.hol_combine.specs.More.{run_more}
use Rattle.hol_combine.specs.Going.{copies}
use Rattle.hol_combine.specs.Work.{WorkValue, with_next}
use Rattle.hol_combine.specs.Pending.{through, by_rounds, by_counts, counted, all_waiting, after_round}
use Rattle.hol_combine.proofs.After.{before_both, before_none, then_leaves, then_then, then_same_on, otherwise_same, each_one, none_after}
use Rattle.hol_combine.proofs.Counted.{counted_append}
use Rattle.hol_combine.proofs.Falling.{Falls, round_left, round_kept, round_stops, round_out}
use Rattle.hol_combine.proofs.Lists.{each_every_one, then_more, first_is}
use Rattle.hol_combine.proofs.Paying.{IsPaid, pays_for, pays_not}

-- ---- goals after those that are done

next_after : (done : List GoalValue) (x : RunValue) (rest : UsedValue → RunValue) →
    before_goals done (then_on x (λ new l. before_goals new (rest l))) ≡ then_on x (λ new l. before_goals (done ++ new) (rest l))
next_after done (Leaves new l) rest = before_both done new (rest l)
next_after done (Refuses why l) rest = refl
next_after done (Stops why tested) rest = refl

next_then : (done : List GoalValue) (x : RunValue) (rest : UsedValue → RunValue) (more : List GoalValue → UsedValue → RunValue) →
    then_on (before_goals done (then_on x (λ new l. before_goals new (rest l)))) more ≡ then_on x (λ new l. then_on (before_goals (done ++ new) (rest l)) more)
next_then done (Leaves new l) rest more = ap (λ y. then_on y more) (before_both done new (rest l))
next_then done (Refuses why l) rest more = refl
next_then done (Stops why tested) rest more = refl

module _ (known : KnownValue) where
  -- ---- where tacticals begin

  then_is : (t u : ExprValue) (us : List ExprValue) (goal : GoalValue) (used : UsedValue) →
      run known (then_all (Then t u) us) goal used ≡ then_on (then_on (run known t goal used) (each (run_every known (more_exprs u no_exprs)))) (run_more known (exprs us))
  then_is t u us goal used =
      then_more known (Then t u) us goal used
      ∙ ap (λ x. then_on x (run_more known (exprs us))) (then_same_on (run known t goal used) (each (run known u)) (each (run_every known (more_exprs u no_exprs))) (λ g l. sym (each_every_one known u g l)))

  pub begins_chain : (t u : ExprValue) (us : List ExprValue) (goal : GoalValue) (used : UsedValue) →
      then_on (run known t goal used) (λ goals left. through known (u ∷ []) us (all_waiting goals left)) ≡ run known (then_all (Then t u) us) goal used
  begins_chain t u us goal used =
      then_same_on (run known t goal used) (λ goals left. through known (u ∷ []) us (all_waiting goals left)) (λ goals left. then_on (each (run_every known (more_exprs u no_exprs)) goals left) (run_more known (exprs us)))
      (λ goals left. ap (λ x. then_on x (run_more known (exprs us))) (before_none (each (run_every known (more_exprs u no_exprs)) goals left)))
      ∙ sym (then_then (run known t goal used) (each (run_every known (more_exprs u no_exprs))) (run_more known (exprs us)))
      ∙ sym (then_is t u us goal used)

  pub begins_every : (t : ExprValue) (ts : List ExprValue) (goal : GoalValue) (used : UsedValue) →
      then_on (run known t goal used) (λ goals left. through known ts [] (all_waiting goals left)) ≡ run_every known (more_exprs t (exprs ts)) goal used
  begins_every t ts goal used =
      then_same_on (run known t goal used) (λ goals left. through known ts [] (all_waiting goals left)) (each (run_every known (exprs ts)))
      (λ goals left. then_leaves (before_goals [] (each (run_every known (exprs ts)) goals left)) ∙ before_none (each (run_every known (exprs ts)) goals left))

  pub begins_or_else : (t u : ExprValue) (us : List ExprValue) (goal : GoalValue) (used : UsedValue) →
      otherwise (run known t goal used) (run_first known (more_exprs u (exprs us)) goal) ≡ otherwise (run known t goal used) (run known (or_else_all u us) goal)
  begins_or_else t u us goal used = otherwise_same (run known t goal used) (run_first known (more_exprs u (exprs us)) goal) (run known (or_else_all u us) goal) (λ l. first_is known u us goal l)

  pub begins_more : (n : ExprValue) (us : List ExprValue) (done : List GoalValue) (used : UsedValue) →
      through known (n ∷ []) us (all_waiting done used) ≡ run_more known (exprs (n ∷ us)) (done ++ []) used
  begins_more n us done used =
      ap (λ x. then_on x (run_more known (exprs us))) (before_none (each (run_every known (more_exprs n no_exprs)) done used) ∙ each_every_one known n done used)
      ∙ ap (λ (gs : List GoalValue). then_on (each (run known n) gs used) (run_more known (exprs us))) (sym (append-nil done))

  -- ---- the next of goals that are gone through

  pub next_through : (parts more : List ExprValue) (w : WorkValue) (goal : GoalValue) (used : UsedValue) →
      through known parts more (with_next goal used w)
      ≡ then_on (run_every known (exprs parts) goal used) (λ new left. then_on (before_goals (w.done ++ new) (each (run_every known (exprs parts)) w.waiting left)) (run_more known (exprs more)))
  next_through parts more w goal used = next_then w.done (run_every known (exprs parts) goal used) (each (run_every known (exprs parts)) w.waiting) (run_more known (exprs more))

-- ---- rounds of REPEAT

pub begins_rounds : (f : GoalValue → UsedValue → RunValue) (goal : GoalValue) (used : UsedValue) → before_goals [] (each (repeated f) (goal ∷ []) used) ≡ repeated f goal used
begins_rounds f goal used = before_none (each (repeated f) (goal ∷ []) used) ∙ each_one (repeated f) goal used

module _ (f : GoalValue → UsedValue → RunValue) (falls : Falls f) (w : WorkValue) (goal : GoalValue) (used : UsedValue) where
  -- one that is paid
  pub next_round : (paid : UsedValue) → IsPaid used paid → after_round f goal w (f goal paid) ≡ by_rounds f (with_next goal used w)
  next_round paid h = go (f goal paid) refl
    where
      go : (x : RunValue) → f goal paid ≡ x → after_round f goal w x ≡ by_rounds f (with_next goal used w)
      go (Leaves new left) is = sym (ap (before_goals w.done) (round_left f falls goal w.waiting used paid left new h is))
      go (Refuses why left) is = sym (before_both w.done (goal ∷ []) (each (repeated f) w.waiting left)) ∙ sym (ap (before_goals w.done) (round_kept f falls goal w.waiting used paid left why h is))
      go (Stops why tested) is = sym (ap (before_goals w.done) (round_stops f falls goal w.waiting used paid why tested h is))

  pub no_round : used.turns_left ≡ 0 → by_rounds f (with_next goal used w) ≡ Stops TurnLimit used.tested
  no_round none = ap (before_goals w.done) (round_out f falls goal w.waiting used none)

-- ---- rounds of REPLICATE_TAC

pub begins_counts : (f : GoalValue → UsedValue → RunValue) (n : ℕ) (goal : GoalValue) (used : UsedValue) → before_goals [] (counted f (n ∷ []) (goal ∷ []) used) ≡ replicate f (suc n) goal used
begins_counts f n goal used = before_none (counted f (n ∷ []) (goal ∷ []) used) ∙ none_after (replicate f (suc n) goal used)

-- more rounds on the goals that one left
pub counts_again : (f : GoalValue → UsedValue → RunValue) (n : ℕ) (new : List GoalValue) (ns : List ℕ) (w : WorkValue) (used : UsedValue) →
    before_goals w.done (counted f (copies (length new) n ++ ns) (new ++ w.waiting) used) ≡ then_on (each (replicate f (suc n)) new used) (λ g l. before_goals (w.done ++ g) (counted f ns w.waiting l))
counts_again f n new ns w used =
    ap (before_goals w.done) (counted_append f n new ns w.waiting used)
    ∙ next_after w.done (each (replicate f (suc n)) new used) (counted f ns w.waiting)

pub no_count : (f : GoalValue → UsedValue → RunValue) (n : ℕ) (ns : List ℕ) (w : WorkValue) (goal : GoalValue) (used : UsedValue) → used.turns_left ≡ 0 → by_counts f (n ∷ ns) (with_next goal used w) ≡ Stops TurnLimit used.tested
no_count f n ns w goal used none =
    ap (λ a. before_goals w.done (then_on a (λ g l. before_goals g (counted f ns w.waiting l)))) (pays_not used (λ l. then_on (f goal l) (each (replicate f n))) none)

-- one that is paid
pub next_counted : (f : GoalValue → UsedValue → RunValue) (n : ℕ) (ns : List ℕ) (w : WorkValue) (goal : GoalValue) (used paid : UsedValue) → IsPaid used paid →
    by_counts f (n ∷ ns) (with_next goal used w) ≡ then_on (then_on (f goal paid) (each (replicate f n))) (λ new left. before_goals (w.done ++ new) (counted f ns w.waiting left))
next_counted f n ns w goal used paid h =
    ap (λ x. before_goals w.done (then_on x (λ new left. before_goals new (counted f ns w.waiting left)))) (pays_for used paid (λ left. then_on (f goal left) (each (replicate f n))) h)
    ∙ next_after w.done (then_on (f goal paid) (each (replicate f n))) (counted f ns w.waiting)

-- ---- uses of named expressions

module _ (known : KnownValue) (t : ExprValue) (goal : GoalValue) where
  -- so many are paid
  pub uses_run : (n : ℕ) (used paid : UsedValue) → used.turns_left ≡ n + paid.turns_left → paid.tested ≡ used.tested → run known (used_through n t) goal used ≡ run known t goal paid
  uses_run zero used paid turns same = let is : used.turns_left ≡ paid.turns_left = omega (arith, turns) in λ i. run known t goal (record { turns_left = is i; tested = sym same i })
  uses_run (suc n) used paid turns same =
      let left : UsedValue = record { turns_left = n + paid.turns_left; tested = used.tested } in
      pays_for used left (run known (used_through n t) goal) (record { turns = omega (arith, turns); tested = refl }) ∙ uses_run n left paid refl same

  -- fewer are left
  pub uses_stop : (n : ℕ) (used : UsedValue) → used.turns_left < n → run known (used_through n t) goal used ≡ Stops TurnLimit used.tested
  uses_stop zero used few = absurd (omega (arith, few))
  uses_stop (suc n) used few = go used.turns_left (λ turns h. uses_stop n (record { turns_left = turns; tested = used.tested }) h) few
    where
      go : (turns : ℕ) → ((m : ℕ) → m < n → run known (used_through n t) goal (record { turns_left = m; tested = used.tested }) ≡ Stops TurnLimit used.tested) → turns < suc n → paying_from (run known (used_through n t) goal) used.tested turns ≡ Stops TurnLimit used.tested
      go zero rest h = refl
      go (suc turns) rest h = rest turns (omega (arith, h))
