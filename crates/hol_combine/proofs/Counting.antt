-- Steps of the loop: what begins, or goes on, has fewer steps left.
use Rattle.std.specs.Prelude.{◌≡◌, ◌<◌, ◌≤◌, ◌+◌, ℕ, zero, suc, List, [], ◌∷◌, ◌++◌, length, refl}
use Rattle.std.proofs.Common.{ap, sym, ◌∙◌, arith}
use Rattle.std.proofs.lemmas.List.{append-nil}
use Rattle.hol_goal.specs.Goal.{GoalValue}
use Rattle.hol_goal.specs.Answer.{UsedValue}
use Rattle.hol_combine.specs.ExprValue.{ExprValue, Then, no_exprs, more_exprs, exprs, then_all, or_else_all, used_through}
use Rattle.hol_combine.specs.Runs.{KnownValue, RunValue, Leaves, Refuses, Stops, before_goals, then_on, each, run, run_every}
use Rattle.hol_combine.specs.Work.{WorkValue, with_next, finished}
use Rattle.hol_combine.specs.Pending.{all_waiting}
use Rattle.hol_combine.specs.Steps.{steps_then, steps_otherwise, steps_either, steps_paid_from, steps_paid, steps_each, steps_rounds, rounds_after, goals_after, steps_counted, steps_of, steps_every, steps_first, steps_more, steps_through}
use Rattle.hol_combine.proofs.After.{before_both, before_none}
use Rattle.hol_combine.proofs.Falling.{IsWithin, Falls}
use Rattle.hol_combine.proofs.Lists.{each_every_one}
use Rattle.hol_combine.proofs.Paying.{IsPaid}

-- ---- steps after runs

then_none : (x : RunValue) (next : List GoalValue → UsedValue → ℕ) → ((g : List GoalValue) (l : UsedValue) → next g l ≡ 0) → steps_then x next ≡ 0
then_none (Leaves g l) next e = e g l
then_none (Refuses why l) next e = refl
then_none (Stops why tested) next e = refl

otherwise_same : (x : RunValue) (a b : UsedValue → ℕ) → ((l : UsedValue) → a l ≡ b l) → steps_otherwise x a ≡ steps_otherwise x b
otherwise_same (Leaves g l) a b e = refl
otherwise_same (Refuses why l) a b e = e l
otherwise_same (Stops why tested) a b e = refl

then_more : (x : RunValue) (a b : List GoalValue → UsedValue → ℕ) → ((g : List GoalValue) (l : UsedValue) → a g l ≤ b g l) → steps_then x a ≤ steps_then x b
then_more (Leaves g l) a b h = h g l
then_more (Refuses why l) a b h = omega arith
then_more (Stops why tested) a b h = omega arith

either_more : (x : RunValue) (a b : List GoalValue → UsedValue → ℕ) (c d : UsedValue → ℕ) → ((g : List GoalValue) (l : UsedValue) → a g l ≤ b g l) → ((l : UsedValue) → c l ≤ d l) → steps_either x a c ≤ steps_either x b d
either_more (Leaves g l) a b c d h k = h g l
either_more (Refuses why l) a b c d h k = k l
either_more (Stops why tested) a b c d h k = omega arith

paid_more : (a b : UsedValue → ℕ) (tested : List (List ℕ)) (turns : ℕ) → ((l : UsedValue) → a l ≤ b l) → steps_paid_from a tested turns ≤ steps_paid_from b tested turns
paid_more a b tested zero h = omega arith
paid_more a b tested (suc turns) h = h (record { turns_left = turns; tested = tested })

added : (a m n : ℕ) → m ≤ n → a + 2 + m ≤ a + 2 + n
added a m n h = omega (arith, h)

module _ (known : KnownValue) where
  -- ---- chains of THEN

  chain_more : (t : ExprValue) (us : List ExprValue) (goal : GoalValue) (used : UsedValue) →
      steps_of known t goal used + steps_then (run known t goal used) (steps_more known (exprs us)) ≤ steps_of known (then_all t us) goal used
  chain_more t [] goal used = let none : steps_then (run known t goal used) (steps_more known no_exprs) ≡ 0 = then_none (run known t goal used) (steps_more known no_exprs) (λ g l. refl) in omega (arith, none)
  chain_more t (v ∷ vs) goal used =
      let more : steps_of known (Then t v) goal used + steps_then (run known (Then t v) goal used) (steps_more known (exprs vs)) ≤ steps_of known (then_all (Then t v) vs) goal used = chain_more (Then t v) vs goal used in
      let link = go (run known t goal used) in
      omega (arith, more, link)
    where
      go : (x : RunValue) → steps_then x (steps_more known (more_exprs v (exprs vs))) ≤ 2 + steps_then x (steps_each (run_every known (more_exprs v no_exprs)) (steps_of known v)) + steps_then (then_on x (each (run known v))) (steps_more known (exprs vs))
      go (Leaves g l) = let same = ap (λ y. steps_then y (steps_more known (exprs vs))) (each_every_one known v g l) in omega (arith, same)
      go (Refuses why l) = omega arith
      go (Stops why tested) = omega arith

  pub chain_steps : (t u : ExprValue) (us : List ExprValue) (goal : GoalValue) (used : UsedValue) →
      steps_of known t goal used + (2 + steps_then (run known t goal used) (λ g l. steps_through known (u ∷ []) us (all_waiting g l))) < steps_of known (then_all (Then t u) us) goal used
  chain_steps t u us goal used =
      let more : steps_of known (Then t u) goal used + steps_then (run known (Then t u) goal used) (steps_more known (exprs us)) ≤ steps_of known (then_all (Then t u) us) goal used = chain_more (Then t u) us goal used in
      let link = go (run known t goal used) in
      omega (arith, more, link)
    where
      go : (x : RunValue) → steps_then x (λ g l. steps_through known (u ∷ []) us (all_waiting g l)) ≤ steps_then x (steps_each (run_every known (more_exprs u no_exprs)) (steps_of known u)) + steps_then (then_on x (each (run known u))) (steps_more known (exprs us))
      go (Leaves g l) =
          let same = ap (λ y. steps_then y (steps_more known (exprs us))) (before_none (each (run_every known (more_exprs u no_exprs)) g l) ∙ each_every_one known u g l) in
          let alike : steps_each (run_every known (more_exprs u no_exprs)) (steps_every known (more_exprs u no_exprs)) g l ≡ steps_each (run_every known (more_exprs u no_exprs)) (steps_of known u) g l = refl in
          omega (arith, same, alike)
      go (Refuses why l) = omega arith
      go (Stops why tested) = omega arith

  pub more_steps : (n : ExprValue) (us : List ExprValue) (done : List GoalValue) (used : UsedValue) →
      2 + steps_through known (n ∷ []) us (all_waiting done used) < steps_more known (exprs (n ∷ us)) (done ++ []) used + 1
  more_steps n us done used =
      let same = ap (λ (gs : List GoalValue). steps_more known (exprs (n ∷ us)) gs used) (append-nil done) in
      let none = ap (λ y. steps_then y (steps_more known (exprs us))) (before_none (each (run_every known (more_exprs n no_exprs)) done used)) in
      let alike : steps_each (run_every known (more_exprs n no_exprs)) (steps_every known (more_exprs n no_exprs)) done used ≡ steps_each (run_every known (more_exprs n no_exprs)) (steps_of known n) done used = refl in
      omega (arith, same, none, alike)

  -- ---- EVERY

  pub every_steps : (t u : ExprValue) (us : List ExprValue) (goal : GoalValue) (used : UsedValue) →
      steps_of known t goal used + (2 + steps_then (run known t goal used) (λ g l. steps_through known (u ∷ us) [] (all_waiting g l))) < steps_every known (exprs (t ∷ u ∷ us)) goal used + 1
  every_steps t u us goal used = let link = go (run known t goal used) in omega (arith, link)
    where
      go : (x : RunValue) → steps_then x (λ g l. steps_through known (u ∷ us) [] (all_waiting g l)) ≤ steps_then x (steps_each (run_every known (exprs (u ∷ us))) (steps_every known (exprs (u ∷ us))))
      go (Leaves g l) = let none = then_none (before_goals [] (each (run_every known (exprs (u ∷ us))) g l)) (steps_more known no_exprs) (λ h k. refl) in omega (arith, none)
      go (Refuses why l) = omega arith
      go (Stops why tested) = omega arith

  -- ---- ORELSE

  pub first_steps : (t : ExprValue) (us : List ExprValue) (goal : GoalValue) (used : UsedValue) → steps_first known (exprs (t ∷ us)) goal used ≡ steps_of known (or_else_all t us) goal used
  first_steps t [] goal used = refl
  first_steps t (u ∷ us) goal used =
      ap (λ n. steps_of known t goal used + 3 + n) (otherwise_same (run known t goal used) (steps_first known (exprs (u ∷ us)) goal) (steps_of known (or_else_all u us) goal) (λ l. first_steps u us goal l))

  pub or_else_steps : (t u : ExprValue) (us : List ExprValue) (goal : GoalValue) (used : UsedValue) →
      steps_of known t goal used + (2 + steps_otherwise (run known t goal used) (steps_first known (exprs (u ∷ us)) goal)) < steps_of known t goal used + 3 + steps_otherwise (run known t goal used) (steps_of known (or_else_all u us) goal)
  or_else_steps t u us goal used =
      let same = otherwise_same (run known t goal used) (steps_first known (exprs (u ∷ us)) goal) (steps_of known (or_else_all u us) goal) (λ l. first_steps u us goal l) in
      omega (arith, same)

  -- ---- the next of goals that are gone through

  pub next_steps : (parts more : List ExprValue) (w : WorkValue) (goal : GoalValue) (used : UsedValue) →
      steps_every known (exprs parts) goal used + 1 + (2 + steps_then (run_every known (exprs parts) goal used) (λ new l. steps_through known parts more (finished w new [] l))) < steps_through known parts more (with_next goal used w) + 1
  next_steps parts more w goal used = let link = go (run_every known (exprs parts) goal used) in omega (arith, link)
    where
      go : (x : RunValue) → steps_then x (λ new l. steps_through known parts more (finished w new [] l)) ≤ steps_then x (λ new l. steps_each (run_every known (exprs parts)) (steps_every known (exprs parts)) w.waiting l)
          + steps_then (before_goals w.done (then_on x (λ new l. before_goals new (each (run_every known (exprs parts)) w.waiting l)))) (steps_more known (exprs more))
      go (Leaves new l) = let both = ap (λ y. steps_then y (steps_more known (exprs more))) (before_both w.done new (each (run_every known (exprs parts)) w.waiting l)) in omega (arith, both)
      go (Refuses why l) = omega arith
      go (Stops why tested) = omega arith

  -- ---- uses of named expressions

  pub uses_steps : (n : ℕ) (t : ExprValue) (goal : GoalValue) (used paid : UsedValue) → used.turns_left ≡ n + paid.turns_left → paid.tested ≡ used.tested → steps_of known t goal paid + n ≤ steps_of known (used_through n t) goal used
  uses_steps zero t goal used paid turns same =
      let turn : used.turns_left ≡ paid.turns_left = omega (arith, turns) in
      let is : steps_of known t goal used ≡ steps_of known t goal paid = λ i. steps_of known t goal (record { turns_left = turn i; tested = sym same i }) in
      omega (arith, is)
  uses_steps (suc n) t goal used paid turns same =
      let left : UsedValue = record { turns_left = n + paid.turns_left; tested = used.tested } in
      let turn : used.turns_left ≡ suc (n + paid.turns_left) = omega (arith, turns) in
      let pays : steps_paid (steps_of known (used_through n t) goal) used ≡ steps_of known (used_through n t) goal left = λ i. steps_paid_from (steps_of known (used_through n t) goal) used.tested (turn i) in
      let rest = uses_steps n t goal left paid refl same in
      omega (arith, pays, rest)

-- ---- rounds of REPEAT

module _ (f : GoalValue → UsedValue → RunValue) (steps : GoalValue → UsedValue → ℕ) where
  -- for more turns no fewer
  rounds_more : (m n : ℕ) (goals : List GoalValue) (used : UsedValue) → m ≤ n → steps_rounds f steps m goals used ≤ steps_rounds f steps n goals used
  rounds_more zero n goals used h = omega arith
  rounds_more (suc m) zero goals used h = absurd (omega (arith, h))
  rounds_more (suc m) (suc n) [] used h = omega arith
  rounds_more (suc m) (suc n) (g ∷ goals) used h =
      let few : m ≤ n = omega (arith, h) in
      paid_more (λ left. steps g left + 2 + steps_either (f g left) (λ new l. steps_rounds f steps m (new ++ goals) l) (λ l. steps_rounds f steps m goals l))
      (λ left. steps g left + 2 + steps_either (f g left) (λ new l. steps_rounds f steps n (new ++ goals) l) (λ l. steps_rounds f steps n goals l)) used.tested used.turns_left
      (λ left. added (steps g left) (steps_either (f g left) (λ new l. steps_rounds f steps m (new ++ goals) l) (λ l. steps_rounds f steps m goals l)) (steps_either (f g left) (λ new l. steps_rounds f steps n (new ++ goals) l) (λ l. steps_rounds f steps n goals l))
      (either_more (f g left) (λ new l. steps_rounds f steps m (new ++ goals) l) (λ new l. steps_rounds f steps n (new ++ goals) l) (λ l. steps_rounds f steps m goals l) (λ l. steps_rounds f steps n goals l)
      (λ new l. rounds_more m n (new ++ goals) l few) (λ l. rounds_more m n goals l few)))

  pub round_steps : (falls : Falls f) (rest : List GoalValue) (goal : GoalValue) (used paid : UsedValue) → IsPaid used paid →
      steps goal paid + (2 + steps_either (f goal paid) (λ new l. steps_rounds f steps l.turns_left (new ++ rest) l) (λ l. steps_rounds f steps l.turns_left rest l)) < steps_rounds f steps used.turns_left (goal ∷ rest) used + 1
  round_steps falls rest goal used paid pays =
      let at : steps_rounds f steps used.turns_left (goal ∷ rest) used ≡ steps goal paid + 2 + steps_either (f goal paid) (λ new l. steps_rounds f steps paid.turns_left (new ++ rest) l) (λ l. steps_rounds f steps paid.turns_left rest l) =
      λ i. steps_rounds f steps (pays.turns i) (goal ∷ rest) (record { turns_left = pays.turns i; tested = sym pays.tested i }) in
      let link = go (f goal paid) (falls goal paid) in
      omega (arith, at, link)
    where
      go : (x : RunValue) → IsWithin paid x →
          steps_either x (λ new l. steps_rounds f steps l.turns_left (new ++ rest) l) (λ l. steps_rounds f steps l.turns_left rest l) ≤ steps_either x (λ new l. steps_rounds f steps paid.turns_left (new ++ rest) l) (λ l. steps_rounds f steps paid.turns_left rest l)
      go (Leaves new l) within = rounds_more l.turns_left paid.turns_left (new ++ rest) l within.turns
      go (Refuses why l) within = rounds_more l.turns_left paid.turns_left rest l within.turns
      go (Stops why tested) within = omega arith

  -- ---- rounds of REPLICATE_TAC

  counts_more : (m n : ℕ) (ns : List ℕ) (goals : List GoalValue) (used : UsedValue) → m ≤ n → steps_counted f steps m ns goals used ≤ steps_counted f steps n ns goals used
  counts_more zero n ns goals used h = omega arith
  counts_more (suc m) zero ns goals used h = absurd (omega (arith, h))
  counts_more (suc m) (suc n) [] [] used h = omega arith
  counts_more (suc m) (suc n) (k ∷ ns) [] used h = omega arith
  counts_more (suc m) (suc n) [] (g ∷ goals) used h = omega arith
  counts_more (suc m) (suc n) (k ∷ ns) (g ∷ goals) used h =
      let few : m ≤ n = omega (arith, h) in
      paid_more (λ left. steps g left + 2 + steps_then (f g left) (λ new l. steps_counted f steps m (rounds_after k (length new) ns) (goals_after k new goals) l))
      (λ left. steps g left + 2 + steps_then (f g left) (λ new l. steps_counted f steps n (rounds_after k (length new) ns) (goals_after k new goals) l)) used.tested used.turns_left
      (λ left. added (steps g left) (steps_then (f g left) (λ new l. steps_counted f steps m (rounds_after k (length new) ns) (goals_after k new goals) l)) (steps_then (f g left) (λ new l. steps_counted f steps n (rounds_after k (length new) ns) (goals_after k new goals) l))
      (then_more (f g left) (λ new l. steps_counted f steps m (rounds_after k (length new) ns) (goals_after k new goals) l) (λ new l. steps_counted f steps n (rounds_after k (length new) ns) (goals_after k new goals) l)
      (λ new l. counts_more m n (rounds_after k (length new) ns) (goals_after k new goals) l few)))

  pub count_steps : (falls : Falls f) (k : ℕ) (ns : List ℕ) (rest : List GoalValue) (goal : GoalValue) (used paid : UsedValue) → IsPaid used paid →
      steps goal paid + (2 + steps_then (f goal paid) (λ new l. steps_counted f steps l.turns_left (rounds_after k (length new) ns) (goals_after k new rest) l)) < steps_counted f steps used.turns_left (k ∷ ns) (goal ∷ rest) used + 1
  count_steps falls k ns rest goal used paid pays =
      let at : steps_counted f steps used.turns_left (k ∷ ns) (goal ∷ rest) used ≡ steps goal paid + 2 + steps_then (f goal paid) (λ new l. steps_counted f steps paid.turns_left (rounds_after k (length new) ns) (goals_after k new rest) l) =
      λ i. steps_counted f steps (pays.turns i) (k ∷ ns) (goal ∷ rest) (record { turns_left = pays.turns i; tested = sym pays.tested i }) in
      let link = go (f goal paid) (falls goal paid) in
      omega (arith, at, link)
    where
      go : (x : RunValue) → IsWithin paid x → steps_then x (λ new l. steps_counted f steps l.turns_left (rounds_after k (length new) ns) (goals_after k new rest) l) ≤ steps_then x (λ new l. steps_counted f steps paid.turns_left (rounds_after k (length new) ns) (goals_after k new rest) l)
      go (Leaves new l) within = counts_more l.turns_left paid.turns_left (rounds_after k (length new) ns) (goals_after k new rest) l within.turns
      go (Refuses why l) within = omega arith
      go (Stops why tested) within = omega arith
