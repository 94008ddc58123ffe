-- Expressions in lists and chains.
use Rattle.std.specs.Prelude.{◌≡◌, ◌≤◌, ◌<◌, ◌+◌, ℕ, zero, suc, Bool, true, List, [], ◌∷◌, ◌++◌, length, refl}
use Rattle.std.specs.Cmp.Derive.{both_true}
use Rattle.std.proofs.Common.{ap, sym, ◌∙◌, arith, get_or, drop, take, ◌-◌}
use Rattle.std.proofs.lemmas.Bool.{and_parts}
use Rattle.std.proofs.lemmas.List.{take_rest}
use Rattle.hol_goal.specs.Goal.{GoalValue}
use Rattle.hol_goal.specs.Answer.{UsedValue}
use Rattle.hol_combine.specs.ExprValue.{CallValue, ExprValue, Then, no_exprs, more_exprs, exprs, then_all, or_else_all, used_through}
use Rattle.hol_combine.specs.Runs.{KnownValue, RunValue, Leaves, Refuses, Stops, before_goals, then_on, each, run, run_every, run_first}
use Rattle.hol_combine.specs.Suits.{all_calls, all_calls_of}
use Rattle.hol_combine.specs.More.{run_more}
use Rattle.hol_combine.proofs.After.{then_leaves, then_then, otherwise_same, each_unchanged}

-- ---- tests of calls

module _ (test : CallValue → Bool) where
  pub of_one : (t : ExprValue) → all_calls test t ≡ true → all_calls_of test (more_exprs t no_exprs) ≡ true
  of_one t h = both_true h refl

  pub one_of : (t : ExprValue) → all_calls_of test (more_exprs t no_exprs) ≡ true → all_calls test t ≡ true
  one_of t h = (and_parts (all_calls test t) true h).0

  pub in_then : (t : ExprValue) (us : List ExprValue) → all_calls test (then_all t us) ≡ true → (all_calls test t ≡ true) × (all_calls_of test (exprs us) ≡ true)
  in_then t [] h = (h, refl)
  in_then t (u ∷ us) h =
      let r = in_then (Then t u) us h in
      let p = and_parts (all_calls test t) (all_calls test u) r.0 in
      (p.0, both_true p.1 r.1)

  pub in_used : (n : ℕ) (t : ExprValue) → all_calls test (used_through n t) ≡ true → all_calls test t ≡ true
  in_used zero t h = h
  in_used (suc n) t h = in_used n t h

  pub in_or_else : (t : ExprValue) (us : List ExprValue) → all_calls test (or_else_all t us) ≡ true → (all_calls test t ≡ true) × (all_calls_of test (exprs us) ≡ true)
  in_or_else t [] h = (h, refl)
  in_or_else t (u ∷ us) h =
      let p = and_parts (all_calls test t) (all_calls test (or_else_all u us)) h in
      let r = in_or_else u us p.1 in
      (p.0, both_true r.0 r.1)

-- lists of two parts
module _ (test : CallValue → Bool) where
  pub in_both : (ts us : List ExprValue) → all_calls_of test (exprs (ts ++ us)) ≡ true → (all_calls_of test (exprs ts) ≡ true) × (all_calls_of test (exprs us) ≡ true)
  in_both [] us h = (refl, h)
  in_both (t ∷ ts) us h =
      let p = and_parts (all_calls test t) (all_calls_of test (exprs (ts ++ us))) h in
      let r = in_both ts us p.1 in
      (both_true p.0 r.0, r.1)

-- ---- runs

module _ (known : KnownValue) where
  pub every_one : (t : ExprValue) (goal : GoalValue) (used : UsedValue) → run_every known (more_exprs t no_exprs) goal used ≡ run known t goal used
  every_one t goal used = go (run known t goal used)
    where
      go : (x : RunValue) → then_on x (each (run_every known no_exprs)) ≡ x
      go (Leaves goals left) = each_unchanged goals left
      go (Refuses why left) = refl
      go (Stops why tested) = refl

  pub each_every_one : (t : ExprValue) (goals : List GoalValue) (used : UsedValue) → each (run_every known (more_exprs t no_exprs)) goals used ≡ each (run known t) goals used
  each_every_one t [] used = refl
  each_every_one t (g ∷ goals) used = ap (λ x. then_on x (λ new l. before_goals new (each (run_every known (more_exprs t no_exprs)) goals l))) (every_one t g used) ∙ go (run known t g used) (λ l. each_every_one t goals l)
    where
      go : (x : RunValue) → ((l : UsedValue) → each (run_every known (more_exprs t no_exprs)) goals l ≡ each (run known t) goals l) →
          then_on x (λ new l. before_goals new (each (run_every known (more_exprs t no_exprs)) goals l)) ≡ then_on x (λ new l. before_goals new (each (run known t) goals l))
      go (Leaves new left) h = ap (before_goals new) (h left)
      go (Refuses why left) h = refl
      go (Stops why tested) h = refl

  -- a chain of THEN
  pub then_more : (t : ExprValue) (us : List ExprValue) (goal : GoalValue) (used : UsedValue) → run known (then_all t us) goal used ≡ then_on (run known t goal used) (run_more known (exprs us))
  then_more t [] goal used = sym (then_leaves (run known t goal used))
  then_more t (u ∷ us) goal used = then_more (Then t u) us goal used ∙ then_then (run known t goal used) (each (run known u)) (run_more known (exprs us))

  -- FIRST of a list is a chain of ORELSE
  pub first_is : (t : ExprValue) (us : List ExprValue) (goal : GoalValue) (used : UsedValue) → run_first known (more_exprs t (exprs us)) goal used ≡ run known (or_else_all t us) goal used
  first_is t [] goal used = refl
  first_is t (u ∷ us) goal used = otherwise_same (run known t goal used) (run_first known (more_exprs u (exprs us)) goal) (run known (or_else_all u us) goal) (λ l. first_is u us goal l)

-- ---- the expression at a place of a list

pub drop_item : (ts : List ExprValue) (i : ℕ) (t : ExprValue) → i < length ts → t ≡ get_or ts i t → exprs (drop i ts) ≡ more_exprs t (exprs (drop (i + 1) ts))
drop_item [] i t h e = absurd (omega (arith, h))
drop_item (x ∷ ts) zero t h e = λ j. more_exprs (sym e j) (exprs ts)
drop_item (x ∷ ts) (suc i) t h e = drop_item ts i t (omega (arith, h)) e ∙ ap (λ j. more_exprs t (exprs (drop j (x ∷ ts)))) (more i)
  where
    more : (i : ℕ) → suc (i + 1) ≡ suc i + 1
    more i = omega arith

pub dropped_all : (ts : List ExprValue) (i : ℕ) → length ts ≤ i → exprs (drop i ts) ≡ no_exprs
dropped_all [] zero h = refl
dropped_all [] (suc i) h = refl
dropped_all (x ∷ ts) zero h = absurd (omega (arith, h))
dropped_all (x ∷ ts) (suc i) h = dropped_all ts i (omega (arith, h))

pub split : (ts : List ExprValue) (t : ExprValue) → 1 ≤ length ts → t ≡ get_or ts 0 t → ts ≡ t ∷ take (length ts - 1) (drop 1 ts)
split [] t h e = absurd (omega (arith, h))
split (x ∷ ts) t h e = λ i. sym e i ∷ sym (take_rest (x ∷ ts) 1) i
