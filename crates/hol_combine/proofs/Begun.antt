-- What is begun: the first part of each tactical, and the next of goals that are gone through.
use Rattle.std.specs.Prelude.{◌≡◌, ◌<◌, ◌≤◌, ◌+◌, ◌==◌, ℕ, suc, Bool, true, false, List, [], ◌∷◌, ◌++◌, length, reverse, refl}
use Rattle.std.specs.Borrow.{Bor}
use Rattle.std.specs.Global.{Vec}
use Rattle.std.specs.Cmp.Derive.{both_true}
use Rattle.std.proofs.Common.{ap, sym, ◌∙◌, subst, arith}
use mathlib.Core.Bool.{true≢false}
use Rattle.std.proofs.lemmas.Bool.{and_parts, eqb-true}
use Rattle.std.proofs.lemmas.List.{append-nil, length-reverse, reverse-append}
use Rattle.hol_kernel.specs.Sequent.{no_hyps}
use Rattle.hol_goal.specs.Goal.{GoalValue}
use Rattle.hol_goal.specs.Answer.{UsedValue}
use Rattle.hol_just.specs.Valid.{IsValid}
use Rattle.hol_just.proofs.Validity.{valid_none}
use Rattle.hol_combine.specs.ExprValue.{ExprValue, ExprValues, Then, OrElse, Repeat, Every, Replicate, exprs, then_all, or_else_all, used_through}
use Rattle.hol_combine.specs.Runs.{KnownValue, RunValue, Leaves, Stops, TurnLimit, run}
use Rattle.hol_combine.specs.Suits.{all_calls, all_calls_of}
use Rattle.hol_combine.specs.RunView.{used_by, IsError}
use Rattle.hol_combine.specs.Going.{IsKept}
use Rattle.hol_combine.specs.Work.{WorkValue, work_value, with_next, started}
use Rattle.hol_combine.specs.Pending.{ReachedValue, Runs, Left, Goes, through, by_rounds, by_counts}
use Rattle.hol_combine.specs.Steps.{steps_of, steps_through, steps_by_rounds, steps_by_counts}
use Rattle.hol_combine.specs.Advancing.{IsStop}
use Rattle.hol_combine.specs.declared.ran.Ran.{Ran}
use Rattle.hol_combine.specs.declared.ran.RunError.{RunError}
use Rattle.hol_combine.specs.declared.work.Work.{Work}
use Rattle.hol_combine.specs.declared.pending.Pending.TheVariants as pending
use Rattle.hol_combine.proofs.Around.{begins_chain, begins_every, begins_or_else, begins_more, begins_rounds, begins_counts, next_through, next_round, no_round, next_counted, no_count, uses_run, uses_stop}
use Rattle.hol_combine.proofs.Counting.{chain_steps, more_steps, every_steps, or_else_steps, next_steps, uses_steps, round_steps, count_steps}
use Rattle.hol_combine.proofs.Lists.{in_then, of_one, one_of, in_both, in_used, in_or_else, every_one}
use Rattle.hol_combine.proofs.Paying.{IsPaid}
use Rattle.hol_combine.proofs.Stepping.{Enters, Becomes, paid_stop}
use Rattle.hol_combine.proofs.Turns.{run_falls}

module _ (known : KnownValue) (goal : GoalValue) (used : UsedValue) where
  -- ---- parts of tacticals

  chain_begun : (t u : ExprValue) (us : List ExprValue) (a b : ℕ × ℕ) → Enters known (Runs (then_all (Then t u) us) goal used) (pending.Then (record { ref_ptr = a; now = u ∷ [] }) (record { ref_ptr = b; now = us })) (Runs t goal used)
  chain_begun t u us a b = record {
    answer = begins_chain known t u us goal used;
    steps = chain_steps known t u us goal used;
    calls = λ test h. let r = in_then test (Then t u) us h in let p = and_parts (all_calls test t) (all_calls test u) r.0 in (p.0, both_true p.1 r.1);
    led = λ suits start outer l. (goal, refl, l);
    fits = tt;
  }

  pub then_begun : (t u : ExprValue) (us : List ExprValue) (parts more : Bor (List ExprValue)) → parts.now ≡ u ∷ [] → more.now ≡ us → Enters known (Runs (then_all (Then t u) us) goal used) (pending.Then parts more) (Runs t goal used)
  then_begun t u us parts more one rest =
      subst (λ (l : List ExprValue). Enters known (Runs (then_all (Then t u) us) goal used) (pending.Then (record { ref_ptr = parts.ref_ptr; now = l }) more) (Runs t goal used)) (sym one)
      (subst (λ (l : List ExprValue). Enters known (Runs (then_all (Then t u) us) goal used) (pending.Then (record { ref_ptr = parts.ref_ptr; now = u ∷ [] }) (record { ref_ptr = more.ref_ptr; now = l })) (Runs t goal used)) (sym rest)
      (chain_begun t u us parts.ref_ptr more.ref_ptr))

  pub or_else_begun : (t : ExprValue) (us : List ExprValue) (same : GoalValue) (next : Bor ExprValue) (more : Bor (List ExprValue)) → same ≡ goal → more.now ≡ us →
      Enters known (Runs (OrElse t (or_else_all next.now us)) goal used) (pending.OrElse same next more) (Runs t goal used)
  or_else_begun t us same next more copied is =
      subst (λ (l : List ExprValue). Enters known (Runs (OrElse t (or_else_all next.now l)) goal used) (pending.OrElse same next more) (Runs t goal used)) is
      (subst (λ (g : GoalValue). Enters known (Runs (OrElse t (or_else_all next.now more.now)) goal used) (pending.OrElse g next more) (Runs t goal used)) (sym copied)
      (record {
        answer = begins_or_else known t next.now more.now goal used;
        steps = or_else_steps known t next.now more.now goal used;
        calls = λ test h. let p = and_parts (all_calls test t) (all_calls test (or_else_all next.now more.now)) h in let r = in_or_else test next.now more.now p.1 in (p.0, both_true r.0 r.1);
        led = λ suits start outer l. (goal, (refl, refl), l);
        fits = tt;
      }))

  pub every_begun : (t : ExprValue) (ts : List ExprValue) (rest none : Bor (List ExprValue)) → ts ≡ t ∷ rest.now → 1 ≤ length rest.now → none.now ≡ [] → Enters known (Runs (Every (exprs ts)) goal used) (pending.Then rest none) (Runs t goal used)
  every_begun t ts rest none is some empty =
      subst (λ (l : List ExprValue). Enters known (Runs (Every (exprs l)) goal used) (pending.Then rest none) (Runs t goal used)) (sym is)
      (subst (λ (l : List ExprValue). Enters known (Runs (Every (exprs (t ∷ rest.now))) goal used) (pending.Then rest (record { ref_ptr = none.ref_ptr; now = l })) (Runs t goal used)) (sym empty) (go rest.now some))
    where
      go : (l : List ExprValue) → 1 ≤ length l → Enters known (Runs (Every (exprs (t ∷ l))) goal used) (pending.Then (record { ref_ptr = rest.ref_ptr; now = l }) (record { ref_ptr = none.ref_ptr; now = [] })) (Runs t goal used)
      go [] h = absurd (omega (arith, h))
      go (u ∷ us) h = record {
        answer = begins_every known t (u ∷ us) goal used;
        steps = every_steps known t u us goal used;
        calls = λ test h. let p = and_parts (all_calls test t) (all_calls_of test (exprs (u ∷ us))) h in (p.0, subst (λ (l : List ExprValue). all_calls_of test (exprs l) ≡ true) (sym (append-nil (u ∷ us))) p.1);
        led = λ suits start outer l. (goal, refl, l);
        fits = tt;
      }

  -- ---- parts that are the whole

  pub every_only : (t : ExprValue) (ts : List ExprValue) → ts ≡ t ∷ [] → Becomes known (Runs (Every (exprs ts)) goal used) (Runs t goal used)
  every_only t ts is =
      subst (λ (l : List ExprValue). Becomes known (Runs (Every (exprs l)) goal used) (Runs t goal used)) (sym is)
      (record { answer = sym (every_one known t goal used); steps = omega arith; calls = λ test h. one_of test t h; led = λ suits start outer all l. l })

  pub uses_begun : (n : ℕ) (t : ExprValue) (paid : UsedValue) → used.turns_left ≡ suc n + paid.turns_left → paid.tested ≡ used.tested → Becomes known (Runs (used_through (suc n) t) goal used) (Runs t goal paid)
  uses_begun n t paid turns same = record {
    answer = sym (uses_run known t goal (suc n) used paid turns same);
    steps = (let less = uses_steps known (suc n) t goal used paid turns same in omega (arith, less));
    calls = λ test h. in_used test (suc n) t h;
    led = λ suits start outer all l. l;
  }

  pub uses_stopped : (n : ℕ) (t : ExprValue) (e : RunError) → used.turns_left ≤ n → IsError (Stops TurnLimit used.tested) e → IsStop (run known (used_through (suc n) t) goal used) e
  uses_stopped n t e few h = paid_stop (run known (used_through (suc n) t) goal used) used.tested e (uses_stop known t goal (suc n) used (omega (arith, few))) h

  -- ---- rounds

  -- the goal alone waits
  abbrev alone : WorkValue
  alone = record { done = []; waiting = goal ∷ []; moves = []; used = used }

  kept_alone : (r : Ran) (w : WorkValue) → IsKept goal used r → w ≡ started r → w ≡ alone
  kept_alone r w k is = is ∙ (λ i. record { done = []; waiting = k.goals i; moves = k.just i; used = k.used i })

  pub rounds_begun : (t : ExprValue) (r : Ran) (w : WorkValue) → IsKept goal used r → w ≡ started r → Becomes known (Runs (Repeat t) goal used) (Goes (exprs (t ∷ [])) (by_rounds (run known t)) (steps_by_rounds known t) w)
  rounds_begun t r w k is =
      subst (λ (v : WorkValue). Becomes known (Runs (Repeat t) goal used) (Goes (exprs (t ∷ [])) (by_rounds (run known t)) (steps_by_rounds known t) v)) (sym (kept_alone r w k is))
      (record { answer = begins_rounds (run known t) goal used; steps = omega arith; calls = λ test h. of_one test t h; led = λ suits start outer all l. (goal, valid_none suits no_hyps (goal ∷ []), l) })

  pub counts_begun : (t : ExprValue) (times n : ℕ) (ns : List ℕ) (r : Ran) (w : WorkValue) → times ≡ suc n → ns ≡ n ∷ [] → IsKept goal used r → w ≡ started r →
      Becomes known (Runs (Replicate times t) goal used) (Goes (exprs (t ∷ [])) (by_counts (run known t) ns) (steps_by_counts known t ns) w)
  counts_begun t times n ns r w more one k is =
      subst (λ (m : ℕ). Becomes known (Runs (Replicate m t) goal used) (Goes (exprs (t ∷ [])) (by_counts (run known t) ns) (steps_by_counts known t ns) w)) (sym more)
      (subst (λ (ms : List ℕ). Becomes known (Runs (Replicate (suc n) t) goal used) (Goes (exprs (t ∷ [])) (by_counts (run known t) ms) (steps_by_counts known t ms) w)) (sym one)
      (subst (λ (v : WorkValue). Becomes known (Runs (Replicate (suc n) t) goal used) (Goes (exprs (t ∷ [])) (by_counts (run known t) (n ∷ [])) (steps_by_counts known t (n ∷ [])) v)) (sym (kept_alone r w k is))
      (record { answer = begins_counts (run known t) n goal used; steps = omega arith; calls = λ test h. of_one test t h; led = λ suits start outer all l. (goal, valid_none suits no_hyps (goal ∷ []), l) })))

-- ---- the next of goals that are gone through

module _ (known : KnownValue) (w : WorkValue) (goal : GoalValue) (used : UsedValue) (work : Work) (was : w ≡ with_next goal used (work_value work)) where
  pub each_begun : (parts more : Bor (List ExprValue)) →
      Enters known (Goes (exprs (parts.now ++ more.now)) (through known parts.now more.now) (steps_through known parts.now more.now) w) (pending.Each parts more work) (Runs (Every (exprs parts.now)) goal used)
  each_begun parts more =
      subst (λ (v : WorkValue). Enters known (Goes (exprs (parts.now ++ more.now)) (through known parts.now more.now) (steps_through known parts.now more.now) v) (pending.Each parts more work) (Runs (Every (exprs parts.now)) goal used)) (sym was)
      (record {
        answer = sym (next_through known parts.now more.now (work_value work) goal used);
        steps = next_steps known parts.now more.now (work_value work) goal used;
        calls = λ test h. ((in_both test parts.now more.now h).0, h);
        led = λ suits start outer l. l;
        fits = tt;
      })

  pub round_begun : (part : Bor ExprValue) (same : GoalValue) (paid : UsedValue) → same ≡ goal → IsPaid used paid →
      Enters known (Goes (exprs (part.now ∷ [])) (by_rounds (run known part.now)) (steps_by_rounds known part.now) w) (pending.Repeat part same work) (Runs part.now goal paid)
  round_begun part same paid copied pays =
      subst (λ (g : GoalValue). Enters known (Goes (exprs (part.now ∷ [])) (by_rounds (run known part.now)) (steps_by_rounds known part.now) w) (pending.Repeat part g work) (Runs part.now goal paid)) (sym copied)
      (subst (λ (v : WorkValue). Enters known (Goes (exprs (part.now ∷ [])) (by_rounds (run known part.now)) (steps_by_rounds known part.now) v) (pending.Repeat part goal work) (Runs part.now goal paid)) (sym was)
      (record {
        answer = next_round (run known part.now) (run_falls known part.now) (work_value work) goal used paid pays;
        steps = round_steps (run known part.now) (steps_of known part.now) (run_falls known part.now) (work_value work).waiting goal used paid pays;
        calls = λ test h. (one_of test part.now h, h);
        led = λ suits start outer l. (l.0, (refl, l.1), l.2);
        fits = tt;
      }))

  pub count_begun : (part : Bor ExprValue) (more : ℕ) (rounds : Vec ℕ) (ns : List ℕ) (paid : UsedValue) → ns ≡ more ∷ reverse rounds.items → length w.waiting ≡ length ns → IsPaid used paid →
      Enters known (Goes (exprs (part.now ∷ [])) (by_counts (run known part.now) ns) (steps_by_counts known part.now ns) w) (pending.Replicate part more rounds work) (Runs part.now goal paid)
  count_begun part more rounds ns paid is many pays =
      subst (λ (l : List ℕ). Enters known (Goes (exprs (part.now ∷ [])) (by_counts (run known part.now) l) (steps_by_counts known part.now l) w) (pending.Replicate part more rounds work) (Runs part.now goal paid)) (sym is)
      (subst (λ (v : WorkValue). Enters known (Goes (exprs (part.now ∷ [])) (by_counts (run known part.now) (more ∷ reverse rounds.items)) (steps_by_counts known part.now (more ∷ reverse rounds.items)) v) (pending.Replicate part more rounds work) (Runs part.now goal paid)) (sym was)
      (record {
        answer = sym (next_counted (run known part.now) more (reverse rounds.items) (work_value work) goal used paid pays);
        steps = count_steps (run known part.now) (steps_of known part.now) (run_falls known part.now) more (reverse rounds.items) (work_value work).waiting goal used paid pays;
        calls = λ test h. (one_of test part.now h, h);
        led = λ suits start outer l. l;
        fits = (let there = ap (λ (v : WorkValue). length v.waiting) was in let here = ap (λ (l : List ℕ). length l) is in let turned = length-reverse rounds.items in omega (arith, there, here, turned, many));
      }))

  pub round_stops : (t : ExprValue) (e : RunError) → used.turns_left ≡ 0 → IsError (Stops TurnLimit used.tested) e → IsStop (by_rounds (run known t) w) e
  round_stops t e none h = paid_stop (by_rounds (run known t) w) used.tested e (ap (by_rounds (run known t)) was ∙ no_round (run known t) (run_falls known t) (work_value work) goal used none) h

  pub count_stops : (t : ExprValue) (n : ℕ) (ns ms : List ℕ) (e : RunError) → ms ≡ n ∷ ns → used.turns_left ≡ 0 → IsError (Stops TurnLimit used.tested) e → IsStop (by_counts (run known t) ms w) e
  count_stops t n ns ms e first none h = paid_stop (by_counts (run known t) ms w) used.tested e ((λ i. by_counts (run known t) (first i) (was i)) ∙ no_count (run known t) n ns (work_value work) goal used none) h

-- none waits
module _ (known : KnownValue) (w w1 : WorkValue) (r : Ran) (was : (w.waiting ≡ []) × (w1 ≡ w)) (goals : r.step.goals.items ≡ w1.done) (moves : r.step.just ≡ w1.moves) (left : used_by r ≡ w1.used) where
  abbrev nothing : WorkValue
  nothing = record { done = w.done; waiting = []; moves = w.moves; used = w.used }

  nothing_waits : w ≡ nothing
  nothing_waits = λ i. record { done = w.done; waiting = was.0 i; moves = w.moves; used = w.used }

  ended : Left w.done w.moves w.used ≡ Left r.step.goals.items r.step.just (used_by r)
  ended =
      ap (λ (v : WorkValue). Left v.done v.moves v.used) (sym was.1)
      ∙ (λ i. Left (sym goals i) (sym moves i) (sym left i))

  pub goes_to_end : (parts : ExprValues) (rest : WorkValue → RunValue) (steps : WorkValue → ℕ) → rest nothing ≡ Leaves (w.done ++ []) w.used → Becomes known (Goes parts rest steps w) (Left r.step.goals.items r.step.just (used_by r))
  goes_to_end parts rest steps is =
      subst (λ (v : WorkValue). Becomes known (Goes parts rest steps v) (Left r.step.goals.items r.step.just (used_by r))) (sym nothing_waits)
      (subst (λ (x : ReachedValue). Becomes known (Goes parts rest steps nothing) x) ended
      (record {
        answer = (λ i. Leaves (sym (append-nil w.done) i) w.used) ∙ sym is;
        steps = omega arith;
        calls = λ test h. refl;
        led = λ suits start outer all l. (l.0, subst (λ (gs : List GoalValue). IsValid suits no_hyps w.moves (l.0 ∷ []) gs) (append-nil w.done) l.1, l.2);
      }))

  chain_goes_on : (parts us : List ExprValue) (n : ExprValue) (a b : ℕ × ℕ) →
      Enters known (Goes (exprs (parts ++ n ∷ us)) (through known parts (n ∷ us)) (steps_through known parts (n ∷ us)) nothing) (pending.Then (record { ref_ptr = a; now = n ∷ [] }) (record { ref_ptr = b; now = us })) (Left w.done w.moves w.used)
  chain_goes_on parts us n a b = record {
    answer = begins_more known n us w.done w.used;
    steps = (let less = more_steps known n us w.done w.used in omega (arith, less));
    calls = λ test h. (refl, (in_both test parts (n ∷ us) h).1);
    led = λ suits start outer l. (l.0, subst (λ (gs : List GoalValue). IsValid suits no_hyps w.moves (l.0 ∷ []) gs) (append-nil w.done) l.1, (l.0, refl, l.2));
    fits = tt;
  }

  pub more_begun : (parts more one rest : Bor (List ExprValue)) (n : ExprValue) → more.now ≡ n ∷ rest.now → one.now ≡ n ∷ [] →
      Enters known (Goes (exprs (parts.now ++ more.now)) (through known parts.now more.now) (steps_through known parts.now more.now) w) (pending.Then one rest) (Left r.step.goals.items r.step.just (used_by r))
  more_begun parts more one rest n is alone =
      subst (λ (l : List ExprValue). Enters known (Goes (exprs (parts.now ++ l)) (through known parts.now l) (steps_through known parts.now l) w) (pending.Then one rest) (Left r.step.goals.items r.step.just (used_by r))) (sym is)
      (subst (λ (l : List ExprValue). Enters known (Goes (exprs (parts.now ++ n ∷ rest.now)) (through known parts.now (n ∷ rest.now)) (steps_through known parts.now (n ∷ rest.now)) w) (pending.Then (record { ref_ptr = one.ref_ptr; now = l }) rest) (Left r.step.goals.items r.step.just (used_by r))) (sym alone)
      (subst (λ (v : WorkValue). Enters known (Goes (exprs (parts.now ++ n ∷ rest.now)) (through known parts.now (n ∷ rest.now)) (steps_through known parts.now (n ∷ rest.now)) v) (pending.Then (record { ref_ptr = one.ref_ptr; now = n ∷ [] }) rest) (Left r.step.goals.items r.step.just (used_by r))) (sym nothing_waits)
      (subst (λ (x : ReachedValue). Enters known (Goes (exprs (parts.now ++ n ∷ rest.now)) (through known parts.now (n ∷ rest.now)) (steps_through known parts.now (n ∷ rest.now)) nothing) (pending.Then (record { ref_ptr = one.ref_ptr; now = n ∷ [] }) rest) x) ended
      (chain_goes_on parts.now rest.now n one.ref_ptr rest.ref_ptr))))

  pub through_ends : (parts more : Bor (List ExprValue)) → more.now ≡ [] → Becomes known (Goes (exprs (parts.now ++ more.now)) (through known parts.now more.now) (steps_through known parts.now more.now) w) (Left r.step.goals.items r.step.just (used_by r))
  through_ends parts more is =
      goes_to_end (exprs (parts.now ++ more.now)) (through known parts.now more.now) (steps_through known parts.now more.now)
      (ap (λ (l : List ExprValue). through known parts.now l nothing) is)

-- ---- lists

pub none_in : (ts : List ExprValue) → length ts < 1 → ts ≡ []
none_in [] h = refl
none_in (t ∷ ts) h = absurd (omega (arith, h))

pub empty_list : (ts : List ExprValue) (b : Bool) → b ≡ (length ts == 0) → b ≡ true → ts ≡ []
empty_list ts b is h = none_in ts (let n : length ts ≡ 0 = eqb-true (length ts) 0 (sym is ∙ h) in omega (arith, n))

pub some_list : (ts : List ExprValue) (b : Bool) → b ≡ (length ts == 0) → b ≡ false → 1 ≤ length ts
some_list [] b is h = absurd (true≢false (sym is ∙ h))
some_list (t ∷ ts) b is h = omega arith

pub popped : (xs ys : List ℕ) (n : ℕ) → xs ≡ ys ++ n ∷ [] → reverse xs ≡ n ∷ reverse ys
popped xs ys n e = ap (λ (l : List ℕ). reverse l) e ∙ reverse-append ys (n ∷ [])
