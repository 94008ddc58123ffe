-- What goes on where a part has ended, by what was pending.
use Rattle.std.specs.Prelude.{◌≡◌, ◌+◌, ℕ, zero, suc, Bool, true, cond, codes, List, [], ◌∷◌, ◌++◌, length, reverse, refl}
use Rattle.std.specs.Borrow.{Bor}
use Rattle.std.specs.Global.{Vec}
use Rattle.std.proofs.Common.{ap, sym, ◌∙◌, subst, arith, append_assoc}
use Rattle.std.proofs.lemmas.List.{length-append, length-reverse}
use Rattle.hol_kernel.specs.Items.{Items}
use Rattle.hol_kernel.specs.Sequent.{no_hyps}
use Rattle.hol_goal.specs.Goal.{GoalValue}
use Rattle.hol_goal.specs.Answer.{UsedValue}
use Rattle.hol_just.specs.Gives.{moved}
use Rattle.hol_just.specs.Valid.{IsValid}
use Rattle.hol_just.specs.declared.reason.Move.{Move}
use Rattle.hol_just.proofs.Validity.{valid_at}
use Rattle.hol_combine.specs.ExprValue.{ExprValue, First, exprs}
use Rattle.hol_combine.specs.Runs.{KnownValue, Leaves, Refuses, RefusalValue, DoesNotFit, then_on, is_just, run}
use Rattle.hol_combine.specs.Going.{copies}
use Rattle.hol_combine.specs.Work.{WorkValue, work_value, finished, again, kept}
use Rattle.hol_combine.specs.Pending.{Runs, Left, Refused, Goes, through, in_place, by_rounds, by_counts, resumed}
use Rattle.hol_combine.specs.Steps.{steps_through, steps_by_places, steps_by_rounds, steps_by_counts}
use Rattle.hol_combine.specs.Advancing.{LeadsBeside, LeadsTo}
use Rattle.hol_combine.specs.declared.work.Work.{Work}
use Rattle.hol_combine.specs.declared.pending.Pending.TheVariants as pending
use Rattle.hol_combine.proofs.After.{before_none, each_unchanged}
use Rattle.hol_combine.proofs.Around.{counts_again}
use Rattle.hol_combine.proofs.Ends.{list_as_many, list_refused}
use Rattle.hol_combine.proofs.Stepping.{Resumes}

-- ---- moves on the goal that was taken, at its place

module _ (suits : Items → Bool) (from goal : GoalValue) (w : WorkValue) (new : List GoalValue) (moves : List Move) (beside : LeadsBeside suits from w goal) (valid : IsValid suits no_hyps moves (goal ∷ []) new) where
  pub at_place : IsValid suits no_hyps (w.moves ++ moved (length w.done) moves) (from ∷ []) (w.done ++ (new ++ w.waiting))
  at_place = valid_at suits no_hyps w.moves moves (from ∷ []) w.done (goal ∷ []) new w.waiting (length w.done) refl beside valid

  pub all_done : IsValid suits no_hyps (w.moves ++ moved (length w.done) moves) (from ∷ []) ((w.done ++ new) ++ w.waiting)
  all_done = subst (λ (gs : List GoalValue). IsValid suits no_hyps (w.moves ++ moved (length w.done) moves) (from ∷ []) gs) (sym (append_assoc w.done new w.waiting)) at_place

module _ (known : KnownValue) (goals : List GoalValue) (moves : List Move) (used : UsedValue) where
  -- ---- THEN and EVERY

  pub then_continued : (parts more : Bor (List ExprValue)) (w : WorkValue) → w ≡ record { done = []; waiting = goals; moves = moves; used = used } →
      Resumes known (pending.Then parts more) (Left goals moves used) (Goes (exprs (parts.now ++ more.now)) (through known parts.now more.now) (steps_through known parts.now more.now) w)
  then_continued parts more w is =
      subst (λ (v : WorkValue). Resumes known (pending.Then parts more) (Left goals moves used) (Goes (exprs (parts.now ++ more.now)) (through known parts.now more.now) (steps_through known parts.now more.now) v)) (sym is)
      (record {
        answer = refl;
        steps = omega arith;
        calls = λ test h. h;
        led = λ suits start outer l. (l.2.0, subst (λ (g : GoalValue). IsValid suits no_hyps moves (g ∷ []) goals) l.2.1 l.1, l.2.2);
      })

  pub each_continued : (parts more : Bor (List ExprValue)) (work : Work) (w : WorkValue) → w ≡ finished (work_value work) goals moves used →
      Resumes known (pending.Each parts more work) (Left goals moves used) (Goes (exprs (parts.now ++ more.now)) (through known parts.now more.now) (steps_through known parts.now more.now) w)
  each_continued parts more work w is =
      subst (λ (v : WorkValue). Resumes known (pending.Each parts more work) (Left goals moves used) (Goes (exprs (parts.now ++ more.now)) (through known parts.now more.now) (steps_through known parts.now more.now) v)) (sym is)
      (record {
        answer = refl;
        steps = omega arith;
        calls = λ test h. h;
        led = λ suits start outer l. (l.2.0, all_done suits l.2.0 l.0 (work_value work) goals moves l.2.1 l.1, l.2.2);
      })

  -- ---- THENL

  pub then_list_continued : (parts : Bor (List ExprValue)) (w : WorkValue) → length parts.now ≡ length goals → w ≡ record { done = []; waiting = goals; moves = moves; used = used } →
      Resumes known (pending.ThenL parts) (Left goals moves used) (Goes (exprs parts.now) (in_place known parts.now) (steps_by_places known parts.now) w)
  then_list_continued parts w many is =
      subst (λ (v : WorkValue). Resumes known (pending.ThenL parts) (Left goals moves used) (Goes (exprs parts.now) (in_place known parts.now) (steps_by_places known parts.now) v)) (sym is)
      (record {
        answer = before_none _ ∙ sym (list_as_many known parts.now goals used many);
        steps = omega arith;
        calls = λ test h. h;
        led = λ suits start outer l. (l.2.0, subst (λ (g : GoalValue). IsValid suits no_hyps moves (g ∷ []) goals) l.2.1 l.1, l.2.2);
      })

  pub then_list_refuses : (parts : Bor (List ExprValue)) → (length parts.now ≡ length goals → ⊥) → resumed known (pending.ThenL parts) (Leaves goals used) ≡ Refuses (DoesNotFit (codes "THENL")) used
  then_list_refuses parts apart = list_refused known parts.now goals used apart

  pub places_continued : (parts : Bor (List ExprValue)) (work : Work) (w : WorkValue) → w ≡ finished (work_value work) goals moves used →
      Resumes known (pending.Places parts work) (Left goals moves used) (Goes (exprs parts.now) (in_place known parts.now) (steps_by_places known parts.now) w)
  places_continued parts work w is =
      subst (λ (v : WorkValue). Resumes known (pending.Places parts work) (Left goals moves used) (Goes (exprs parts.now) (in_place known parts.now) (steps_by_places known parts.now) v)) (sym is)
      (record {
        answer = refl;
        steps = omega arith;
        calls = λ test h. h;
        led = λ suits start outer l. (l.2.0, all_done suits l.2.0 l.0 (work_value work) goals moves l.2.1 l.1, l.2.2);
      })

  -- ---- CHANGED_TAC

  pub changed_refuses : (goal : GoalValue) → is_just goal goals ≡ true → resumed known (pending.Changed goal) (Leaves goals used) ≡ Refuses (DoesNotFit (codes "CHANGED_TAC")) used
  changed_refuses goal same = ap (λ b. cond b (Refuses (DoesNotFit (codes "CHANGED_TAC")) used) (Leaves goals used)) same

  -- ---- REPEAT and REPLICATE_TAC

  pub round_continued : (part : Bor ExprValue) (goal : GoalValue) (work : Work) (w : WorkValue) → w ≡ again (work_value work) goals moves used →
      Resumes known (pending.Repeat part goal work) (Left goals moves used) (Goes (exprs (part.now ∷ [])) (by_rounds (run known part.now)) (steps_by_rounds known part.now) w)
  round_continued part goal work w is =
      subst (λ (v : WorkValue). Resumes known (pending.Repeat part goal work) (Left goals moves used) (Goes (exprs (part.now ∷ [])) (by_rounds (run known part.now)) (steps_by_rounds known part.now) v)) (sym is)
      (record {
        answer = refl;
        steps = omega arith;
        calls = λ test h. h;
        led = λ suits start outer l. (l.2.0, at_place suits l.2.0 l.0 (work_value work) goals moves l.2.1.1 l.1, l.2.2);
      })

  pub last_continued : (part : Bor ExprValue) (more : ℕ) (rounds : Vec ℕ) (work : Work) (w : WorkValue) → more ≡ 0 → w ≡ finished (work_value work) goals moves used →
      Resumes known (pending.Replicate part more rounds work) (Left goals moves used) (Goes (exprs (part.now ∷ [])) (by_counts (run known part.now) (reverse rounds.items)) (steps_by_counts known part.now (reverse rounds.items)) w)
  last_continued part more rounds work w none is =
      subst (λ (n : ℕ). Resumes known (pending.Replicate part n rounds work) (Left goals moves used) (Goes (exprs (part.now ∷ [])) (by_counts (run known part.now) (reverse rounds.items)) (steps_by_counts known part.now (reverse rounds.items)) w)) (sym none)
      (subst (λ (v : WorkValue). Resumes known (pending.Replicate part 0 rounds work) (Left goals moves used) (Goes (exprs (part.now ∷ [])) (by_counts (run known part.now) (reverse rounds.items)) (steps_by_counts known part.now (reverse rounds.items)) v)) (sym is)
      (record {
        answer = sym (ap (λ x. then_on x (λ new left. by_counts (run known part.now) (reverse rounds.items) (finished (work_value work) new [] left))) (each_unchanged goals used));
        steps = omega arith;
        calls = λ test h. h;
        led = λ suits start outer l. (l.2.0, all_done suits l.2.0 l.0 (work_value work) goals moves l.2.1 l.1, l.2.2);
      }))

  pub count_continued : (part : Bor ExprValue) (more n : ℕ) (rounds : Vec ℕ) (ns : List ℕ) (work : Work) (w : WorkValue) → more ≡ suc n → ns ≡ copies (length goals) n ++ reverse rounds.items → w ≡ again (work_value work) goals moves used →
      Resumes known (pending.Replicate part more rounds work) (Left goals moves used) (Goes (exprs (part.now ∷ [])) (by_counts (run known part.now) ns) (steps_by_counts known part.now ns) w)
  count_continued part more n rounds ns work w is numbers waits =
      subst (λ (m : ℕ). Resumes known (pending.Replicate part m rounds work) (Left goals moves used) (Goes (exprs (part.now ∷ [])) (by_counts (run known part.now) ns) (steps_by_counts known part.now ns) w)) (sym is)
      (subst (λ (l : List ℕ). Resumes known (pending.Replicate part (suc n) rounds work) (Left goals moves used) (Goes (exprs (part.now ∷ [])) (by_counts (run known part.now) l) (steps_by_counts known part.now l) w)) (sym numbers)
      (subst (λ (v : WorkValue). Resumes known (pending.Replicate part (suc n) rounds work) (Left goals moves used) (Goes (exprs (part.now ∷ [])) (by_counts (run known part.now) (copies (length goals) n ++ reverse rounds.items)) (steps_by_counts known part.now (copies (length goals) n ++ reverse rounds.items)) v)) (sym waits)
      (record {
        answer = counts_again (run known part.now) n goals (reverse rounds.items) (work_value work) used;
        steps = omega arith;
        calls = λ test h. h;
        led = λ suits start outer l. (l.2.0, at_place suits l.2.0 l.0 (work_value work) goals moves l.2.1 l.1, l.2.2);
      })))

copies_length : (k n : ℕ) (ns : List ℕ) → length (copies k n ++ ns) ≡ k + length ns
copies_length zero n ns = omega arith
copies_length (suc k) n ns = omega (arith, copies_length k n ns)

-- as many goals wait as there are numbers
pub counts_wait : (goals : List GoalValue) (moves : List Move) (used : UsedValue) (n : ℕ) (xs ys : List ℕ) (w0 w : WorkValue) → reverse ys ≡ copies (length goals) n ++ reverse xs → w ≡ again w0 goals moves used → length w0.waiting ≡ length xs → length w.waiting ≡ length ys
counts_wait goals moves used n xs ys w0 w made is same =
    let waits : length w.waiting ≡ length goals + length w0.waiting = ap (λ (v : WorkValue). length v.waiting) is ∙ length-append goals w0.waiting in
    let numbers : length ys ≡ length goals + length (reverse xs) = sym (length-reverse ys) ∙ ap (λ (l : List ℕ). length l) made ∙ copies_length (length goals) n (reverse xs) in
    omega (arith, waits, numbers, same, length-reverse xs)

-- ---- refusals

module _ (known : KnownValue) (why : RefusalValue) (used : UsedValue) where
  pub or_else_continued : (goal : GoalValue) (next : Bor ExprValue) (more : Bor (List ExprValue)) → Resumes known (pending.OrElse goal next more) (Refused why used) (Runs (First (exprs (next.now ∷ more.now))) goal used)
  or_else_continued goal next more = record {
    answer = refl;
    steps = omega arith;
    calls = λ test h. h;
    led = λ suits start outer l. subst (LeadsTo suits start outer) (sym l.1.1.1) l.1.2;
  }

  pub round_kept : (part : Bor ExprValue) (goal : GoalValue) (work : Work) (w : WorkValue) → w ≡ kept (work_value work) goal used →
      Resumes known (pending.Repeat part goal work) (Refused why used) (Goes (exprs (part.now ∷ [])) (by_rounds (run known part.now)) (steps_by_rounds known part.now) w)
  round_kept part goal work w is =
      subst (λ (v : WorkValue). Resumes known (pending.Repeat part goal work) (Refused why used) (Goes (exprs (part.now ∷ [])) (by_rounds (run known part.now)) (steps_by_rounds known part.now) v)) (sym is)
      (record {
        answer = refl;
        steps = omega arith;
        calls = λ test h. h;
        led = λ suits start outer l. (l.1.0, stays suits l.1.0 l.0 l.1.1.0 l.1.1.1, l.1.2);
      })
    where
      stays : (suits : Items → Bool) (from taken : GoalValue) → taken ≡ goal → LeadsBeside suits from (work_value work) taken → IsValid suits no_hyps (work_value work).moves (from ∷ []) (((work_value work).done ++ goal ∷ []) ++ (work_value work).waiting)
      stays suits from taken same beside =
          subst (λ (gs : List GoalValue). IsValid suits no_hyps (work_value work).moves (from ∷ []) gs) (sym (append_assoc (work_value work).done (goal ∷ []) (work_value work).waiting))
          (subst (λ (g : GoalValue). LeadsBeside suits from (work_value work) g) same beside)
