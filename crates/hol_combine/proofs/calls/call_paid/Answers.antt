use Rattle.std.proofs.Common.{◌≡◌, ◌<◌, ◌≤◌, ◌∙◌, sym, subst, rules, Err}
use Rattle.std.specs.Prelude.{string_bytes, ℕ}
use Rattle.hol_goal.specs.ArgumentsView.{args_value}
use Rattle.hol_goal.specs.UsedView.{used_value}
use Rattle.hol_combine.specs.Called.{IsAnsweredBy}
use Rattle.hol_combine.specs.Runs.{Refuses, Stops, TurnLimit, LargeGoal, DoesNotFit, run_meaning, meaning_at}
use Rattle.hol_combine.specs.RunView.{IsRun, using}
use Rattle.hol_combine.proofs.Calling.{by_meaning, meaning_beyond, answered_left, answered_unfit, answered_stops, answered_large, left_falls, refused_falls, at_most_more, small_justified}
use Rattle.hol_combine.proofs.Turns.{at_falls}
use Rattle.hol_combine.proofs.calls.call_paid.Goals as goal

-- no function stands at the index
pub returns-then-call-count-clause-answer : goal.returns-then-call-count-clause-answer
returns-then-call-count-clause-answer g c =
    let known = g.T.Tacs.known_of c.args.tacs.now in
    let index = c.args.call.now.index in
    let same : string_bytes c.in_ok-name.name ≡ string_bytes c.args.call.now.name = search rules in
    subst (λ m. run_meaning m (string_bytes c.args.call.now.name) (args_value c.args.call.now.args) c.args.goal.now (used_value c.args.used) ≡ Refuses (DoesNotFit (string_bytes c.in_ok-name.name)) (used_value c.args.used)) (sym (meaning_beyond known.names known.table index (subst (λ (n : ℕ). n ≤ index) c.count.ensures c.if-call-count.true)))
    (λ i. Refuses (DoesNotFit (sym same i)) (used_value c.args.used))

pub returns-in-Ok-clause-answer : goal.returns-in-Ok-clause-answer
returns-in-Ok-clause-answer g c =
    let known = g.T.Tacs.known_of c.args.tacs.now in
    let index = c.args.call.now.index in
    let args = args_value c.args.call.now.args in
    subst (λ run. IsRun run c.small.result)
    (sym (answered_left (meaning_at known.names known.table index) (string_bytes c.args.call.now.name) args c.args.goal.now (used_value c.args.used) c.in-Ok.tried (by_meaning known index args c.args.goal.now c.args.used.left _ (subst (λ (n : ℕ). index < n) c.count.ensures c.if-call-count.false) c.in-Ok.ensures.answer)))
    c.small.ensures.answer

pub returns-in-Ok-clause-valid : goal.returns-in-Ok-clause-valid
returns-in-Ok-clause-valid g c = small_justified (args_value c.args.call.now.args) c.args.goal.now c.in-Ok.tried.step c.small.result c.in-Ok.ensures.valid c.small.ensures.step

pub returns-in-Ok-clause-left : goal.returns-in-Ok-clause-left
returns-in-Ok-clause-left g c =
    let known = g.T.Tacs.known_of c.args.tacs.now in
    let index = c.args.call.now.index in
    let args = args_value c.args.call.now.args in
    at_most_more c.in-Ok.tried.left c.args.used.left c.small.result
    (left_falls (meaning_at known.names known.table index) args c.args.goal.now c.args.used.left c.in-Ok.tried (at_falls known.names known.table index) (by_meaning known index args c.args.goal.now c.args.used.left _ (subst (λ (n : ℕ). index < n) c.count.ensures c.if-call-count.false) c.in-Ok.ensures.answer))
    c.small.ensures.left

pub returns-in_ok-tested-in-Err-Refused-clause-answer : goal.returns-in_ok-tested-in-Err-Refused-clause-answer
returns-in_ok-tested-in-Err-Refused-clause-answer g c =
    let known = g.T.Tacs.known_of c.args.tacs.now in
    let index = c.args.call.now.index in
    let args = args_value c.args.call.now.args in
    let left = c.in-Err-Refused.left in
    let same : string_bytes c.in_ok-name-in-Err-Refused.name ≡ string_bytes c.args.call.now.name = search rules in
    answered_unfit (meaning_at known.names known.table index) (string_bytes c.args.call.now.name) args c.args.goal.now (used_value c.args.used) left c.in-Err-Refused.more
    (subst (λ e. IsAnsweredBy (meaning_at known.names known.table index) args c.args.goal.now c.args.used.left (Err e)) c.in-Err-Refused.field-0-is (by_meaning known index args c.args.goal.now c.args.used.left _ (subst (λ (n : ℕ). index < n) c.count.ensures c.if-call-count.false) c.in-Err-Refused.ensures.answer))
    ∙ (λ i. Refuses (DoesNotFit (sym same i)) (using left (sym c.in_ok-tested-in-Err-Refused.ensures i)))

pub returns-in_ok-tested-in-Err-Refused-clause-left : goal.returns-in_ok-tested-in-Err-Refused-clause-left
returns-in_ok-tested-in-Err-Refused-clause-left g c =
    let known = g.T.Tacs.known_of c.args.tacs.now in
    let index = c.args.call.now.index in
    let args = args_value c.args.call.now.args in
    refused_falls (meaning_at known.names known.table index) args c.args.goal.now c.args.used.left c.in-Err-Refused.left c.in-Err-Refused.more (at_falls known.names known.table index)
    (subst (λ e. IsAnsweredBy (meaning_at known.names known.table index) args c.args.goal.now c.args.used.left (Err e)) c.in-Err-Refused.field-0-is (by_meaning known index args c.args.goal.now c.args.used.left _ (subst (λ (n : ℕ). index < n) c.count.ensures c.if-call-count.false) c.in-Err-Refused.ensures.answer))

pub returns-in_ok-joined-in-Err-TurnLimit-clause-answer : goal.returns-in_ok-joined-in-Err-TurnLimit-clause-answer
returns-in_ok-joined-in-Err-TurnLimit-clause-answer g c =
    let known = g.T.Tacs.known_of c.args.tacs.now in
    let index = c.args.call.now.index in
    let args = args_value c.args.call.now.args in
    answered_stops (meaning_at known.names known.table index) (string_bytes c.args.call.now.name) args c.args.goal.now (used_value c.args.used) c.in-Err-TurnLimit.more
    (subst (λ e. IsAnsweredBy (meaning_at known.names known.table index) args c.args.goal.now c.args.used.left (Err e)) c.in-Err-TurnLimit.field-0-is (by_meaning known index args c.args.goal.now c.args.used.left _ (subst (λ (n : ℕ). index < n) c.count.ensures c.if-call-count.false) c.in-Err-TurnLimit.ensures.answer))
    ∙ (λ i. Stops TurnLimit (sym c.in_ok-joined-in-Err-TurnLimit.ensures i))

pub returns-in_ok-joined-in-Err-TooLarge-clause-answer : goal.returns-in_ok-joined-in-Err-TooLarge-clause-answer
returns-in_ok-joined-in-Err-TooLarge-clause-answer g c =
    let known = g.T.Tacs.known_of c.args.tacs.now in
    let index = c.args.call.now.index in
    let args = args_value c.args.call.now.args in
    answered_large (meaning_at known.names known.table index) (string_bytes c.args.call.now.name) args c.args.goal.now (used_value c.args.used) c.in-Err-TooLarge.more
    (subst (λ e. IsAnsweredBy (meaning_at known.names known.table index) args c.args.goal.now c.args.used.left (Err e)) c.in-Err-TooLarge.field-0-is (by_meaning known index args c.args.goal.now c.args.used.left _ (subst (λ (n : ℕ). index < n) c.count.ensures c.if-call-count.false) c.in-Err-TooLarge.ensures.answer))
    ∙ (λ i. Stops LargeGoal (sym c.in_ok-joined-in-Err-TooLarge.ensures i))
