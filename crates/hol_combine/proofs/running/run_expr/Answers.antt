-- What the run has come to comes to the whole, before each step and after it, and fewer steps are left.
use Rattle.std.proofs.Common.{◌≡◌, ◌≤◌, ◌<◌, ◌++◌, [], ◌∷◌, reverse, sym, subst, rules, Ok, Err}
use Rattle.std.proofs.lemmas.Result.{err_from_is_err_and}
use Rattle.hol_goal.specs.UsedView.{used_value}
use Rattle.hol_combine.specs.Runs.{run}
use Rattle.hol_combine.specs.Suits.{suits_expr}
use Rattle.hol_combine.specs.RunView.{refusal_value, used_by}
use Rattle.hol_combine.specs.Pending.{Runs, Left, Refused, reached_value, HasLeft}
use Rattle.hol_combine.specs.Steps.{steps_left}
use Rattle.hol_combine.specs.Advancing.{IsGoing}
use Rattle.hol_combine.specs.declared.pending.Reached.{Reached}
use Rattle.hol_combine.proofs.Stepping.{pops, stopped, stopped_left, has_left_more}
use Rattle.hol_combine.proofs.running.run_expr.Goals as goal

pub returns-in_err-reached-in-Part-clause-answer :
    goal.returns-in_err-reached-in-Part-clause-answer
returns-in_err-reached-in-Part-clause-answer g c =
    let known = g.T.Tacs.known_of c.args.tacs.now in
    let suits = suits_expr c.args.expr.now in
    let whole = run known c.args.expr.now c.args.goal.now (used_value c.args.used) in
    let going : IsGoing known suits c.args.goal.now whole (reverse c.steps.outer.items) (Runs c.in-Part.part.now c.in-Part.goal (used_value c.in-Part.used)) = subst (λ (r : Reached). IsGoing known suits c.args.goal.now whole (reverse c.steps.outer.items) (reached_value r)) c.in-Part.is c.steps.invariant.goes in
    let p = err_from_is_err_and c.from_residual-in_err-reached-in-Part.result c.from_residual-in_err-reached-in-Part.ensures.1 in
    stopped whole c.from_residual-in_err-reached-in-Part.result p.0 _ p.1 p.2 (c.in_err-reached-in-Part.ensures.goes suits c.args.goal.now whole going)

pub returns-in_err-reached-in-Part-clause-left : goal.returns-in_err-reached-in-Part-clause-left
returns-in_err-reached-in-Part-clause-left g c =
    let known = g.T.Tacs.known_of c.args.tacs.now in
    let suits = suits_expr c.args.expr.now in
    let whole = run known c.args.expr.now c.args.goal.now (used_value c.args.used) in
    let going : IsGoing known suits c.args.goal.now whole (reverse c.steps.outer.items) (Runs c.in-Part.part.now c.in-Part.goal (used_value c.in-Part.used)) = subst (λ (r : Reached). IsGoing known suits c.args.goal.now whole (reverse c.steps.outer.items) (reached_value r)) c.in-Part.is c.steps.invariant.goes in
    let p = err_from_is_err_and c.from_residual-in_err-reached-in-Part.result c.from_residual-in_err-reached-in-Part.ensures.1 in
    stopped_left c.args.used.left whole c.from_residual-in_err-reached-in-Part.result p.0 _ p.1 p.2 (c.in_err-reached-in-Part.ensures.goes suits c.args.goal.now whole going)

pub steps-smaller-in-Part : goal.steps-smaller-in-Part
steps-smaller-in-Part g c =
    let known = g.T.Tacs.known_of c.args.tacs.now in
    let suits = suits_expr c.args.expr.now in
    let whole = run known c.args.expr.now c.args.goal.now (used_value c.args.used) in
    let going : IsGoing known suits c.args.goal.now whole (reverse c.steps.outer.items) (Runs c.in-Part.part.now c.in-Part.goal (used_value c.in-Part.used)) = subst (λ (r : Reached). IsGoing known suits c.args.goal.now whole (reverse c.steps.outer.items) (reached_value r)) c.in-Part.is c.steps.invariant.goes in
    subst (λ (r : Reached). steps_left known (reverse c.begin.new.outer.items) (reached_value c.in_ok-reached-in-Part.reached) < steps_left known (reverse c.steps.outer.items) (reached_value r)) (sym c.in-Part.is) (c.in_ok-reached-in-Part.ensures.goes suits c.args.goal.now whole going).1

pub steps-preserved-in-Part : goal.steps-preserved-in-Part
steps-preserved-in-Part g c =
    let known = g.T.Tacs.known_of c.args.tacs.now in
    let suits = suits_expr c.args.expr.now in
    let whole = run known c.args.expr.now c.args.goal.now (used_value c.args.used) in
    let going : IsGoing known suits c.args.goal.now whole (reverse c.steps.outer.items) (Runs c.in-Part.part.now c.in-Part.goal (used_value c.in-Part.used)) = subst (λ (r : Reached). IsGoing known suits c.args.goal.now whole (reverse c.steps.outer.items) (reached_value r)) c.in-Part.is c.steps.invariant.goes in
    let few : c.in-Part.used.left ≤ c.args.used.left = subst (HasLeft c.args.used.left) c.in-Part.is c.steps.invariant.left in
    record { goes = (c.in_ok-reached-in-Part.ensures.goes suits c.args.goal.now whole going).0; left = has_left_more c.in-Part.used.left c.args.used.left c.in_ok-reached-in-Part.reached few c.in_ok-reached-in-Part.ensures.left }

pub returns-in_err-reached-in-Left-clause-answer :
    goal.returns-in_err-reached-in-Left-clause-answer
returns-in_err-reached-in-Left-clause-answer g c =
    let known = g.T.Tacs.known_of c.args.tacs.now in
    let suits = suits_expr c.args.expr.now in
    let whole = run known c.args.expr.now c.args.goal.now (used_value c.args.used) in
    let going : IsGoing known suits c.args.goal.now whole (reverse c.steps.outer.items) (Left c.in-Left.ran.step.goals.items c.in-Left.ran.step.just (used_by c.in-Left.ran)) = subst (λ (r : Reached). IsGoing known suits c.args.goal.now whole (reverse c.steps.outer.items) (reached_value r)) c.in-Left.is c.steps.invariant.goes in
    let was : c.steps.outer.items ≡ c.pop.new.self.items ++ c.in-Some.pending ∷ [] = search rules in
    let p = err_from_is_err_and c.from_residual-in_err-reached-in-Left.result c.from_residual-in_err-reached-in-Left.ensures.1 in
    stopped whole c.from_residual-in_err-reached-in-Left.result p.0 _ p.1 p.2 (pops known suits c.args.goal.now whole (Left c.in-Left.ran.step.goals.items c.in-Left.ran.step.just (used_by c.in-Left.ran)) c.steps.outer.items c.pop.new.self.items c.in-Some.pending (reverse c.after_goals.new.outer.items) (Err c.in_err-reached-in-Left.field-0.0) was (c.in_err-reached-in-Left.ensures.goes known) going)

pub returns-in_err-reached-in-Left-clause-left : goal.returns-in_err-reached-in-Left-clause-left
returns-in_err-reached-in-Left-clause-left g c =
    let known = g.T.Tacs.known_of c.args.tacs.now in
    let suits = suits_expr c.args.expr.now in
    let whole = run known c.args.expr.now c.args.goal.now (used_value c.args.used) in
    let going : IsGoing known suits c.args.goal.now whole (reverse c.steps.outer.items) (Left c.in-Left.ran.step.goals.items c.in-Left.ran.step.just (used_by c.in-Left.ran)) = subst (λ (r : Reached). IsGoing known suits c.args.goal.now whole (reverse c.steps.outer.items) (reached_value r)) c.in-Left.is c.steps.invariant.goes in
    let was : c.steps.outer.items ≡ c.pop.new.self.items ++ c.in-Some.pending ∷ [] = search rules in
    let p = err_from_is_err_and c.from_residual-in_err-reached-in-Left.result c.from_residual-in_err-reached-in-Left.ensures.1 in
    stopped_left c.args.used.left whole c.from_residual-in_err-reached-in-Left.result p.0 _ p.1 p.2 (pops known suits c.args.goal.now whole (Left c.in-Left.ran.step.goals.items c.in-Left.ran.step.just (used_by c.in-Left.ran)) c.steps.outer.items c.pop.new.self.items c.in-Some.pending (reverse c.after_goals.new.outer.items) (Err c.in_err-reached-in-Left.field-0.0) was (c.in_err-reached-in-Left.ensures.goes known) going)

pub steps-smaller-in-Left : goal.steps-smaller-in-Left
steps-smaller-in-Left g c =
    let known = g.T.Tacs.known_of c.args.tacs.now in
    let suits = suits_expr c.args.expr.now in
    let whole = run known c.args.expr.now c.args.goal.now (used_value c.args.used) in
    let going : IsGoing known suits c.args.goal.now whole (reverse c.steps.outer.items) (Left c.in-Left.ran.step.goals.items c.in-Left.ran.step.just (used_by c.in-Left.ran)) = subst (λ (r : Reached). IsGoing known suits c.args.goal.now whole (reverse c.steps.outer.items) (reached_value r)) c.in-Left.is c.steps.invariant.goes in
    let was : c.steps.outer.items ≡ c.pop.new.self.items ++ c.in-Some.pending ∷ [] = search rules in
    subst (λ (r : Reached). steps_left known (reverse c.after_goals.new.outer.items) (reached_value c.in_ok-reached-in-Left.reached) < steps_left known (reverse c.steps.outer.items) (reached_value r)) (sym c.in-Left.is) (pops known suits c.args.goal.now whole (Left c.in-Left.ran.step.goals.items c.in-Left.ran.step.just (used_by c.in-Left.ran)) c.steps.outer.items c.pop.new.self.items c.in-Some.pending (reverse c.after_goals.new.outer.items) (Ok c.in_ok-reached-in-Left.reached) was (c.in_ok-reached-in-Left.ensures.goes known) going).1

pub steps-preserved-in-Left : goal.steps-preserved-in-Left
steps-preserved-in-Left g c =
    let known = g.T.Tacs.known_of c.args.tacs.now in
    let suits = suits_expr c.args.expr.now in
    let whole = run known c.args.expr.now c.args.goal.now (used_value c.args.used) in
    let going : IsGoing known suits c.args.goal.now whole (reverse c.steps.outer.items) (Left c.in-Left.ran.step.goals.items c.in-Left.ran.step.just (used_by c.in-Left.ran)) = subst (λ (r : Reached). IsGoing known suits c.args.goal.now whole (reverse c.steps.outer.items) (reached_value r)) c.in-Left.is c.steps.invariant.goes in
    let was : c.steps.outer.items ≡ c.pop.new.self.items ++ c.in-Some.pending ∷ [] = search rules in
    let few : c.in-Left.ran.left ≤ c.args.used.left = subst (HasLeft c.args.used.left) c.in-Left.is c.steps.invariant.left in
    record { goes = (pops known suits c.args.goal.now whole (Left c.in-Left.ran.step.goals.items c.in-Left.ran.step.just (used_by c.in-Left.ran)) c.steps.outer.items c.pop.new.self.items c.in-Some.pending (reverse c.after_goals.new.outer.items) (Ok c.in_ok-reached-in-Left.reached) was (c.in_ok-reached-in-Left.ensures.goes known) going).0; left = has_left_more c.in-Left.ran.left c.args.used.left c.in_ok-reached-in-Left.reached few c.in_ok-reached-in-Left.ensures.left }

pub returns-in_err-reached-in-Refused-clause-answer :
    goal.returns-in_err-reached-in-Refused-clause-answer
returns-in_err-reached-in-Refused-clause-answer g c =
    let known = g.T.Tacs.known_of c.args.tacs.now in
    let suits = suits_expr c.args.expr.now in
    let whole = run known c.args.expr.now c.args.goal.now (used_value c.args.used) in
    let going : IsGoing known suits c.args.goal.now whole (reverse c.steps.outer.items) (Refused (refusal_value c.in-Refused.why) (used_value c.in-Refused.used)) = subst (λ (r : Reached). IsGoing known suits c.args.goal.now whole (reverse c.steps.outer.items) (reached_value r)) c.in-Refused.is c.steps.invariant.goes in
    let was : c.steps.outer.items ≡ c.pop-in-Refused.new.self.items ++ c.in-Some-pop.pending ∷ [] = search rules in
    let p = err_from_is_err_and c.from_residual-in_err-reached-in-Refused.result c.from_residual-in_err-reached-in-Refused.ensures.1 in
    stopped whole c.from_residual-in_err-reached-in-Refused.result p.0 _ p.1 p.2 (pops known suits c.args.goal.now whole (Refused (refusal_value c.in-Refused.why) (used_value c.in-Refused.used)) c.steps.outer.items c.pop-in-Refused.new.self.items c.in-Some-pop.pending (reverse c.after_refusal.new.outer.items) (Err c.in_err-reached-in-Refused.field-0.0) was (c.in_err-reached-in-Refused.ensures.goes known) going)

pub returns-in_err-reached-in-Refused-clause-left : goal.returns-in_err-reached-in-Refused-clause-left
returns-in_err-reached-in-Refused-clause-left g c =
    let known = g.T.Tacs.known_of c.args.tacs.now in
    let suits = suits_expr c.args.expr.now in
    let whole = run known c.args.expr.now c.args.goal.now (used_value c.args.used) in
    let going : IsGoing known suits c.args.goal.now whole (reverse c.steps.outer.items) (Refused (refusal_value c.in-Refused.why) (used_value c.in-Refused.used)) = subst (λ (r : Reached). IsGoing known suits c.args.goal.now whole (reverse c.steps.outer.items) (reached_value r)) c.in-Refused.is c.steps.invariant.goes in
    let was : c.steps.outer.items ≡ c.pop-in-Refused.new.self.items ++ c.in-Some-pop.pending ∷ [] = search rules in
    let p = err_from_is_err_and c.from_residual-in_err-reached-in-Refused.result c.from_residual-in_err-reached-in-Refused.ensures.1 in
    stopped_left c.args.used.left whole c.from_residual-in_err-reached-in-Refused.result p.0 _ p.1 p.2 (pops known suits c.args.goal.now whole (Refused (refusal_value c.in-Refused.why) (used_value c.in-Refused.used)) c.steps.outer.items c.pop-in-Refused.new.self.items c.in-Some-pop.pending (reverse c.after_refusal.new.outer.items) (Err c.in_err-reached-in-Refused.field-0.0) was (c.in_err-reached-in-Refused.ensures.goes known) going)

pub steps-smaller : goal.steps-smaller
steps-smaller g c =
    let known = g.T.Tacs.known_of c.args.tacs.now in
    let suits = suits_expr c.args.expr.now in
    let whole = run known c.args.expr.now c.args.goal.now (used_value c.args.used) in
    let going : IsGoing known suits c.args.goal.now whole (reverse c.steps.outer.items) (Refused (refusal_value c.in-Refused.why) (used_value c.in-Refused.used)) = subst (λ (r : Reached). IsGoing known suits c.args.goal.now whole (reverse c.steps.outer.items) (reached_value r)) c.in-Refused.is c.steps.invariant.goes in
    let was : c.steps.outer.items ≡ c.pop-in-Refused.new.self.items ++ c.in-Some-pop.pending ∷ [] = search rules in
    subst (λ (r : Reached). steps_left known (reverse c.after_refusal.new.outer.items) (reached_value c.in_ok-reached-in-Refused.reached) < steps_left known (reverse c.steps.outer.items) (reached_value r)) (sym c.in-Refused.is) (pops known suits c.args.goal.now whole (Refused (refusal_value c.in-Refused.why) (used_value c.in-Refused.used)) c.steps.outer.items c.pop-in-Refused.new.self.items c.in-Some-pop.pending (reverse c.after_refusal.new.outer.items) (Ok c.in_ok-reached-in-Refused.reached) was (c.in_ok-reached-in-Refused.ensures.goes known) going).1

pub steps-preserved : goal.steps-preserved
steps-preserved g c =
    let known = g.T.Tacs.known_of c.args.tacs.now in
    let suits = suits_expr c.args.expr.now in
    let whole = run known c.args.expr.now c.args.goal.now (used_value c.args.used) in
    let going : IsGoing known suits c.args.goal.now whole (reverse c.steps.outer.items) (Refused (refusal_value c.in-Refused.why) (used_value c.in-Refused.used)) = subst (λ (r : Reached). IsGoing known suits c.args.goal.now whole (reverse c.steps.outer.items) (reached_value r)) c.in-Refused.is c.steps.invariant.goes in
    let was : c.steps.outer.items ≡ c.pop-in-Refused.new.self.items ++ c.in-Some-pop.pending ∷ [] = search rules in
    let few : c.in-Refused.used.left ≤ c.args.used.left = subst (HasLeft c.args.used.left) c.in-Refused.is c.steps.invariant.left in
    record { goes = (pops known suits c.args.goal.now whole (Refused (refusal_value c.in-Refused.why) (used_value c.in-Refused.used)) c.steps.outer.items c.pop-in-Refused.new.self.items c.in-Some-pop.pending (reverse c.after_refusal.new.outer.items) (Ok c.in_ok-reached-in-Refused.reached) was (c.in_ok-reached-in-Refused.ensures.goes known) going).0; left = has_left_more c.in-Refused.used.left c.args.used.left c.in_ok-reached-in-Refused.reached few c.in_ok-reached-in-Refused.ensures.left }
