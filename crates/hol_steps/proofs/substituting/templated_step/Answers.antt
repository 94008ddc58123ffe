use Rattle.std.proofs.Common.{[], ◌∷◌, ◌≡◌, ap, sym, ◌∙◌}
use Rattle.std.proofs.lemmas.Result.{IfOk-weaker}
use Rattle.hol_terms.specs.Nameless.{free, nameless, free_occurrences}
use Rattle.hol_terms.specs.Scoped.{binds}
use Rattle.hol_formulas.specs.Equation.{Sides}
use Rattle.hol_kernel.specs.Given.{given_sequent}
use Rattle.hol_kernel.specs.Sequent.{Hyps}
use Rattle.hol_goal.specs.Goal.{GoalValue}
use Rattle.hol_goal.specs.Achieves.{AreAllowed}
use Rattle.hol_just.specs.Leaving.{concluding}
use Rattle.hol_just.specs.Replacing.{replace_each}
use Rattle.hol_just.specs.Valid.{IsValid}
use Rattle.hol_just.specs.Justifies.{holds_given}
use Rattle.hol_steps.proofs.Kept.{step_keeps}
use Rattle.hol_steps.proofs.Templates.{other_absent}
use Rattle.hol_steps.proofs.substituting.templated_step.Goals as goal

pub returns-clause-goals : goal.returns-clause-goals
returns-clause-goals c =
    let s = nameless [] c.args.sides.now.left.now in
    let t = nameless [] c.args.sides.now.right.now in
    IfOk-weaker c.leaving_one.result (λ step. step.goals.items ≡ c.in_ok-left.left ∷ []) (λ step. step.goals.items ≡ concluding c.args.goal.now (replace_each s t c.args.goal.now.conclusion) ∷ [])
    (λ step is.
    is ∙ ap (λ (g : GoalValue). g ∷ []) (c.in_ok-left.ensures ∙ ap (concluding c.args.goal.now) (c.in_ok-conclusion.ensures.is ∙ ap (replace_each s t) c.requires.conclusion)))
    c.leaving_one.ensures.goals

pub returns-clause-just : goal.returns-clause-just
returns-clause-just c =
    let s = nameless [] c.args.sides.now.left.now in
    let t = nameless [] c.args.sides.now.right.now in
    let v = c.args.v.now in
    let term = c.requires.conclusion in
    let sides : Sides = record { sides_type = c.args.sides.now.ty.now; left = s; right = t } in
    step_keeps c.leaving_one.result
    (λ moves. (extra : Hyps) → AreAllowed extra c.args.goal.now.assumptions (given_sequent c.args.th.now).hyps → IsValid (holds_given c.args.th.now) extra moves (c.args.goal.now ∷ []) (concluding c.args.goal.now (replace_each s t c.args.goal.now.conclusion) ∷ []))
    c.in_ok-just.just
    (λ extra allowed.
    c.in_ok-just.ensures extra c.args.goal.now.assumptions sides c.args.goal.now.conclusion c.requires.equation c.requires.of_type (c.requires.is ∙ ap (replace_each s (free v)) term)
    (ap (λ n. binds (free_occurrences n) v) (sym term) ∙ other_absent v c.args.formula.now c.requires.other) allowed)
    c.leaving_one.ensures.just
