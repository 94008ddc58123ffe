use Rattle.std.specs.Prelude.{List, ℕ}
use Rattle.std.proofs.Common.{[], ◌∷◌, ◌≡◌, ap, ◌∙◌}
use Rattle.hol_formulas.specs.Formula.{universal}
use Rattle.hol_derived.specs.Rules.{over_variable}
use Rattle.std.proofs.lemmas.Result.{IfOk-weaker}
use Rattle.hol_types.specs.Tree.{TypeTree}
use Rattle.hol_terms.specs.Nameless.{Nameless, free, nameless}
use Rattle.hol_goal.specs.Goal.{GoalValue}
use Rattle.hol_just.specs.Leaving.{concluding}
use Rattle.hol_just.specs.Replacing.{replace_each}
use Rattle.hol_just.specs.Justifies.{LeavesGeneralized}
use Rattle.hol_steps.proofs.Kept.{step_keeps}
use Rattle.hol_steps.proofs.substituting.spec_step.Goals as goal

pub returns-clause-goals : goal.returns-clause-goals
returns-clause-goals c =
    let n = replace_each (nameless [] c.args.t.now) (free c.args.x.now) c.args.goal.now.conclusion in
    IfOk-weaker c.leaving_one.result (λ step. step.goals.items ≡ c.in_ok-left.left ∷ []) (λ step. step.goals.items ≡ concluding c.args.goal.now (universal (over_variable c.args.x.now n)) ∷ [])
    (λ step is.
    is
    ∙ ap (λ (g : GoalValue). g ∷ [])
    (c.in_ok-left.ensures
    ∙ ap (concluding c.args.goal.now)
    (c.in_ok-general.ensures.is ∙ ap (λ (w : Nameless). universal (over_variable c.args.x.now (replace_each (nameless [] c.args.t.now) (free c.args.x.now) w))) c.conclusion.ensures.term)))
    c.leaving_one.ensures.goals

pub returns-clause-just : goal.returns-clause-just
returns-clause-just c =
    step_keeps c.leaving_one.result (λ moves. (v : List ℕ × TypeTree) → LeavesGeneralized (nameless [] c.args.t.now) v moves) c.in_ok-just.just c.in_ok-just.ensures c.leaving_one.ensures.just
