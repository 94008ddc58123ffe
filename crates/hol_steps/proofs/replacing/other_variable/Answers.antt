use Rattle.std.specs.Prelude.{List, ℕ, ◌≡◌}
use Rattle.std.proofs.Common.{ap, ◌∙◌}
use Rattle.std.proofs.lemmas.Result.{IfOk-weaker}
use Rattle.hol_types.specs.Tree.{TypeTree}
use Rattle.hol_steps.specs.Unused.{HasNo}
use Rattle.hol_steps.proofs.Templates.{primed_other}
use Rattle.hol_steps.proofs.replacing.other_variable.Goals as goal

pub returns-clause-other : goal.returns-clause-other
returns-clause-other c =
    IfOk-weaker c.new-2.result (λ (v : List ℕ × TypeTree). v ≡ (c.in_ok-name.name, c.args.ty.now)) (λ (v : List ℕ × TypeTree). HasNo v c.args.term.now)
    (λ v is. primed_other c.longest.result.now v c.args.term.now (ap (λ x. x.0) is ∙ c.in_ok-name.ensures) c.longest.ensures.longest) c.new-2.ensures
