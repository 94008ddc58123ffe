use Rattle.std.proofs.Common.{[], ◌∷◌, ◌≡◌, ◌∙◌}
use Rattle.hol_terms.specs.Nameless.{nameless}
use Rattle.hol_subst.specs.Closing.{open_with}
use Rattle.hol_just.specs.Replacing.{replace_each}
use Rattle.std.proofs.lemmas.Result.{IfOk-weaker}
use Rattle.hol_steps.proofs.Templates.{filled}
use Rattle.hol_steps.proofs.replacing.replaced.Goals as goal

pub returns-clause-is : goal.returns-clause-is
returns-clause-is c =
    IfOk-weaker c.at.result (λ r. nameless [] r ≡ open_with (nameless [] c.args.t.now) 0 (nameless (c.args.v.now ∷ []) c.args.template.now))
    (λ r. nameless [] r ≡ replace_each (nameless [] c.args.s.now) (nameless [] c.args.t.now) (nameless [] c.args.formula.now))
    (λ r is. is ∙ filled c.args.s.now c.args.t.now c.args.formula.now c.args.template.now c.args.v.now c.requires.other c.requires.is) c.at.ensures.is
