use Rattle.std.proofs.Common.{◌≡◌, ap, sym, ◌∙◌, rules}
use Rattle.hol_terms.specs.Named.{var}
use Rattle.hol_terms.proofs.Same.{variable_eq_decides}
use Rattle.hol_equal.proofs.applied.is_occurrence.Goals as goal

pub returns-in-Var : goal.returns-in-Var
returns-in-Var c = λ h.
    let is : c.args.t.now ≡ var c.in-Var.w = search rules in
    let same : c.in-Var.w ≡ c.args.v.now = (variable_eq_decides c.in-Var.w c.args.v.now).0 (sym c.same.ensures ∙ h) in
    is ∙ ap var same
