use Rattle.std.proofs.Common.{ap, sym, ◌||◌, ◌∙◌}
use Rattle.std.proofs.lemmas.Result.{on_ok_weaker}
use Rattle.hol_terms.specs.Scope.{binders}
use Rattle.hol_terms.specs.Scoped.{binds}
use Rattle.hol_terms.specs.View.{named_of}
use Rattle.hol_subst.specs.Renaming.{is_alike_in}
use Rattle.hol_subst.proofs.Alike.{beside}
use Rattle.hol_subst.proofs.instances.+add_alike.Goals as goal

pub returns-else-is_alike : goal.returns-else-is_alike
returns-else-is_alike t c =
    let v = c.args.alike.now.v.now in
    let inner = binders c.args.inner.now in
    on_ok_weaker c.add_alike-in-Abs.result
    (λ h w. h w ∙ ap (λ b. binds c.args.found.now.items w || b) (beside v c.in-Abs.l inner c.in-Abs.b (sym c.is_alike.ensures ∙ c.if-is_alike.false) w ∙ ap (λ s. is_alike_in v inner s w) (sym (ap named_of c.in-Abs.is) ∙ c.node.ensures)))
    c.add_alike-in-Abs.ensures
