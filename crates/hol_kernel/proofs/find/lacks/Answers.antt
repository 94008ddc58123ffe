use Rattle.std.proofs.Common.{sym, ◌∙◌}
use Rattle.hol_kernel.proofs.Places.{none_named}
use Rattle.hol_kernel.proofs.find.lacks.Goals as goal

pub returns : goal.returns
returns c = λ e. none_named c.args.kind c.args.name.now c.in-Some.first.now c.in-Some-last.last.now c.args.items.now c.requires c.in-Some.ensures.value c.in-Some-last.ensures.value (sym c.is_apart.ensures ∙ e)
