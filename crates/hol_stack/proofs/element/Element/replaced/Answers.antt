use Rattle.std.proofs.Common.{sym, subst}
use Rattle.hol_kernel.specs.Items.{Items}
use Rattle.hol_kernel.specs.Extends.{Agree}
use Rattle.hol_stack.proofs.element.Element.replaced.Goals as goal

pub joined-requires : goal.joined-requires
joined-requires c = subst (λ (b : Items). Agree b c.args.basis.now) (sym c.basis.ensures) c.requires
