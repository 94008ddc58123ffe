use Rattle.std.proofs.Common.{subst, refl}
use Rattle.hol_kernel.specs.Items.{Items, IsSubset}
use Rattle.hol_kernel.proofs.Subsets.{within_itself}
use Rattle.hol_stack.proofs.basis.is_within.Goals as goal

pub returns-then-same_node : goal.returns-then-same_node
returns-then-same_node c _ = subst (λ (s : Items). IsSubset c.args.part.now s) (c.if-same_node.ensures refl) (within_itself c.args.part.now)
