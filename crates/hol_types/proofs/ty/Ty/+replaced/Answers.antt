use Rattle.std.proofs.Common.{arith, ◌≡◌}
use Rattle.std.proofs.lemmas.Grind.{common_steps}
use Rattle.hol_types.specs.Tree.{type_list}
use Rattle.hol_types.specs.Subst.{types_subst}
use Rattle.hol_types.proofs.Steps.{subst_all, copied}
use Rattle.hol_types.proofs.ty.Ty.+replaced.Goals as goal

pub returns-in_ok-copy-in-App : goal.returns-in_ok-copy-in-App
returns-in_ok-copy-in-App t c =
    let all : type_list c.loop-arg.new_args.items ≡ types_subst c.args.pairs.now (type_list c.deref-arg-items.result.now) =
    subst_all _ _ _ _ c.loop-arg.invariant (grind (arith, common_steps)) in
    copied _ _ _ c.from_node.ensures (grind (arith, common_steps))
