use Rattle.std.proofs.Common.{ap, ◌∙◌}
use Rattle.hol_types.specs.Tree.{TypeTree}
use Rattle.hol_theory.specs.Entry.{AConstant}
use Rattle.hol_theory.proofs.Declaring.{constant_found, constant_made}
use Rattle.hol_theory.proofs.making.new_constant.Goals as goal

pub own_item-requires : goal.own_item-requires
own_item-requires c = constant_found c.args.basis.now c.in_ok-larger.larger c.args.name.now c.args.ty.now c.in_ok-larger.ensures.made

pub returns : goal.returns
returns c = constant_made c.args.basis.now c.in_ok-larger.larger c.args.name.now c.as_str.result.now c.args.ty.now c.in_ok-item.item c.in_ok-key.key c.in_ok-value.value c.in_ok-larger.ensures.made c.in_ok-item.ensures c.in_ok-key.ensures c.as_str.ensures
    (c.in_ok-value.ensures ∙ ap (λ (t : TypeTree). AConstant t c.in_ok-item.item c.in_ok-larger.larger) c.in_ok-copy.ensures)
