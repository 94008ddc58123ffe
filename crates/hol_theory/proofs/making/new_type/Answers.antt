use Rattle.hol_theory.proofs.Declaring.{type_found, type_made}
use Rattle.hol_theory.proofs.making.new_type.Goals as goal

pub own_item-requires : goal.own_item-requires
own_item-requires c = type_found c.args.basis.now c.in_ok-larger.larger c.args.name.now c.args.arity c.in_ok-larger.ensures.made

pub returns : goal.returns
returns c = type_made c.args.basis.now c.in_ok-larger.larger c.args.name.now c.as_str.result.now c.args.arity c.in_ok-item.item c.in_ok-key.key c.in_ok-value.value c.in_ok-larger.ensures.made c.in_ok-item.ensures c.in_ok-key.ensures c.as_str.ensures c.in_ok-value.ensures
