use Rattle.hol_kernel.specs.Signature.{has_key}
use Rattle.hol_kernel.specs.Clashing.{key_at}
use Rattle.hol_kernel.proofs.Finding.{found_any, none_any}
use Rattle.hol_kernel.proofs.declare.is_name_of.Goals as goal

pub returns-in-Some : goal.returns-in-Some
returns-in-Some c = found_any (λ x. has_key x (key_at c.args.kind c.args.name.now)) c.args.items.now c.in-Some._item.now c.in-Some.ensures

pub returns-in-None : goal.returns-in-None
returns-in-None c =
    none_any (λ x. has_key x (key_at c.args.kind c.args.name.now)) (λ x. has_key x (key_at c.args.kind c.args.name.now)) (λ x e. e) c.args.items.now c.in-None.ensures
