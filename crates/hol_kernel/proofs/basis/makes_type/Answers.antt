use Rattle.std.proofs.Common.{◌∙◌}
use Rattle.hol_kernel.specs.Signature.{type_key, has_key, makes_type}
use Rattle.hol_kernel.proofs.Finding.{one_any, none_any, alone, no_type}
use Rattle.hol_kernel.proofs.basis.makes_type.Goals as goal

pub returns-in-Some : goal.returns-in-Some
returns-in-Some c =
    let k = type_key c.args.constructor.now in
    c.makes_type.ensures
    ∙ one_any (makes_type c.args.constructor.now c.args.arity) (λ x. has_key x k) (no_type c.args.constructor.now c.args.arity) c.args.items.now c.in-Some.item.now c.in-Some.ensures
    (λ y m i h g. alone c.args.items.now c.requires k y c.in-Some.item.now m i h g)

pub returns-in-None : goal.returns-in-None
returns-in-None c =
    none_any (makes_type c.args.constructor.now c.args.arity) (λ x. has_key x (type_key c.args.constructor.now)) (no_type c.args.constructor.now c.args.arity) c.args.items.now c.in-None.ensures
