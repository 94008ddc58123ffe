use Rattle.std.proofs.Common.{◌∙◌}
use Rattle.std.proofs.lemmas.Result.{IfOk-weaker}
use Rattle.hol_kernel.specs.Signature.{constant_key, has_key, makes_constant}
use Rattle.hol_kernel.proofs.Makes.{no_constant}
use Rattle.hol_kernel.proofs.Finding.{one_any, none_any, alone}
use Rattle.hol_kernel.proofs.basis.makes_constant.Goals as goal

pub returns-in-Some : goal.returns-in-Some
returns-in-Some c =
    let k = constant_key c.args.constant.now in
    IfOk-weaker c.makes_constant.result _ _
    (λ makes e. e
    ∙ one_any (makes_constant c.args.constant.now c.args.ty.now) (λ x. has_key x k) (λ x h. no_constant x c.args.constant.now c.args.ty.now h) c.args.items.now c.in-Some.item.now c.in-Some.ensures
    (λ y m i h g. alone c.args.items.now c.requires k y c.in-Some.item.now m i h g))
    c.makes_constant.ensures

pub returns-in-None : goal.returns-in-None
returns-in-None c =
    none_any (makes_constant c.args.constant.now c.args.ty.now) (λ x. has_key x (constant_key c.args.constant.now)) (λ x h. no_constant x c.args.constant.now c.args.ty.now h) c.args.items.now c.in-None.ensures
