use Rattle.std.proofs.Common.{◌≡◌, length, arith, refl}
use Rattle.std.proofs.lemmas.List.{same_lists}
use Rattle.hol_theory.proofs.same.same_bases.Goals as goal

pub returns : goal.returns
returns c =
    let n : length c.args.left.now ≡ length c.args.right.now = omega (arith, c.if-left-right.false) in
    ((λ e. same_lists _ _ n (λ k d h. c.loop-i.invariant k d (omega (arith, h)))), (λ e. refl))
