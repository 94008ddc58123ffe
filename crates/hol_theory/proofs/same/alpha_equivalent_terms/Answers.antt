use Rattle.std.proofs.Common.{◌≡◌, length, true, false, arith, refl}
use Rattle.hol_kernel.specs.Sequent.{hyp_of}
use Rattle.hol_theory.proofs.Comparing.{mapped_same, mapped_differ}
use Rattle.hol_theory.proofs.same.alpha_equivalent_terms.Goals as goal

pub returns-then-not-alpha_equivalent : goal.returns-then-not-alpha_equivalent
returns-then-not-alpha_equivalent c = (
  (λ e. absurd (cc)),
  (λ e. absurd (mapped_differ hyp_of _ _ c.loop-i.i c.index-left-i.result c.index-right-i.result c.index-left-i.is c.index-right-i.is (omega arith) (λ d. let k : false ≡ true = c.if-not-alpha_equivalent.ensures.equal.1 d in absurd (cc)) e)),
)

pub returns : goal.returns
returns c =
    let n : length c.args.left.now ≡ length c.args.right.now = omega (arith, c.if-left-right.false) in
    ((λ e. mapped_same hyp_of _ _ n (λ k d h. c.loop-i.invariant k d (omega (arith, h)))), (λ e. refl))
