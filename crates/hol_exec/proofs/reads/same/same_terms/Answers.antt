use Rattle.std.proofs.Common.{◌≡◌, length, true, false, arith, refl, []}
use Rattle.hol_terms.specs.Nameless.{nameless}
use Rattle.hol_theory.proofs.Comparing.{mapped_same, mapped_differ}
use Rattle.hol_exec.proofs.reads.same.same_terms.Goals as goal

pub returns-then-not-same : goal.returns-then-not-same
returns-then-not-same c = (
  (λ e. absurd (cc)),
  (λ e. absurd (mapped_differ (nameless []) _ _ c.loop-i.i c.index-left-i.result c.index-right-i.result c.index-left-i.is c.index-right-i.is (omega arith) (λ d. let k : false ≡ true = c.if-not-same.ensures.1 d in absurd (cc)) e)),
)

pub returns : goal.returns
returns c =
    let n : length c.args.left.now ≡ length c.args.right.now = omega (arith, c.if-left-right.false) in
    ((λ e. mapped_same (nameless []) _ _ n (λ k d h. c.loop-i.invariant k d (omega (arith, h)))), (λ e. refl))
