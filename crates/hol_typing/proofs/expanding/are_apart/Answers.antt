use Rattle.std.proofs.Common.{◌≡◌, List, ℕ, arith, ap, ◌∙◌, false, rules}
use Rattle.hol_types.specs.Names.{is_among, type_names}
use Rattle.hol_typing.proofs.Splitting.{apart_all, apart_step}
use Rattle.hol_typing.proofs.expanding.are_apart.Goals as goal

pub loop-name-preserved : goal.loop-name-preserved
loop-name-preserved c =
    let none : is_among (type_names c.args.second.now) c.name-item.result ≡ false = search rules in
    apart_step c.args.second.now c.deref-name-items.result.now c.loop-name.name-index c.name-item.result c.loop-name.invariant c.loop-name-test.true c.name-item.is none

pub returns : goal.returns
returns c = λ t a m.
    let end = c.loop-name-test.false in
    apart_all c.args.second.now c.deref-name-items.result.now (λ k lt. c.loop-name.invariant k (omega (arith, lt, end))) a
    (ap (λ (xs : List (List ℕ)). is_among xs a) c.deref-name-items.ensures.value ∙ c.in_ok-names.ensures.occurring a ∙ m)
