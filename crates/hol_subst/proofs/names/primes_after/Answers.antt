use Rattle.std.proofs.Common.{◌≡◌, ◌≢◌, ◌∙◌, ℕ, sym, subst, MatchOption, true≢false}
use Rattle.hol_terms.specs.Primes.{with_primes}
use Rattle.hol_subst.proofs.PrimedNames.{not_begun, with_end, end_of}
use Rattle.hol_subst.proofs.names.primes_after.Goals as goal

pub returns-in_err-end : goal.returns-in_err-end
returns-in_err-end c =
    subst (λ r. MatchOption r ((k : ℕ) → c.args.name.now ≢ with_primes k c.args.base.now) (λ k. c.args.name.now ≡ with_primes k c.args.base.now)) (sym c.from_residual.ensures) (not_begun c.args.name.now c.args.base.now c.in_err-end.ensures.cases)

pub returns-then-are_primes : goal.returns-then-are_primes
returns-then-are_primes c =
    let cut = c.in_ok-end.ensures.cases in
    with_end c.args.name.now c.args.base.now c.in_ok-end.end.now cut.0 cut.1.1 cut.2 (c.are_primes.ensures.0 c.if-are_primes.true)

pub returns-else-are_primes : goal.returns-else-are_primes
returns-else-are_primes c k e =
    let cut = c.in_ok-end.ensures.cases in
    let primes = end_of c.args.name.now c.args.base.now c.in_ok-end.end.now cut.0 cut.1.1 cut.2 k e in
    true≢false (sym (c.are_primes.ensures.1 primes) ∙ c.if-are_primes.false)
