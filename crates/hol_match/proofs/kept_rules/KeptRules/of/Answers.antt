use Rattle.std.proofs.Common.{rules, ◌≡◌, ◌∙◌, ap, sym, subst}
use Rattle.hol_kernel.specs.Given.{given_sequent}
use Rattle.hol_match.specs.RulesKept.{AreKeptOf}
use Rattle.hol_match.proofs.RulesKept.{kept_of}
use Rattle.hol_match.proofs.kept_rules.KeptRules.of.Goals as goal

pub invariant_of-result : goal.invariant_of-result
invariant_of-result c =
    let S = c.in_ok-source.source in
    let kept : c.in_ok-new.field-0.value ≡ S = search rules in
    subst (λ s. AreKeptOf s c.in_ok-rules.rules.items) (sym kept)
    (kept_of S c.in_ok-rules.rules.items c.hypotheses-hyps.result.now (c.hypotheses-hyps.ensures.set ∙ ap (λ g. (given_sequent g).hyps) (sym c.in_ok-source.ensures.given)) c.hypotheses-hyps.ensures.ordered
    c.in_ok-source.ensures.fixed c.in_ok-rules.ensures.are c.in_ok-rules.ensures.from)
