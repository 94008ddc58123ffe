use Rattle.std.proofs.Common.{[], ap, sym, ◌∙◌, refl}
use Rattle.hol_terms.specs.Alpha.{strip}
use Rattle.hol_tac.proofs.Justified.{by_theorem}
use Rattle.hol_tac.proofs.connectives.accept_tac.Goals as goal

pub returns-clause-valid : goal.returns-clause-valid
returns-clause-valid c =
    by_theorem c.args.goal.now c.closing.result c.in_ok-just.just [] c.closing.ensures.just c.closing.ensures.goals c.args.args.now c.in-Theorem.th c.in-Theorem.is
    (λ extra allowed. c.in_ok-just.ensures extra c.args.goal.now ((sym (ap strip c.concl.ensures.concl)) ∙ c.if-not-alpha_equivalent.ensures.equal.0 refl ∙ ap strip c.conclusion.ensures.term) allowed)
