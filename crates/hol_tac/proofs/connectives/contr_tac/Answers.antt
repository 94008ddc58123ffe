use Rattle.std.proofs.Common.{[], sym}
use Rattle.hol_terms.specs.Nameless.{nameless}
use Rattle.hol_tac.proofs.Justified.{by_theorem}
use Rattle.hol_tac.proofs.Valid.{contr_valid}
use Rattle.hol_tac.proofs.connectives.contr_tac.Goals as goal

pub returns-clause-valid : goal.returns-clause-valid
returns-clause-valid c =
    by_theorem c.args.goal.now c.closing.result c.in_ok-just.just [] c.closing.ensures.just c.closing.ensures.goals c.args.args.now c.in-Theorem.th c.in-Theorem.is
    (λ extra allowed.
    contr_valid extra c.args.goal.now (nameless [] c.conclusion.result.now) c.conclusion.ensures.term c.in_ok-just.just c.in-Theorem.th (nameless [] c.concl.result.now) c.concl.ensures.concl
    (sym c.if-not-is_falsity.ensures) allowed c.in_ok-just.ensures)
