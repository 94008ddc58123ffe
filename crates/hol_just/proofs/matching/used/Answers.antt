use Rattle.std.proofs.Common.{[], subst}
use Rattle.hol_terms.specs.Nameless.{nameless}
use Rattle.hol_kernel.specs.Given.{Given}
use Rattle.hol_just.specs.Justifies.{LeavesImplication}
use Rattle.hol_just.proofs.MatchChain.{closes_last}
use Rattle.hol_just.proofs.matching.used.Goals as goal

pub returns-clause-just : goal.returns-clause-just
returns-clause-just c = λ th own w closes.
    closes_last th own (nameless [] c.args.p.now) w c.in_ok-just.just c.args.closing.now c.then_at.new.self
    (subst (λ (g : Given). LeavesImplication g c.in_ok-just.just) c.in_ok-assumption.ensures c.in_ok-just.ensures) closes c.in_ok-then_at.ensures
