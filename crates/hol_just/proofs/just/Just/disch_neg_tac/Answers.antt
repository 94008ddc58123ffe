use Rattle.std.proofs.Common.{[]}
use Rattle.std.proofs.lemmas.Result.{IfOk-weaker}
use Rattle.hol_terms.specs.Nameless.{nameless}
use Rattle.hol_just.proofs.Joined.{leaves_refutation}
use Rattle.hol_just.proofs.just.Just.disch_neg_tac.Goals as goal

pub returns : goal.returns
returns c =
    IfOk-weaker c.joined.result _ _
    (λ just is. leaves_refutation (nameless [] c.args.denied.now) c.in_ok-just.just c.in_ok-assuming.assuming just c.in_ok-just.ensures c.in_ok-assuming.ensures is)
    c.joined.ensures
