use Rattle.std.proofs.Common.{[]}
use Rattle.std.proofs.lemmas.Result.{IfOk-weaker}
use Rattle.hol_terms.specs.Nameless.{nameless}
use Rattle.hol_just.proofs.Joined.{closes_by_falsity}
use Rattle.hol_just.proofs.just.Just.contr_tac.Goals as goal

pub returns : goal.returns
returns c =
    IfOk-weaker c.joined.result _ _
    (λ just is. closes_by_falsity (nameless [] c.args.conclusion.now) c.args.th.now c.in_ok-just.just c.in_ok-closing.closing just c.in_ok-just.ensures c.in_ok-closing.ensures is)
    c.joined.ensures
