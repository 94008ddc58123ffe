use Rattle.std.proofs.Common.{[]}
use Rattle.std.proofs.lemmas.Result.{IfOk-weaker}
use Rattle.hol_terms.specs.Nameless.{nameless}
use Rattle.hol_just.proofs.Joined.{leaves_functions}
use Rattle.hol_just.proofs.just.Just.ap_thm_tac.Goals as goal

pub returns : goal.returns
returns c =
    IfOk-weaker c.joined.result _ _
    (λ just is. leaves_functions (nameless [] c.args.argument.now) c.in_ok-just.just c.in_ok-closing.closing just c.in_ok-just.ensures c.in_ok-closing.ensures is)
    c.joined.ensures
