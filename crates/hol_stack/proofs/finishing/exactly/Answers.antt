use Rattle.std.proofs.lemmas.Result.{IfOk-weaker}
use Rattle.hol_terms.specs.Nameless.{nameless}
use Rattle.std.proofs.Common.{[]}
use Rattle.hol_stack.proofs.Exact.{exact_applies, exact_is}
use Rattle.hol_stack.proofs.finishing.exactly.Goals as goal

pub eq_mp-requires-clause-applies : goal.eq_mp-requires-clause-applies
eq_mp-requires-clause-applies c =
    exact_applies c.in_ok-same.same c.args.thm.now c.basis.result.now (nameless [] c.args.statement.now) c.type_of.result.now c.in_ok-same.ensures c.requires.alike

pub returns : goal.returns
returns c =
    IfOk-weaker c.eq_mp.result _ _
    (λ th made. exact_is c.in_ok-same.same c.args.thm.now th c.basis.result.now (nameless [] c.args.statement.now) c.type_of.result.now c.in_ok-same.ensures c.basis.ensures c.requires.free made)
    c.eq_mp.ensures
