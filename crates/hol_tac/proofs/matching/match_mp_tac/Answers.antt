use Rattle.std.proofs.Common.{sym, subst, rules}
use Rattle.hol_goal.specs.Arguments.{Theorem}
use Rattle.hol_goal.specs.ArgumentsView.{args_value}
use Rattle.hol_goal.specs.declared.tac_args.TacArgs.{TacArgs}
use Rattle.hol_just.specs.Answering.{IsJustified}
use Rattle.hol_tac.proofs.matching.match_mp_tac.Goals as goal

pub returns-clause-valid : goal.returns-clause-valid
returns-clause-valid c =
    let valid : IsJustified (Theorem c.in-Theorem.th) c.args.goal.now c.in-Some.step = search rules in
    subst (λ (a : TacArgs). IsJustified (args_value a) c.args.goal.now c.in-Some.step) (sym c.in-Theorem.is) valid
