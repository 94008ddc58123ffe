use Rattle.hol_terms.specs.Named.{var}
use Rattle.hol_just.specs.Justifies.{LeavesProperty}
use Rattle.hol_just.specs.declared.reason.Reason.TheVariants.{Generalization}
use Rattle.hol_just.proofs.Applied.{made_as}
use Rattle.hol_just.proofs.OneMove.{one}
use Rattle.hol_just.proofs.QuantifierRules.{generalization_leaves}
use Rattle.hol_just.proofs.just.Just.gen_tac.Goals as goal

pub returns : goal.returns
returns c =
    made_as c.one.result (LeavesProperty c.args.v.now) (λ t. one (Generalization t)) (var c.args.v.now) c.in_ok-variable.variable (generalization_leaves c.args.v.now) c.in_ok-variable.ensures.is
    c.one.ensures
