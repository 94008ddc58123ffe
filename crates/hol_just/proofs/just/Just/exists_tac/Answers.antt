use Rattle.hol_terms.specs.Nameless.{nameless}
use Rattle.std.proofs.Common.{[]}
use Rattle.hol_just.specs.Justifies.{LeavesAtWitness}
use Rattle.hol_just.specs.declared.reason.Reason.TheVariants.{Existence}
use Rattle.hol_just.proofs.Applied.{made_pair}
use Rattle.hol_just.proofs.OneMove.{one}
use Rattle.hol_just.proofs.QuantifierRules.{existence_leaves}
use Rattle.hol_just.proofs.just.Just.exists_tac.Goals as goal

pub returns : goal.returns
returns c =
    made_pair c.one.result (LeavesAtWitness (nameless [] c.args.conclusion.now) (nameless [] c.args.witness.now)) (λ e t. one (Existence e t)) c.args.conclusion.now c.in_ok-formula.formula c.args.witness.now
    c.in_ok-copy.field-0 (existence_leaves c.args.conclusion.now c.args.witness.now) c.in_ok-formula.ensures c.in_ok-copy.ensures c.one.ensures
