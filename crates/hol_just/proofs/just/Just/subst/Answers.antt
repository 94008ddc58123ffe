use Rattle.std.proofs.Common.{[]}
use Rattle.hol_terms.specs.Named.{var}
use Rattle.hol_terms.specs.Nameless.{nameless}
use Rattle.hol_just.specs.Justifies.{SplitsByEquation}
use Rattle.hol_just.specs.declared.reason.Reason.TheVariants.{Replacement}
use Rattle.hol_just.proofs.Applied.{made_pair}
use Rattle.hol_just.proofs.OneMove.{one}
use Rattle.hol_just.proofs.EliminationMoves.{replacement_leaves}
use Rattle.hol_just.proofs.just.Just.subst.Goals as goal

pub returns : goal.returns
returns c =
    made_pair c.one.result (SplitsByEquation c.args.v.now (nameless [] c.args.template.now)) (λ u m. one (Replacement u m)) (var c.args.v.now) c.in_ok-variable.variable c.args.template.now
    c.in_ok-copy.field-0 (replacement_leaves c.args.v.now c.args.template.now) c.in_ok-variable.ensures.is c.in_ok-copy.ensures c.one.ensures
