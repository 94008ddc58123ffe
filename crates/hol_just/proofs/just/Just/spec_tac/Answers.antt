use Rattle.std.specs.Prelude.{List, ℕ}
use Rattle.std.proofs.Common.{[]}
use Rattle.hol_types.specs.Tree.{TypeTree}
use Rattle.hol_terms.specs.Nameless.{nameless}
use Rattle.hol_just.specs.Justifies.{LeavesGeneralized}
use Rattle.hol_just.specs.declared.reason.Reason.TheVariants.{Specialization}
use Rattle.hol_just.proofs.Applied.{made_as}
use Rattle.hol_just.proofs.OneMove.{one}
use Rattle.hol_just.proofs.EliminationMoves.{specialization_leaves}
use Rattle.hol_just.proofs.just.Just.spec_tac.Goals as goal

pub returns : goal.returns
returns c =
    made_as c.one.result (λ moves. (v : List ℕ × TypeTree) → LeavesGeneralized (nameless [] c.args.t.now) v moves) (λ t. one (Specialization t)) c.args.t.now c.in_ok-copy.field-0
    (λ v. specialization_leaves c.args.t.now v) c.in_ok-copy.ensures c.one.ensures
