use Rattle.std.proofs.Common.{ℕ, List, subst}
use Rattle.std.proofs.lemmas.Result.{IfOk-weaker, IfErr-weaker}
use Rattle.hol_types.specs.Tree.{TypeTree}
use Rattle.hol_typing.specs.declared.cell.Cell.{Cell}
use Rattle.hol_typing.specs.Graph.{Respects}
use Rattle.hol_typing.specs.Found.{AreGeneral}
use Rattle.hol_typing.proofs.General.{solved_by, unsolved}
use Rattle.hol_typing.proofs.principal.solve.Goals as goal

pub returns-clause-solved : goal.returns-clause-solved
returns-clause-solved c = IfOk-weaker c.shapes_of.result _ _
    (λ v g. solved_by c.args.graph c.settle.new.self v.items c.in_ok-settle.ensures.refines c.in_ok-settle.ensures.solved (subst (λ (xs : List Cell). AreGeneral xs v.items) c.deref.ensures.value g))
    c.shapes_of.ensures.general

pub returns-clause-untypable : goal.returns-clause-untypable
returns-clause-untypable c = IfErr-weaker c.shapes_of.result _ _
    (λ e h u. unsolved c.args.graph c.settle.new.self c.in_ok-settle.ensures.refines (subst (λ (xs : List Cell). (types : ℕ → TypeTree) → Respects xs types → ⊥) c.deref.ensures.value (h u)))
    c.shapes_of.ensures.untypable
