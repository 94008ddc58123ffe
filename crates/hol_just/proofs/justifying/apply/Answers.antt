use Rattle.hol_just.specs.Reasons.{inference}
use Rattle.hol_just.proofs.Applied.{where_ok}
use Rattle.hol_just.proofs.Moves.{at_within, infer_gives, infer_at}
use Rattle.hol_just.proofs.justifying.apply.Goals as goal

pub go_to-requires : goal.go_to-requires
go_to-requires c = at_within c.args.one.now.place (inference c.args.thms.now.basis c.args.one.now.reason) _ c.requires.gives

pub infer-requires-clause-gives : goal.infer-requires-clause-gives
infer-requires-clause-gives c =
    infer_gives c.args.thms.now c.go_to.new.self c.args.one.now.place c.args.one.now.reason c.in_ok-go_to.ensures.same c.in_ok-go_to.ensures.place c.requires.gives

pub returns-clause-inferred : goal.returns-clause-inferred
returns-clause-inferred c =
    where_ok c.infer.result
    (infer_at c.args.thms.now c.go_to.new.self c.infer.new.thms c.args.one.now.place c.args.one.now.reason c.in_ok-go_to.ensures.same c.in_ok-go_to.ensures.place)
    c.infer.ensures
