use Rattle.std.proofs.lemmas.Result.{IfOk-weaker}
use Rattle.hol_typing.proofs.Bound.{bound_free}
use Rattle.hol_typing.proofs.generate.Graph.bound_variable.Goals as goal

pub returns-in-None : goal.returns-in-None
returns-in-None c = IfOk-weaker c.fresh.result _ _
    (λ slot f. bound_free c.args.self.now c.fresh.new.self c.args.names.now c.args.base slot c.args.name.now c.requires.well_formed c.in-None.ensures f)
    c.fresh.ensures
