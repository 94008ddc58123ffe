use Rattle.std.proofs.lemmas.Result.{IfOk-weaker}
use Rattle.hol_typing.proofs.Generating.{builds_variable_some, builds_variable_none}
use Rattle.hol_typing.proofs.generate.Graph.variable_slot.Goals as goal

pub returns-in-Some : goal.returns-in-Some
returns-in-Some c =
    IfOk-weaker c.type_slot.result _ _
    (λ slot b. builds_variable_some c.args.self.now c.type_slot.new.self slot c.args.annotation.now c.in-Some.ty c.in-Some.is b)
    c.type_slot.ensures

pub returns-in-None : goal.returns-in-None
returns-in-None c = IfOk-weaker c.fresh.result _ _
    (λ slot f. builds_variable_none c.args.self.now c.fresh.new.self slot c.args.annotation.now c.in-None.is c.requires.well_formed f)
    c.fresh.ensures
