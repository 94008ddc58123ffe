use Rattle.std.proofs.Common.{refl}
use Rattle.std.proofs.lemmas.Result.{IfOk-weaker}
use Rattle.hol_types.specs.Tree.{TyVar}
use Rattle.hol_typing.proofs.Types.{rigid_slot}
use Rattle.hol_typing.proofs.generate.Graph.type_variable_slot.Goals as goal

pub returns-in_ok-copy-in-None : goal.returns-in_ok-copy-in-None
returns-in_ok-copy-in-None c = IfOk-weaker c.fresh.result _ _
    (λ slot f. rigid_slot c.args.self.now c.fresh.new.self c.args.names.now c.args.base slot (TyVar c.args.name.now) c.args.name.now c.in_ok-copy-in-None.field-0
    c.requires.well_formed refl c.in_ok-copy-in-None.ensures c.requires.rigid c.in-None.ensures f)
    c.fresh.ensures
