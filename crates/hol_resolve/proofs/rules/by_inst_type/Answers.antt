use Rattle.std.proofs.Common.{◌≡◌, ◌∙◌, Some, ap}
use Rattle.std.proofs.lemmas.Result.{IfOk-weaker}
use Rattle.hol_resolve.specs.Forward.{pairs_at}
use Rattle.hol_resolve.specs.ReadingView.{readings_value}
use Rattle.hol_resolve.proofs.Applied.{types_gave}
use Rattle.hol_resolve.proofs.rules.by_inst_type.Goals as goal

pub returns-in-Some : goal.returns-in-Some
returns-in-Some c =
    let read : Some c.in-Some.list.items ≡ pairs_at (readings_value c.args.readings.now) c.args.pairs.now = rw c.in-Some.is at c.in_ok-list.ensures in
    let found : Some c.deref.result.now ≡ pairs_at (readings_value c.args.readings.now) c.args.pairs.now = ap Some c.deref.ensures.value ∙ read in
    IfOk-weaker c.by_types.result _ _
    (λ r e. types_gave c.args._basis.now (readings_value c.args.readings.now) c.args.pairs.now c.deref.result.now c.args.part c.in-Ok.th r found c.in-Ok.is c.requires.placed c.requires.over e)
    c.by_types.ensures
