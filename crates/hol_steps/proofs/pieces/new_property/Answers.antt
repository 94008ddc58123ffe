use Rattle.std.proofs.Common.{[], map, refl}
use Rattle.std.proofs.lemmas.Result.{IfOk-weaker}
use Rattle.hol_terms.specs.Nameless.{nameless}
use Rattle.hol_just.specs.Strip.{avoiding}
use Rattle.hol_steps.proofs.pieces.new_property.Goals as goal

pub property-requires-clause-typed : goal.property-requires-clause-typed
property-requires-clause-typed c = (c.in_ok-v.ensures (avoiding (map (nameless []) c.args.others.now) c.args.names.now) ((λ a. refl), refl)).typed

pub returns : goal.returns
returns c = IfOk-weaker c.property.result _ _ (λ parts are avoided alike. are avoided (c.in_ok-v.ensures avoided alike)) c.property.ensures
