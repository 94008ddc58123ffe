use Rattle.std.proofs.Common.{[], ap, sym, ◌∙◌}
use Rattle.hol_terms.specs.Nameless.{nameless_type}
use Rattle.hol_just.proofs.TraceTypes.{types_same}
use Rattle.hol_just.proofs.conversions.conversion_typed.Goals as goal

pub returns : goal.returns
returns c =
    types_same c.node.result.now c.args.trace.now.old c.args.trace.now.new c.type_of-ty.result.now c.keeps_type.ensures c.node.ensures.gives
    (ap (nameless_type []) (sym c.old.ensures) ∙ c.type_of-ty.ensures.nameless)
