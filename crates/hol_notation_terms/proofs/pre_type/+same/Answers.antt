use Rattle.std.proofs.Common.{ap, arith}
use Rattle.hol_notation_terms.specs.Text.{type_nodes}
use Rattle.hol_notation_terms.proofs.SameTypes.{nodes_at, other_length}
use Rattle.hol_notation_terms.proofs.pre_type.+same.Goals as goal

pub same_types-same-requires : goal.same_types-same-requires
same_types-same-requires t c =
    let h = nodes_at c.args.types.now c.loop-i.i c.index-types-i.result c.loop-i-test.true in
    (omega (arith, h, ap type_nodes c.index-types-i.is, c.decreases), tt)

pub same_types-returns-then-types-others : goal.same_types-returns-then-types-others
same_types-returns-then-types-others t c = other_length c.args.types.now c.args.others.now c.if-types-others.true
