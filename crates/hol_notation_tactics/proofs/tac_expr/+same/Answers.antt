use Rattle.std.proofs.Common.{ap, arith}
use Rattle.hol_notation_tactics.specs.Text.{tac_nodes}
use Rattle.hol_notation_tactics.proofs.SameTactics.{nodes_at, other_length}
use Rattle.hol_notation_tactics.proofs.tac_expr.+same.Goals as goal

pub same_tactics-same-requires : goal.same_tactics-same-requires
same_tactics-same-requires t c =
    let h = nodes_at c.args.tactics.now c.loop-i.i c.index-tactics-i.result c.loop-i-test.true in
    (omega (arith, h, ap tac_nodes c.index-tactics-i.is, c.decreases), tt)

pub same_tactics-returns-then-tactics-others : goal.same_tactics-returns-then-tactics-others
same_tactics-returns-then-tactics-others t c = other_length c.args.tactics.now c.args.others.now c.if-tactics-others.true
