use Rattle.std.proofs.Common.{ap, arith}
use Rattle.hol_notation_tactics.specs.Text.{tac_nodes}
use Rattle.hol_notation_tactics.proofs.SameTactics.{nodes_at}
use Rattle.hol_notation_tactics.proofs.parts.+add_tactic.Goals as goal

pub add_tactics-add_tactic-requires : goal.add_tactics-add_tactic-requires
add_tactics-add_tactic-requires t c =
    let h = nodes_at c.args.tactics.now c.loop-tactic.tactic-index c.tactic-item.result c.loop-tactic-test.true in
    (omega (arith, h, ap tac_nodes c.tactic-item.is, c.decreases), tt)
